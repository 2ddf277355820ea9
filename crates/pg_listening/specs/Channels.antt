-- The statements of a listener (PostgreSQL manual, "SQL Commands": LISTEN, UNLISTEN; "Identifiers and Key Words": a double quote is byte 34).
use Rattle.std.specs.Prelude.{ℕ, ◌==◌, ◌++◌, List, codes}
use Rattle.std.specs.List.{before_first, flat_map}
use Rattle.pg_migrate.specs.Quoting.{quoted}

-- a channel up to its first zero byte, which no name has
abbrev pub channel_name : List ℕ → List ℕ
channel_name channel = before_first (λ b. b == 0) channel

abbrev pub listen_text : List ℕ → List ℕ
listen_text channel = codes "LISTEN " ++ quoted 34 (channel_name channel)

abbrev pub unlisten_text : List ℕ → List ℕ
unlisten_text channel = codes "UNLISTEN " ++ quoted 34 (channel_name channel)

abbrev pub unlisten_all_text : List ℕ
unlisten_all_text = codes "UNLISTEN *"

-- one statement for each, in one text
abbrev pub listen_each_text : List (List ℕ) → List ℕ
listen_each_text channels = flat_map (λ channel. listen_text channel ++ codes ";") channels
