-- The names of the TLS modes (PostgreSQL manual, "libpq", "Parameter Key Words", sslmode).
use Rattle.std.specs.Prelude.{ℕ, List, [], ◌∷◌, map, codes, bytes_eq, Option, Some, None, if◌then◌else◌}
use Rattle.std.specs.Char.{to_ascii_lowercase}
use Rattle.pg_options.specs.declared.ssl_mode.PgSslMode.{PgSslMode}
use Rattle.pg_options.specs.declared.ssl_mode.PgSslMode.TheVariants.{Disable, Allow, Prefer, Require, VerifyCa, VerifyFull}

-- the name as it is written
abbrev pub ssl_mode_name : PgSslMode → List ℕ
ssl_mode_name Disable = codes "disable"
ssl_mode_name Allow = codes "allow"
ssl_mode_name Prefer = codes "prefer"
ssl_mode_name Require = codes "require"
ssl_mode_name VerifyCa = codes "verify-ca"
ssl_mode_name VerifyFull = codes "verify-full"

-- the first of these modes with this name
abbrev pub mode_named : List ℕ → List PgSslMode → Option PgSslMode
mode_named name [] = None
mode_named name (mode ∷ modes) =
    if bytes_eq name (ssl_mode_name mode) then Some mode else mode_named name modes

abbrev pub ssl_modes : List PgSslMode
ssl_modes = Disable ∷ Allow ∷ Prefer ∷ Require ∷ VerifyCa ∷ VerifyFull ∷ []

-- the mode with this name in any ASCII case
unfoldable pub ssl_mode_from : List ℕ → Option PgSslMode
ssl_mode_from text = mode_named (map to_ascii_lowercase text) ssl_modes
