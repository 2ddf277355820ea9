-- What a listener changes of its channels, and the statement that asks for it (PostgreSQL manual, "SQL Commands": LISTEN, UNLISTEN).
use Rattle.std.specs.Prelude.{ℕ, Bool, true, false, bytes_eq, List, [], ◌∷◌, ◌++◌}
use Rattle.std.specs.List.{before_first, after_first}
use Rattle.pg_listening.specs.declared.channel_change.ChannelChange.{ChannelChange}
use Rattle.pg_listening.specs.declared.channel_change.ChannelChange.TheVariants as changes
use Rattle.pg_listening.specs.Channels.{listen_text, listen_each_text, unlisten_text, unlisten_all_text}

abbrev pub statement_of : ChannelChange → List ℕ
statement_of (changes.Listen channel) = listen_text channel
statement_of (changes.ListenAll channels) = listen_each_text channels
statement_of (changes.Unlisten channel) = unlisten_text channel
statement_of changes.UnlistenAll = unlisten_all_text

-- it listens to more channels, and not to fewer
abbrev pub listens : ChannelChange → Bool
listens (changes.Listen channel) = true
listens (changes.ListenAll channels) = true
listens change = false

abbrev pub is_named : List ℕ → List ℕ → Bool
is_named name channel = bytes_eq channel name

-- but for the first of this name
abbrev pub without_first : List ℕ → List (List ℕ) → List (List ℕ)
without_first name channels = before_first (is_named name) channels ++ after_first (is_named name) channels

-- the channels behind it: one that is listened to twice stands twice
abbrev pub changed : ChannelChange → List (List ℕ) → List (List ℕ)
changed (changes.Listen channel) channels = channels ++ channel ∷ []
changed (changes.ListenAll more) channels = channels ++ more
changed (changes.Unlisten channel) channels = without_first channel channels
changed changes.UnlistenAll channels = []
