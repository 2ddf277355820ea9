-- What a session begins with (PostgreSQL manual, "Message Flow", "Start-up").
use Rattle.std.specs.Prelude.{◌≡◌, ℕ, ◌<◌, ◌-◌, ◌^◌, min, length, List, [], ◌∷◌, ◌++◌, codes, flat_map, Option, Some, None, option_map}
use Rattle.std.specs.Fmt.{signed_decimal}
use Rattle.pg_wire.specs.Frontend.{startup, startup_body}
use Rattle.pg_wire.specs.Encoding.{body_max}
use Rattle.pg_wire.specs.declared.error.Error.{Error}
use Rattle.pg_wire.specs.declared.error.Error.TheVariants as errors
use Rattle.pg_wire.specs.declared.error.ConfigPart.TheVariants as parts
use Rattle.pg_wire.specs.declared.error.ProtocolFault.TheVariants as protocol
use Rattle.pg_wire.specs.declared.error.CallerFault.TheVariants as callers
use Rattle.pg_startup.specs.Nuls.{first_nul_in}
use Rattle.pg_options.specs.Options.{ConnectOptions}

-- a parameter that is set
abbrev pub said : List ℕ → Option (List ℕ) → List (List ℕ × List ℕ)
said name None = []
said name (Some value) = (name, value) ∷ []

abbrev pub fixed_parameters : List (List ℕ × List ℕ)
fixed_parameters = (codes "DateStyle", codes "ISO, MDY") ∷ (codes "client_encoding", codes "UTF8") ∷ (codes "TimeZone", codes "UTC") ∷ []

-- the parameters of a session, in order
unfoldable pub startup_parameters : ConnectOptions → List (List ℕ × List ℕ)
startup_parameters o =
    fixed_parameters ++
    said (codes "extra_float_digits") (option_map signed_decimal o.extra_float_digits) ++
    said (codes "application_name") o.application_name ++
    said (codes "options") o.options

abbrev pub startup_of : ConnectOptions → List ℕ
startup_of o = startup o.username o.database (startup_parameters o)

-- the texts of the message in its order
abbrev pub database_texts : Option (List ℕ) → List (List ℕ)
database_texts None = []
database_texts (Some database) = database ∷ []

abbrev pub parameter_texts : List ℕ × List ℕ → List (List ℕ)
parameter_texts parameter = parameter.0 ∷ parameter.1 ∷ []

abbrev pub texts_in : List ℕ → Option (List ℕ) → List (List ℕ × List ℕ) → List (List ℕ)
texts_in user database parameters = user ∷ database_texts database ++ flat_map parameter_texts parameters

abbrev pub startup_texts : ConnectOptions → List (List ℕ)
startup_texts o = texts_in o.username o.database (startup_parameters o)

-- how long the message is behind its length, or the greatest number
abbrev pub startup_size : ConnectOptions → ℕ
startup_size o = min (length (startup_body o.username o.database (startup_parameters o))) (2 ^ 64 - 1)

-- why there is no such message: a zero byte in a text, or too long texts; want of memory is free
abbrev pub RefusesStartup : ConnectOptions → Error → Type 0
RefusesStartup o (errors.Configuration parts.Nul place) = first_nul_in (startup_texts o) ≡ Some place
RefusesStartup o (errors.Protocol (protocol.Caller (callers.TooLong n))) = (first_nul_in (startup_texts o) ≡ None) × (n ≡ startup_size o) × (body_max < n)
RefusesStartup o errors.OutOfMemory = Unit {0}
RefusesStartup o _ = ⊥
