-- Connect options as lines of text.
use Rattle.std.specs.Prelude.{◌∷◌, ◌++◌, [], List, ℕ, Option, Some, None, codes}
use Rattle.std.specs.Fmt.{decimal}
use Rattle.pg_options.specs.Options.{ConnectOptions}
use Rattle.pg_options.specs.SslModes.{ssl_mode_name}
use Rattle.pg_report.specs.Bytes.{quoted_text}

-- a word, a space, what is said of it, and the end of the line
unfoldable pub told : List ℕ → List ℕ → List ℕ
told word value = word ++ 32 ∷ value ++ 10 ∷ []

-- a text in quotes, or the word for none
unfoldable pub text_or_none : Option (List ℕ) → List ℕ
text_or_none (Some text) = quoted_text text
text_or_none None = codes "none"

-- only whether a password is set is told
unfoldable pub set_or_none : Option (List ℕ) → List ℕ
set_or_none (Some password) = codes "set"
set_or_none None = codes "none"

unfoldable pub address_lines : ConnectOptions → List ℕ
address_lines o =
    told (codes "host") (quoted_text o.host) ++
    told (codes "port") (decimal o.port) ++
    told (codes "socket") (text_or_none o.socket)

unfoldable pub session_lines : ConnectOptions → List ℕ
session_lines o =
    told (codes "user") (quoted_text o.username) ++
    told (codes "password") (set_or_none o.password) ++
    told (codes "database") (text_or_none o.database) ++
    told (codes "sslmode") (ssl_mode_name o.ssl_mode) ++
    told (codes "cache") (decimal o.statement_cache_capacity)

unfoldable pub last_lines : Option (List ℕ) → List ℕ → List ℕ
last_lines options url =
    told (codes "options") (text_or_none options) ++ told (codes "url") (quoted_text url)

-- the eleven lines of options and of the URL that says them
unfoldable pub option_lines : ConnectOptions → List ℕ → List ℕ
option_lines o url =
    address_lines o ++ session_lines o ++
    told (codes "application") (text_or_none o.application_name) ++
    last_lines o.options url
