-- Options of a URL (PostgreSQL manual, "libpq", "Connection URIs"): its parts in order, then the pairs of its query in order,
-- each over what stood before.
use Rattle.std.specs.Prelude.{ℕ, ◌+◌, List, [], ◌∷◌, ◌++◌, map, Option, Some, None, unwrap_or, option_map, Result, Ok, Err, if◌then◌else◌}
use Rattle.std.specs.Str.Lossy.{utf8_lossy}
use Rattle.percent_encoding.specs.Percent.{percent_decode}
use Rattle.form_urlencoded.specs.Form.{raw_pairs, decode}
use Rattle.url.specs.Host.{host_text}
use Rattle.url.specs.Parts.{Parts, nonempty_host}
use Rattle.pg_wire.specs.declared.error.Error.{Error}
use Rattle.pg_wire.specs.declared.error.Error.TheVariants.{Configuration}
use Rattle.pg_wire.specs.declared.error.ConfigPart.{ConfigPart}
use Rattle.pg_wire.specs.declared.error.ConfigPart.TheVariants as parts
use Rattle.pg_options.specs.declared.settings.PgSettings.{PgSettings}
use Rattle.pg_options.specs.declared.certificate.CertificateInput.TheVariants.{File}
use Rattle.pg_options.specs.declared.url_key.UrlKey.{UrlKey}
use Rattle.pg_options.specs.declared.url_key.UrlKey.TheVariants.{SslMode, SslRootCert, SslClientCert, SslClientKey, CacheCapacity, Host, HostAddr, Port, Database, User, Password, ApplicationName, Options}
use Rattle.pg_options.specs.Answering.{and_then}
use Rattle.pg_options.specs.Escaping.{options_with}
use Rattle.pg_options.specs.Numbers.{port_from, capacity_from}
use Rattle.pg_options.specs.Options.{ConnectOptions, options_from}
use Rattle.pg_options.specs.SslModes.{ssl_mode_from}
use Rattle.pg_options.specs.UrlKeys.{key_from}
use Rattle.pg_options.specs.UrlTexts.{url_from, decoded_text, without_slashes, begins_path, is_host_addr, bracketed}

abbrev Answer : Type 0
Answer = Result ConnectOptions Error

-- ---- the parts before the query

-- a host that stands for a path is the directory of a socket
abbrev pub host_taken : ConnectOptions → Option (List ℕ) → Answer
host_taken o None = Ok o
host_taken o (Some host) =
    if begins_path (percent_decode host)
    then and_then (decoded_text host) (λ path. Ok (record o { socket = Some path }))
    else Ok (record o { host = host })

abbrev pub port_taken : ConnectOptions → Option ℕ → ConnectOptions
port_taken o None = o
port_taken o (Some port) = record o { port = port }

-- the option is set to what the part stands for, unless the part is empty
abbrev pub part_taken : ConnectOptions → (List ℕ → ConnectOptions) → List ℕ → Answer
part_taken o set [] = Ok o
part_taken o set (b ∷ part) = and_then (decoded_text (b ∷ part)) (λ text. Ok (set text))

abbrev pub user_taken : ConnectOptions → List ℕ → Answer
user_taken o part = part_taken o (λ text. record o { username = text }) part

abbrev pub password_taken : ConnectOptions → List ℕ → Answer
password_taken o part = part_taken o (λ text. record o { password = Some text }) part

abbrev pub credentials_taken : ConnectOptions → Parts → Answer
credentials_taken o url =
    and_then (user_taken o url.username) (λ with_user. password_taken with_user url.password)

abbrev pub database_taken : ConnectOptions → List ℕ → Answer
database_taken o part = part_taken o (λ text. record o { database = Some text }) part

-- ---- the query

-- the pairs as a form has them (URL Standard, section 5.1): what is no UTF-8 becomes U+FFFD
abbrev pub decoded_pairs : List (List ℕ × List ℕ) → List (List ℕ × List ℕ)
decoded_pairs pairs = map (λ (name, value). (utf8_lossy (decode name), utf8_lossy (decode value))) pairs

abbrev pub query_pairs : Parts → List (List ℕ × List ℕ)
query_pairs url = decoded_pairs (raw_pairs (unwrap_or url.query []))

-- the option is set to the value, or the value of this pair is refused
abbrev pub value_taken : {T : Type 0} → ConfigPart → ℕ → (T → ConnectOptions) → Option T → Answer
value_taken which place set None = Err (Configuration which place)
value_taken which place set (Some value) = Ok (set value)

-- the options with this text behind those that are set
abbrev pub options_more : Option (List ℕ) → List ℕ → List ℕ
options_more None text = text
options_more (Some set) text = set ++ 32 ∷ text

-- a parameter of the session, where the key named one
abbrev pub parameter_taken : ConnectOptions → List ℕ → Option (List ℕ) → ConnectOptions
parameter_taken o value None = o
parameter_taken o value (Some name) = record o { options = Some (options_with o.options ((name, value) ∷ [])) }

abbrev pub key_taken : ConnectOptions → ℕ → List ℕ → UrlKey → Answer
key_taken o place value SslMode =
    value_taken parts.SslMode place (λ mode. record o { ssl_mode = mode }) (ssl_mode_from value)
key_taken o place value SslRootCert = Ok (record o { ssl_root_cert = Some (File value) })
key_taken o place value SslClientCert = Ok (record o { ssl_client_cert = Some (File value) })
key_taken o place value SslClientKey = Ok (record o { ssl_client_key = Some (File value) })
key_taken o place value CacheCapacity =
    value_taken parts.CacheCapacity place (λ n. record o { statement_cache_capacity = n }) (capacity_from value)
key_taken o place value Host =
    Ok (if begins_path value then record o { socket = Some value } else record o { host = value })
key_taken o place value HostAddr =
    if is_host_addr value then Ok (record o { host = value }) else Err (Configuration parts.HostAddr place)
key_taken o place value Port =
    value_taken parts.Port place (λ port. record o { port = port }) (port_from value)
key_taken o place value Database = Ok (record o { database = Some value })
key_taken o place value User = Ok (record o { username = value })
key_taken o place value Password = Ok (record o { password = Some value })
key_taken o place value ApplicationName = Ok (record o { application_name = Some value })
key_taken o place value Options = Ok (record o { options = Some (options_more o.options value) })

-- an unknown key is passed over
abbrev pub known_taken : ConnectOptions → ℕ → List ℕ × List ℕ → Option UrlKey → Answer
known_taken o place pair (Some key) = key_taken o place pair.1 key
known_taken o place pair None = Ok (parameter_taken o pair.1 (bracketed pair.0))

abbrev pub pair_taken : ConnectOptions → ℕ → List ℕ × List ℕ → Answer
pair_taken o place pair = known_taken o place pair (key_from pair.0)

-- the pairs in order, of which the first has this number
abbrev pub pairs_taken : ConnectOptions → ℕ → List (List ℕ × List ℕ) → Answer
pairs_taken o place [] = Ok o
pairs_taken o place (pair ∷ pairs) =
    and_then (pair_taken o place pair) (λ next. pairs_taken next (place + 1) pairs)

-- ---- the whole

-- the options of the settings, then of the URL
abbrev pub options_of_url : PgSettings → Parts → Answer
options_of_url env url =
    and_then (host_taken (options_from env) (option_map host_text (nonempty_host url))) (λ with_host.
    and_then (credentials_taken (port_taken with_host url.port) url) (λ with_credentials.
    and_then (database_taken with_credentials (without_slashes url.path)) (λ with_database.
    pairs_taken with_database 0 (query_pairs url))))

abbrev pub options_of_text : PgSettings → List ℕ → Answer
options_of_text env text = and_then (url_from text) (options_of_url env)
