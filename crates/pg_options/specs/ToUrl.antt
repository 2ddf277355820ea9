-- The URL of options (PostgreSQL manual, "libpq", "Connection URIs"), and the file of their local socket.
use Rattle.std.specs.Prelude.{ℕ, List, [], ◌∷◌, ◌++◌, codes, decimal, Option, Some, None, option_map, Result, Ok, if◌then◌else◌}
use Rattle.percent_encoding.specs.declared.ascii_set.TheConstants.{NON_ALPHANUMERIC}
use Rattle.percent_encoding.specs.Percent.{percent_encode}
use Rattle.url.specs.Parts.{Parts}
use Rattle.url.specs.Setters.{set_password, set_path, append_query_pairs}
use Rattle.pg_wire.specs.declared.error.Error.{Error}
use Rattle.pg_options.specs.declared.certificate.CertificateInput.{CertificateInput}
use Rattle.pg_options.specs.Answering.{and_then}
use Rattle.pg_options.specs.Certificates.{certificate_text}
use Rattle.pg_options.specs.Options.{ConnectOptions}
use Rattle.pg_options.specs.SslModes.{ssl_mode_name}
use Rattle.pg_options.specs.UrlTexts.{url_from, url_or_refused, begins_path}

-- each byte but letters and digits escaped (URL Standard, section 1.3)
abbrev pub encoded : List ℕ → List ℕ
encoded text = percent_encode NON_ALPHANUMERIC text

-- the socket's directory stands for the host
abbrev pub host_part : Option (List ℕ) → List ℕ → List ℕ
host_part None host = host
host_part (Some path) host = encoded path

-- `postgres://user@host:port`
unfoldable pub address : List ℕ → List ℕ → ℕ → List ℕ
address user host port = codes "postgres://" ++ user ++ codes "@" ++ host ++ codes ":" ++ decimal port

abbrev pub with_password : Parts → Option (List ℕ) → Result Parts Error
with_password url None = Ok url
with_password url (Some password) = url_or_refused (set_password url (Some (encoded password)))

abbrev pub with_path : Parts → Option (List ℕ) → Parts
with_path url None = url
with_path url (Some database) = set_path url database

-- one more pair in the query
abbrev pub with_pair : Parts → List ℕ → List ℕ → Parts
with_pair url key value = append_query_pairs url ((key, value) ∷ [])

abbrev pub with_certificate : Parts → List ℕ → Option CertificateInput → Parts
with_certificate url key None = url
with_certificate url key (Some input) = with_pair url key (certificate_text input)

-- the three certificates, where they are set
abbrev pub with_certificates : Parts → ConnectOptions → Parts
with_certificates url o =
    with_certificate (with_certificate (with_certificate url
    (codes "sslrootcert") o.ssl_root_cert)
    (codes "sslcert") o.ssl_client_cert)
    (codes "sslkey") o.ssl_client_key

abbrev pub with_query : Parts → ConnectOptions → Parts
with_query url o =
    with_pair (with_certificates (with_pair url (codes "sslmode") (ssl_mode_name o.ssl_mode)) o)
    (codes "statement-cache-capacity") (decimal o.statement_cache_capacity)

-- the URL of the options, or the refusal of its address or of a password on it
abbrev pub url_of_options : ConnectOptions → Result Parts Error
url_of_options o =
    and_then (url_from (address o.username (host_part o.socket o.host) o.port)) (λ bare.
    and_then (with_password bare o.password) (λ url.
    Ok (with_query (with_path url o.database) o)))

-- ---- the local socket

-- the directory of a local socket, which may also stand as the host
abbrev pub socket_directory : Option (List ℕ) → List ℕ → Option (List ℕ)
socket_directory (Some path) host = Some path
socket_directory None host = if begins_path host then Some host else None

unfoldable pub socket_file : List ℕ → ℕ → List ℕ
socket_file directory port = directory ++ codes "/.s.PGSQL." ++ decimal port

-- the file of the socket (PostgreSQL manual, "Connections and Authentication", unix_socket_directories)
abbrev pub socket_of_options : ConnectOptions → Option (List ℕ)
socket_of_options o =
    option_map (λ directory. socket_file directory o.port) (socket_directory o.socket o.host)
