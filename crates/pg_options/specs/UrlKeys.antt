-- The keys of a URL's query that set options (PostgreSQL manual, "libpq", "Parameter Key Words"; the forms with a dash are this driver's own).
use Rattle.std.specs.Prelude.{ℕ, List, [], ◌∷◌, codes, bytes_eq, Option, Some, None, if◌then◌else◌}
use Rattle.pg_options.specs.declared.url_key.UrlKey.{UrlKey}
use Rattle.pg_options.specs.declared.url_key.UrlKey.TheVariants.{SslMode, SslRootCert, SslClientCert, SslClientKey, CacheCapacity, Host, HostAddr, Port, Database, User, Password, ApplicationName, Options}

abbrev pub url_keys : List (List ℕ × UrlKey)
url_keys =
    (codes "sslmode", SslMode)
    ∷ (codes "ssl-mode", SslMode)
    ∷ (codes "sslrootcert", SslRootCert)
    ∷ (codes "ssl-root-cert", SslRootCert)
    ∷ (codes "ssl-ca", SslRootCert)
    ∷ (codes "sslcert", SslClientCert)
    ∷ (codes "ssl-cert", SslClientCert)
    ∷ (codes "sslkey", SslClientKey)
    ∷ (codes "ssl-key", SslClientKey)
    ∷ (codes "statement-cache-capacity", CacheCapacity)
    ∷ (codes "host", Host)
    ∷ (codes "hostaddr", HostAddr)
    ∷ (codes "port", Port)
    ∷ (codes "dbname", Database)
    ∷ (codes "user", User)
    ∷ (codes "password", Password)
    ∷ (codes "application_name", ApplicationName)
    ∷ (codes "options", Options)
    ∷ []

-- the key that stands first beside this text
abbrev pub key_named : List ℕ → List (List ℕ × UrlKey) → Option UrlKey
key_named text [] = None
key_named text (entry ∷ entries) =
    if bytes_eq text entry.0 then Some entry.1 else key_named text entries

unfoldable pub key_from : List ℕ → Option UrlKey
key_from text = key_named text url_keys
