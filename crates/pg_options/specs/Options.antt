-- What is seen of connect options, and what they are where only settings speak.
use Rattle.std.specs.Prelude.{ℕ, ℤ, pos, List, [], Option, Some, None, option_map, option_and_then, unwrap_or, codes}
use Rattle.std.specs.Option.{option_or}
use Rattle.pg_options.specs.Certificates.{certificate_from}
use Rattle.pg_options.specs.Numbers.{port_from}
use Rattle.pg_options.specs.SslModes.{ssl_mode_from}
use Rattle.pg_options.specs.declared.settings.PgSettings.{PgSettings}
use Rattle.pg_options.specs.declared.certificate.CertificateInput.{CertificateInput}
use Rattle.pg_options.specs.declared.ssl_mode.PgSslMode.{PgSslMode}
use Rattle.pg_options.specs.declared.ssl_mode.PgSslMode.TheVariants.{Prefer}

pub record ConnectOptions : Type 0 where
  pub host : List ℕ
  pub port : ℕ
  pub socket : Option (List ℕ)
  pub username : List ℕ
  pub password : Option (List ℕ)
  pub database : Option (List ℕ)
  pub ssl_mode : PgSslMode
  pub ssl_root_cert : Option CertificateInput
  pub ssl_client_cert : Option CertificateInput
  pub ssl_client_key : Option CertificateInput
  pub statement_cache_capacity : ℕ
  pub application_name : Option (List ℕ)
  pub extra_float_digits : Option ℤ
  pub options : Option (List ℕ)

-- where nothing is set
abbrev pub defaults : ConnectOptions
defaults = record {
  host = codes "localhost";
  port = 5432;
  socket = None;
  username = codes "unknown";
  password = None;
  database = None;
  ssl_mode = Prefer;
  ssl_root_cert = None;
  ssl_client_cert = None;
  ssl_client_key = None;
  statement_cache_capacity = 100;
  application_name = None;
  extra_float_digits = Some (pos 2);
  options = None;
}

-- before anything is set
abbrev pub unset : ConnectOptions
unset = record {
  host = [];
  port = 0;
  socket = None;
  username = [];
  password = None;
  database = None;
  ssl_mode = Prefer;
  ssl_root_cert = None;
  ssl_client_cert = None;
  ssl_client_key = None;
  statement_cache_capacity = 100;
  application_name = None;
  extra_float_digits = Some (pos 2);
  options = None;
}

-- no setting is set
abbrev pub no_settings : PgSettings
no_settings = record {
  host_addr = None;
  host = None;
  port = None;
  user = None;
  system_user = None;
  password = None;
  database = None;
  ssl_root_cert = None;
  ssl_cert = None;
  ssl_key = None;
  ssl_mode = None;
  app_name = None;
  options = None;
  default_host = None;
}

-- the first host that is set
abbrev pub host_from : PgSettings → List ℕ
host_from env =
    unwrap_or (option_or env.host_addr (option_or env.host env.default_host)) (codes "localhost")

-- the first user that is set
abbrev pub user_from : PgSettings → List ℕ
user_from env = unwrap_or (option_or env.user env.system_user) (codes "unknown")

-- the options of the settings alone (PostgreSQL manual, "libpq", "Environment Variables")
abbrev pub options_from : PgSettings → ConnectOptions
options_from env = record {
  host = host_from env;
  port = unwrap_or (option_and_then port_from env.port) 5432;
  socket = None;
  username = user_from env;
  password = env.password;
  database = env.database;
  ssl_mode = unwrap_or (option_and_then ssl_mode_from env.ssl_mode) Prefer;
  ssl_root_cert = option_map certificate_from env.ssl_root_cert;
  ssl_client_cert = option_map certificate_from env.ssl_cert;
  ssl_client_key = option_map certificate_from env.ssl_key;
  statement_cache_capacity = 100;
  application_name = env.app_name;
  extra_float_digits = Some (pos 2);
  options = env.options;
}
