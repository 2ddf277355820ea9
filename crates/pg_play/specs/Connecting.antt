-- The connect options that a script says.
use Rattle.std.specs.Prelude.{ℕ, ◌∷◌, [], List, Option, Some, unwrap_or}
use Rattle.std.specs.Option.{option_or}
use Rattle.pg_options.specs.Options.{ConnectOptions, defaults}
use Rattle.pg_options.specs.Escaping.{options_with}
use Rattle.pg_script.specs.declared.script.Script.{Script}

-- where no pair is said the text stays as it was
abbrev pub switches_said : List (List ℕ × List ℕ) → Option (List ℕ) → Option (List ℕ)
switches_said [] options = options
switches_said (pair ∷ pairs) options = Some (options_with options (pair ∷ pairs))

-- what a script does not say is as by default
abbrev pub options_of : Script → ConnectOptions
options_of script = record defaults {
  username = unwrap_or script.user defaults.username;
  password = option_or script.password defaults.password;
  database = option_or script.database defaults.database;
  application_name = option_or script.application defaults.application_name;
  ssl_mode = unwrap_or script.ssl_mode defaults.ssl_mode;
  statement_cache_capacity = unwrap_or script.cache defaults.statement_cache_capacity;
  extra_float_digits = unwrap_or script.digits defaults.extra_float_digits;
  options = switches_said script.options defaults.options;
}
