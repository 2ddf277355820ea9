-- What a session is opened for: where, and what is asked there.
use Rattle.std.specs.Prelude.{◌≡◌, ◌⊎◌, ℕ, List, [], ◌∷◌, Result, Ok, Err}
use Rattle.pg_wire.specs.declared.error.Error.{Error}
use Rattle.pg_wire.specs.declared.error.Error.TheVariants as errors
use Rattle.pg_options.specs.Options.{ConnectOptions}
use Rattle.pg_options.specs.FromUrl.{options_of_text}
use Rattle.pg_options.specs.declared.settings.PgSettings.{PgSettings}
use Rattle.pg_call.specs.declared.kind.How.{How}
use Rattle.pg_call.specs.declared.kind.How.TheVariants as hows
use Rattle.pg_migrate.specs.Orders.{Statement, Prepared, Script, Words}
use Rattle.pg_migrate.specs.Texts.{create_database_text, database_exists_text, drop_database_text, version_text}
use Rattle.pg_migrating.specs.Requests.{IsRequestOf}
use Rattle.pg_migrating.specs.Names.{database_of, maintenance}
use Rattle.pg_migrating.specs.declared.errand.Errand.{Errand}
use Rattle.pg_migrating.specs.declared.errand.Task.{Task}
use Rattle.pg_migrating.specs.declared.errand.Task.TheVariants as tasks

-- the call of a task, and its statement
abbrev pub how_of : Task → How
how_of tasks.Create = hows.Execute
how_of tasks.Exists = hows.FetchOne
how_of tasks.Version = hows.FetchOne
how_of tasks.Remove = hows.Execute

abbrev pub statement_of : Task → List ℕ → Statement
statement_of tasks.Create database = Script (create_database_text database)
statement_of tasks.Exists database = Prepared database_exists_text (Words database ∷ [])
statement_of tasks.Version database = Prepared version_text []
statement_of tasks.Remove database = Script (drop_database_text database)

-- these options, but at another database, and the statement about the one that they name
pub record IsErrand (task : Task) (o : ConnectOptions) (errand : Errand) : Type 0 where
  pub options : errand.options ≡ maintenance o
  pub request : IsRequestOf (how_of task) 0 (statement_of task (database_of o)) (Ok errand.request)

-- the statement is refused; want of memory is free
abbrev pub RefusesErrand : Task → ConnectOptions → Error → Type 0
RefusesErrand task o e = (e ≡ errors.OutOfMemory) ⊎ IsRequestOf (how_of task) 0 (statement_of task (database_of o)) (Err e)

abbrev pub AsksAt : Task → ConnectOptions → Result Errand Error → Type 0
AsksAt task o (Ok errand) = IsErrand task o errand
AsksAt task o (Err e) = RefusesErrand task o e

-- What is asked of the options of a URL, over settings; and where they can't be read, that is told.
abbrev pub AsksOf : {X : Type 0} → (ConnectOptions → Result X Error → Type 0) → PgSettings → List ℕ → Result X Error → Type 0
AsksOf asks env url (Ok x) = (o : ConnectOptions) × (options_of_text env url ≡ Ok o) × asks o (Ok x)
AsksOf asks env url (Err e) = (e ≡ errors.OutOfMemory) ⊎ (options_of_text env url ≡ Err e) ⊎ ((o : ConnectOptions) × (options_of_text env url ≡ Ok o) × asks o (Err e))
