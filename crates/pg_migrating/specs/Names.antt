-- Which database a call is about, and which one it connects to (PostgreSQL manual, "Creating a Database", "Template Databases").
use Rattle.std.specs.Prelude.{ℕ, List, Some, unwrap_or, bytes_eq, codes, if◌then◌else◌}
use Rattle.pg_options.specs.Options.{ConnectOptions}

-- the database that options name; where they name none, a server takes the one that is named like the user
abbrev pub database_of : ConnectOptions → List ℕ
database_of o = unwrap_or o.database o.username

-- A database isn't made or dropped from a session that is on it, and each cluster has these two.
abbrev pub maintenance_name : List ℕ → List ℕ
maintenance_name database = if bytes_eq database (codes "postgres") then codes "template1" else codes "postgres"

abbrev pub maintenance : ConnectOptions → ConnectOptions
maintenance o = record o { database = Some (maintenance_name (database_of o)) }
