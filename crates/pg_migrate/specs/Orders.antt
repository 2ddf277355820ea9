-- The statements of the calls that move a database from one version to another, and which comes behind which.
use Rattle.std.specs.Prelude.{ℕ, Bool, if◌then◌else◌, List, [], ◌∷◌, ◌++◌, ℤ}
use Rattle.pg_migrate.specs.Clocks.{as_int8}
use Rattle.pg_migrate.specs.Crc32.{lock_id}
use Rattle.pg_migrate.specs.Texts.{current_database_text, lock_text, unlock_text, insert_row_text, update_time_text, delete_row_text}
use Rattle.pg_migrate.specs.declared.migration.Migration.{Migration}

-- an argument: an int8, a text, a bytea
pub data Bound : Type 0 where
  Int8 : ℤ → Bound
  Words : List ℕ → Bound
  Bytes : List ℕ → Bound

-- A transaction that is opened or committed; a text without arguments, which may hold several statements; a statement with its arguments.
pub data Statement : Type 0 where
  Begin : Statement
  Commit : Statement
  Script : (sql : List ℕ) → Statement
  Prepared : (sql : List ℕ) (arguments : List Bound) → Statement

-- in a transaction, unless the migration wants none
abbrev pub in_transaction : Bool → List Statement → List Statement
in_transaction no_tx statements = if no_tx then statements else Begin ∷ statements ++ Commit ∷ []

abbrev pub row_of : List ℕ → Migration → Statement
row_of table m = Prepared (insert_row_text table) (Int8 m.version ∷ Words m.description ∷ Bytes m.checksum ∷ [])

abbrev pub without_row : List ℕ → Migration → Statement
without_row table m = Prepared (delete_row_text table) (Int8 m.version ∷ [])

-- how long it took: the nanoseconds from before the first statement to behind the commit
abbrev pub time_of : List ℕ → Migration → ℕ → Statement
time_of table m nanos = Prepared (update_time_text table) (Int8 (as_int8 nanos) ∷ Int8 m.version ∷ [])

abbrev pub apply_statements : List ℕ → Migration → ℕ → List Statement
apply_statements table m nanos = in_transaction m.no_tx (Script m.sql ∷ row_of table m ∷ []) ++ time_of table m nanos ∷ []

abbrev pub revert_statements : List ℕ → Migration → List Statement
revert_statements table m = in_transaction m.no_tx (Script m.sql ∷ without_row table m ∷ [])

abbrev pub skip_statements : List ℕ → Migration → List Statement
skip_statements table m = row_of table m ∷ []

-- ---- the lock, by the name that the first statement is answered with

abbrev pub lock_statements : List ℕ → List Statement
lock_statements database = Prepared current_database_text [] ∷ Prepared lock_text (Int8 (lock_id database) ∷ []) ∷ []

abbrev pub unlock_statements : List ℕ → List Statement
unlock_statements database = Prepared current_database_text [] ∷ Prepared unlock_text (Int8 (lock_id database) ∷ []) ∷ []
