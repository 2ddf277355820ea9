-- Columns by their places and names.
use Rattle.std.specs.Prelude.{◌≡◌, ◌≢◌, ℕ, ◌+◌, ◌≤◌, List, length, map, drop, slice_get, Option, Some, None}
use Rattle.std.specs.List.{AllByRecursion}
use Rattle.pg_wire.specs.declared.error.Error.{Error}
use Rattle.pg_wire.specs.declared.error.Error.TheVariants as errors
use Rattle.pg_columns.specs.declared.column.PgColumn.{PgColumn}

abbrev pub names_of : List PgColumn → List (List ℕ)
names_of columns = map (λ column. column.field.name) columns

-- the last one of a name, or that none has it
abbrev pub IsLastNamed : List ℕ → List (List ℕ) → Option ℕ → Type 0
IsLastNamed name names (Some place) = (slice_get names place ≡ Some name) × AllByRecursion (λ other. other ≢ name) (drop (place + 1) names)
IsLastNamed name names None = AllByRecursion (λ other. other ≢ name) names

-- there is no column at a place, and the error says so
abbrev pub MissesPlace : List PgColumn → ℕ → Error → Type 0
MissesPlace columns index e = (length columns ≤ index) × (e ≡ errors.ColumnIndexOutOfBounds index (length columns))

-- there is none of a name, and the error says it, or memory is wanted for that
abbrev pub MissesName : List ℕ → List (List ℕ) → Error → Type 0
MissesName name names (errors.ColumnNotFound said) = (said ≡ name) × IsLastNamed name names None
MissesName name names errors.OutOfMemory = IsLastNamed name names None
MissesName name names _ = ⊥
