-- A row, and its values by the columns that describe them (PostgreSQL manual, "Message Formats", RowDescription and DataRow).
use Rattle.std.specs.Prelude.{◌≡◌, ℕ, List, [], length, take, unwrap_or, Option, Some, None, slice_get, slice_index_or}
use Rattle.pg_wire.specs.declared.error.Error.{Error}
use Rattle.pg_wire.specs.declared.error.Error.TheVariants as errors
use Rattle.pg_wire.specs.Backend.{Values}
use Rattle.pg_arguments.specs.Types.{TypeParts}
use Rattle.pg_values.specs.declared.format.PgValueFormat.{PgValueFormat}
use Rattle.pg_columns.specs.declared.column.PgColumn.{PgColumn}
use Rattle.pg_columns.specs.Columns.{IsLastNamed, MissesName, MissesPlace, names_of}
use Rattle.pg_rows.specs.declared.heading.Heading.{Heading}

-- a row's values in order, where None is a null, and what it has in common with the other rows of its statement
pub record RowSeen : Type 0 where
  pub values : Values
  pub heading : Heading

-- its columns: those that are described, and no more than it has values
abbrev pub columns_in : RowSeen → List PgColumn
columns_in row = take (length row.values) (unwrap_or row.heading.columns [])

-- the bytes of a value
abbrev pub value_at : RowSeen → ℕ → Option (List ℕ)
value_at row place = slice_index_or row.values place None

-- the type of the column at a place, and the value there
pub record IsValueAt (row : RowSeen) (place : ℕ) (of : TypeParts) (format : PgValueFormat) (value : Option (List ℕ)) : Type 0 where
  pub column : PgColumn
  pub stands : slice_get (columns_in row) place ≡ Some column
  pub type_is : of ≡ column.type_info
  pub format_is : format ≡ row.heading.format
  pub value_is : value ≡ value_at row place

-- what a reader of values answers to the value at a place
abbrev pub Reads : {X : Type 0} → (TypeParts → PgValueFormat → Option (List ℕ) → X → Type 0) → RowSeen → ℕ → X → Type 0
Reads reads row place x = (column : PgColumn) × (slice_get (columns_in row) place ≡ Some column) × reads column.type_info row.heading.format (value_at row place) x

-- the value there is none of the asked type
abbrev pub IsUnread : {X : Type 0} → (TypeParts → PgValueFormat → Option (List ℕ) → X → Type 0) → RowSeen → ℕ → Type 0
IsUnread reads row place = (column : PgColumn) × (slice_get (columns_in row) place ≡ Some column) × ((x : _) → reads column.type_info row.heading.format (value_at row place) x → ⊥)

abbrev pub RefusesValue : {X : Type 0} → (TypeParts → PgValueFormat → Option (List ℕ) → X → Type 0) → RowSeen → ℕ → Error → Type 0
RefusesValue reads row place errors.OutOfMemory = Unit {0}
RefusesValue reads row place (errors.ColumnDecode index) = (index ≡ place) × IsUnread reads row place
RefusesValue reads row place _ = ⊥

-- why it answers none: there is no such column, or that; want of memory is free
abbrev pub Misreads : {X : Type 0} → (TypeParts → PgValueFormat → Option (List ℕ) → X → Type 0) → RowSeen → ℕ → Error → Type 0
Misreads reads row place errors.OutOfMemory = Unit {0}
Misreads reads row place (errors.ColumnDecode index) = (index ≡ place) × IsUnread reads row place
Misreads reads row place e = MissesPlace (columns_in row) place e

-- the same of the last column of a name
abbrev pub ReadsNamed : {X : Type 0} → (TypeParts → PgValueFormat → Option (List ℕ) → X → Type 0) → RowSeen → List ℕ → X → Type 0
ReadsNamed reads row name x = (place : ℕ) × IsLastNamed name (names_of (columns_in row)) (Some place) × Reads reads row place x

abbrev pub MisreadsNamed : {X : Type 0} → (TypeParts → PgValueFormat → Option (List ℕ) → X → Type 0) → RowSeen → List ℕ → Error → Type 0
MisreadsNamed reads row name errors.OutOfMemory = Unit {0}
MisreadsNamed reads row name (errors.ColumnDecode index) = IsLastNamed name (names_of (columns_in row)) (Some index) × IsUnread reads row index
MisreadsNamed reads row name e = MissesName name (names_of (columns_in row)) e
