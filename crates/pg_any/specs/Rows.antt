-- A row by the kinds of its columns.
use Rattle.std.specs.Prelude.{◌≡◌, ℕ, length, map, slice_get, Some}
use Rattle.pg_wire.specs.declared.error.Error.{Error}
use Rattle.pg_wire.specs.declared.error.Error.TheVariants as errors
use Rattle.pg_rows.specs.Rows.{RowSeen, columns_in, Reads, IsUnread}
use Rattle.pg_any.specs.declared.row.AnyRow.{AnyRow}
use Rattle.pg_any.specs.declared.value.AnyValue.{AnyValue}
use Rattle.pg_any.specs.Columns.{any_column_of}
use Rattle.pg_any.specs.Values.{ReadsAny}

-- a column and a value for each column that is described
pub record IsAnyRow (row : RowSeen) (any : AnyRow) : Type 0 where
  pub columns : map any_column_of (columns_in row) ≡ map Some any.columns
  pub as_many : length any.values ≡ length (columns_in row)
  pub values : (place : ℕ) (value : AnyValue) → slice_get any.values place ≡ Some value → Reads ReadsAny row place value

-- the value of a column has no generic form
abbrev pub RefusesRow : RowSeen → Error → Type 0
RefusesRow row errors.OutOfMemory = Unit {0}
RefusesRow row (errors.ColumnDecode index) = IsUnread ReadsAny row index
RefusesRow row _ = ⊥
