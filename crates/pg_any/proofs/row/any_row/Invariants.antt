use Rattle.std.proofs.Common.{◌≡◌, ℕ, length, map, take}
use Rattle.std.specs.Prelude.{Some, slice_get}
use Rattle.pg_rows.specs.Rows.{columns_in, Reads}
use Rattle.pg_any.specs.Columns.{any_column_of}
use Rattle.pg_any.specs.Values.{ReadsAny}
use Rattle.pg_any.specs.declared.value.AnyValue.{AnyValue}
use Rattle.pg_any.proofs.row.any_row.Given as goal

abbrev pub invariant-loop-place : goal.invariant-loop-place
invariant-loop-place l = record {
  same : l.column-items ≡ columns_in l.row;
  columns : map any_column_of (take l.place (columns_in l.row)) ≡ map Some l.columns;
  as_many : length l.values ≡ l.place;
  values : (k : ℕ) (value : AnyValue) → slice_get l.values k ≡ Some value → Reads ReadsAny l.row k value;
}
