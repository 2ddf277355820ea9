-- The answer of the query on nulls: a truth value in the first column of each row.
use Rattle.std.specs.Prelude.{◌≡◌, ℕ, Bool, List, map, Option, Some, None, slice_get}
use Rattle.pg_wire.specs.declared.error.Error.{Error}
use Rattle.pg_wire.specs.declared.error.Error.TheVariants as errors
use Rattle.pg_rows.specs.Rows.{RowSeen}
use Rattle.pg_conn.specs.Flags.{flag_in}

-- the truth values of all rows, in their order
abbrev pub AreFlags : List RowSeen → List (Option Bool) → Type 0
AreFlags rows flags = map (λ row. flag_in row.values) rows ≡ map (λ flag. Some flag) flags

-- why there are none: a row has none in its first column; want of memory is free
abbrev pub RefusesFlags : List RowSeen → Error → Type 0
RefusesFlags rows errors.OutOfMemory = Unit {0}
RefusesFlags rows (errors.ColumnDecode index) = (index ≡ 0) × ((place : ℕ) × (row : RowSeen) × (slice_get rows place ≡ Some row) × (flag_in row.values ≡ None))
RefusesFlags rows _ = ⊥
