-- The query that asks of columns whether they may be null (PostgreSQL manual, "System Catalogs", pg_attribute).
use Rattle.std.specs.Prelude.{◌≡◌, ℕ, zero, suc, ◌+◌, ◌-◌, ◌*◌, ◌^◌, ◌<◌, min, List, [], ◌++◌, codes, decimal}
use Rattle.pg_wire.specs.declared.error.Error.{Error}
use Rattle.pg_wire.specs.declared.error.Error.TheVariants as errors
use Rattle.pg_wire.specs.declared.error.ProtocolFault.TheVariants as faults
use Rattle.pg_wire.specs.declared.error.CallerFault.TheVariants as callers

-- the first column, whose names stand for all
unfoldable pub nullable_start : List ℕ
nullable_start = codes "SELECT NOT attnotnull FROM ( ( SELECT $1::int4 AS idx, $2::int4 AS table_id, $3::int2 AS col_idx ) "

unfoldable pub nullable_end : List ℕ
nullable_end = codes ") AS col LEFT JOIN pg_catalog.pg_attribute ON table_id IS NOT NULL AND attrelid = table_id AND attnum = col_idx ORDER BY idx"

-- the numbers of the three arguments of the column at this place, from 0, with these texts around them
abbrev pub numbered_column : List ℕ → List ℕ → List ℕ → ℕ → List ℕ
numbered_column start between end k = start ++ decimal (3 * k + 1) ++ between ++ decimal (3 * k + 2) ++ between ++ decimal (3 * k + 3) ++ end

unfoldable pub more_column : ℕ → List ℕ
more_column k = numbered_column (codes "UNION ALL ( SELECT $") (codes "::int4, $") (codes "::int2 ) ") k

-- so many columns behind the first one
abbrev pub more_columns : ℕ → List ℕ
more_columns zero = []
more_columns (suc n) = more_columns n ++ more_column (suc n)

abbrev pub nullable_text : ℕ → List ℕ
nullable_text columns = nullable_start ++ more_columns (columns - 1) ++ nullable_end

-- why there is no query: a call has 65535 arguments at most; the count is told up to the greatest number of 64 bits
abbrev pub RefusesColumns : ℕ → Error → Type 0
RefusesColumns columns (errors.Protocol (faults.Caller (callers.TooMany n))) = (65535 < columns * 3) × (n ≡ min (columns * 3) (2 ^ 64 - 1))
RefusesColumns columns errors.OutOfMemory = Unit {0}
RefusesColumns columns _ = ⊥
