-- The rows of several results.
use Rattle.std.specs.Prelude.{◌≡◌, ◌+◌, ◌-◌, ◌^◌, min, List}
use Rattle.std.specs.List.{sum_by}
use Rattle.pg_call.specs.declared.query_result.PgQueryResult.{PgQueryResult}

-- all rows are counted, up to the greatest number of 64 bits; their order doesn't matter
abbrev pub AddsAll : PgQueryResult → List PgQueryResult → PgQueryResult → Type 0
AddsAll old results new = new.rows ≡ min (old.rows + sum_by (λ result. result.rows) results) (2 ^ 64 - 1)
