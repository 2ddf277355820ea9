use Rattle.std.proofs.Common.{◌≢◌, ◌≤◌, length, drop}
use Rattle.std.specs.List.{AllByRecursion}
use Rattle.pg_columns.specs.Columns.{names_of}
use Rattle.pg_columns.proofs.finding.place_of.Given as goal

-- no column from here on has the name
abbrev pub invariant-loop-place : goal.invariant-loop-place
invariant-loop-place l = record {
  within : l.place ≤ length l.fn.columns;
  behind : AllByRecursion (λ other. other ≢ l.fn.name) (drop l.place (names_of l.fn.columns));
}

abbrev pub decreases-loop-place : goal.decreases-loop-place
decreases-loop-place l = l.place
