use Rattle.std.proofs.Common.{◌≡◌, take}
use Rattle.pg_report.specs.Summary.{rows_after}
use Rattle.pg_report.proofs.summing.rows_after.Given as goal

abbrev pub invariant-loop-item : goal.invariant-loop-item
invariant-loop-item l = l.rows ≡ rows_after l.before (take l.item-index l.items)
