use Rattle.std.proofs.Common.{◌≡◌, take}
use Rattle.pg_report.specs.Summary.{rows_shown}
use Rattle.pg_report.proofs.summing.count_rows.Given as goal

abbrev pub invariant-loop-outcome : goal.invariant-loop-outcome
invariant-loop-outcome l = l.rows ≡ rows_shown (take l.outcome-index l.outcomes)
