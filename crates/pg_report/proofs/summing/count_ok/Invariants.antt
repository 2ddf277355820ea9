use Rattle.std.proofs.Common.{◌≡◌, ◌≤◌, take}
use Rattle.pg_report.specs.Summary.{ended, is_ok}
use Rattle.pg_report.proofs.summing.count_ok.Given as goal

abbrev pub invariant-loop-outcome : goal.invariant-loop-outcome
invariant-loop-outcome l = record {
  counted : l.count ≡ ended is_ok (take l.outcome-index l.outcomes);
  few : l.count ≤ l.outcome-index;
}
