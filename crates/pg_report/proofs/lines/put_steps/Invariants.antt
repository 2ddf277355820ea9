use Rattle.std.proofs.Common.{◌≡◌, ◌++◌, ◌+◌, drop, string_bytes}
use Rattle.pg_report.specs.Report.{steps_from}
use Rattle.pg_report.proofs.lines.put_steps.Given as goal

abbrev pub invariant-loop-outcome : goal.invariant-loop-outcome
invariant-loop-outcome l = record {
  counted : l.number ≡ l.outcome-index;
  text : string_bytes l.out ++ steps_from (l.outcome-index + 1) (drop l.outcome-index l.outcomes) ≡ string_bytes l.initial.out ++ steps_from 1 l.outcomes;
}
