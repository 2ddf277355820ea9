use Rattle.std.proofs.Common.{◌≡◌, ◌+◌, ◌++◌, arith, string_bytes, get_or}
use Rattle.pg_report.specs.Steps.{step_lines}
use Rattle.pg_report.specs.Report.{steps_from}
use Rattle.pg_report.proofs.StepLaws.{one_more, all_done}
use Rattle.pg_report.proofs.lines.put_steps.Goals as goal

pub loop-outcome-preserved : goal.loop-outcome-preserved
loop-outcome-preserved c =
    let n : c.saturating_add-number.result ≡ c.loop-outcome.outcome-index + 1 = omega (arith, c.saturating_add-number.ensures, c.loop-outcome.invariant.counted) in
    let put : string_bytes c.put_step.new.out ≡ string_bytes c.loop-outcome.out ++ step_lines (c.loop-outcome.outcome-index + 1) (get_or c.args.outcomes.now c.loop-outcome.outcome-index c.outcome-item.result) = rw (← n, ← c.outcome-item.is) c.in_ok-put_step.ensures in
    record {
      counted = n;
      text = one_more (string_bytes c.loop-outcome.out) (string_bytes c.put_step.new.out) (string_bytes c.args.out.now ++ steps_from 1 c.args.outcomes.now) c.args.outcomes.now c.loop-outcome.outcome-index c.outcome-item.result c.loop-outcome-test.true c.loop-outcome.invariant.text put;
    }

pub returns : goal.returns
returns c = all_done (string_bytes c.loop-outcome.out) (string_bytes c.args.out.now ++ steps_from 1 c.args.outcomes.now) c.args.outcomes.now c.loop-outcome.outcome-index c.loop-outcome-test.false c.loop-outcome.invariant.text
