use Rattle.std.proofs.Common.{sym, ◌∙◌, ap, List}
use Rattle.std.specs.List.{flat_map}
use Rattle.pg_resolve.specs.declared.plan.Plan.{Plan}
use Rattle.pg_resolve.specs.Marks.{is_among, marked_by}
use Rattle.pg_resolve.proofs.MarkLaws.{below_alone, one_marks}
use Rattle.pg_resolve.proofs.marking.+marking.Goals as goal

pub marks-returns-in-Some : goal.marks-returns-in-Some
marks-returns-in-Some t c =
    c.some_mark.ensures ∙ ap (λ (plans : List Plan). is_among (flat_map marked_by plans) c.args.output.now) c.as_slice.ensures.value
    ∙ below_alone c.args.plan.now c.args.output.now c.in-Some.plans (sym c.is_own.ensures ∙ c.if-is_own.false) (sym c.has_outer_side.ensures ∙ c.if-not-has_outer_side.false) c.in-Some.is

pub some_mark-returns-then-marks : goal.some_mark-returns-then-marks
some_mark-returns-then-marks t c =
    sym (one_marks c.args.plans.now c.loop-plan.plan-index c.plan-item.result c.args.output.now c.loop-plan-test.true c.plan-item.is (sym c.marks.ensures ∙ c.if-marks.true))
