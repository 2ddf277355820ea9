use Rattle.std.proofs.Common.{Ok, Err, refl, ap, ◌∙◌}
use Rattle.futures.specs.declared.task.Poll.TheVariants.{Ready}
use Rattle.pg_call.specs.declared.answer.Turn.{Turn}
use Rattle.pg_call.specs.Answers.{rows_turn}
use Rattle.pg_describe.proofs.telling.hear.Goals as goal

pub returns-in-Ok : goal.returns-in-Ok
returns-in-Ok c = (
  Ready (Ok c.in-Ok.rows),
  c.in-Ready.is ∙ ap (λ (turn : Turn). Ready turn) (c.into_rows.ensures ∙ ap rows_turn c.in-Ok.is),
  (refl, (c.described.result, refl, c.described.ensures)),
)

pub returns-in-Err : goal.returns-in-Err
returns-in-Err c = (
  Ready (Err c.in-Err.e),
  c.in-Ready.is ∙ ap (λ (turn : Turn). Ready turn) (c.into_rows.ensures ∙ ap rows_turn c.in-Err.is),
  (refl, refl),
)
