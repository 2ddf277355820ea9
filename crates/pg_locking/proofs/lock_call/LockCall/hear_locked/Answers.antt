use Rattle.std.proofs.Common.{Bool, Ok, Err, refl, ap, ◌∙◌}
use Rattle.futures.specs.declared.task.Poll.TheVariants.{Ready}
use Rattle.pg_call.specs.Answers.{total_turn}
use Rattle.pg_conn.specs.Holding.{gave_up}
use Rattle.pg_locking.specs.Locking.{release_if}
use Rattle.pg_locking.proofs.CallLaws.{heard}
use Rattle.pg_locking.proofs.lock_call.LockCall.hear_locked.Goals as goal

pub returns-in-Ok-clause-hears : goal.returns-in-Ok-clause-hears
returns-in-Ok-clause-hears g c =
    (Ready (Ok c.in-Ok.field-0), heard total_turn c.args.answer c.in-Ready.turn c.into_total.result (Ok c.in-Ok.field-0) c.in-Ready.is c.into_total.ensures c.in-Ok.is, (refl, c.requires.stage, refl))

pub returns-in-Err-clause-hears : goal.returns-in-Err-clause-hears
returns-in-Err-clause-hears g c = (
  Ready (Err c.in-Err.e),
  heard total_turn c.args.answer c.in-Ready.turn c.into_total.result (Err c.in-Err.e) c.in-Ready.is c.into_total.ensures c.in-Err.is,
  (c.give_up.ensures ∙ ap (λ (due : Bool). gave_up (release_if due c.args.self.now.key) c.args.conn.now) c.is_due-due.ensures, c.requires.stage, refl),
)
