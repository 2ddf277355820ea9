use Rattle.std.proofs.Common.{Ok, Err, refl}
use Rattle.futures.specs.declared.task.Poll.TheVariants.{Ready}
use Rattle.pg_call.specs.Answers.{statement_turn}
use Rattle.pg_locking.proofs.CallLaws.{heard}
use Rattle.pg_locking.proofs.lock_call.LockCall.hear_prepared.Goals as goal

pub returns-in-Ok-clause-hears : goal.returns-in-Ok-clause-hears
returns-in-Ok-clause-hears g c =
    (Ready (Ok c.in-Ok.prepared), heard statement_turn c.args.answer c.in-Ready.turn c.into_statement.result (Ok c.in-Ok.prepared) c.in-Ready.is c.into_statement.ensures c.in-Ok.is, c.lock.ensures.locks)

pub returns-in-Err-clause-hears : goal.returns-in-Err-clause-hears
returns-in-Err-clause-hears g c =
    (Ready (Err c.in-Err.e), heard statement_turn c.args.answer c.in-Ready.turn c.into_statement.result (Err c.in-Err.e) c.in-Ready.is c.into_statement.ensures c.in-Err.is, (refl, c.requires.stage, refl))
