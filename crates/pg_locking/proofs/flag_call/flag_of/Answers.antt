use Rattle.std.proofs.Common.{refl}
use Rattle.futures.specs.declared.task.Poll.TheVariants.{Ready}
use Rattle.pg_call.specs.Answers.{one_turn}
use Rattle.pg_locking.proofs.CallLaws.{heard}
use Rattle.pg_locking.proofs.flag_call.flag_of.Goals as goal

pub returns-in-Ready : goal.returns-in-Ready
returns-in-Ready c = (Ready c.into_one.result, heard one_turn c.args.answer c.in-Ready.turn c.into_one.result c.into_one.result c.in-Ready.is c.into_one.ensures refl, c.told_one.ensures)
