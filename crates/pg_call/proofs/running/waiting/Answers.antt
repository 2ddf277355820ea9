use Rattle.pg_call.proofs.StateLaws.{stays_asked}
use Rattle.pg_call.proofs.running.waiting.Goals as goal

pub returns-in_default : goal.returns-in_default
returns-in_default c = stays_asked c.args.frames c.args.is_copy_failed c.args.call c.in_default.not-Asked
