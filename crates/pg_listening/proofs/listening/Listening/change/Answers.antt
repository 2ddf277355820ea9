use Rattle.pg_listening.proofs.BufferLaws.{hears_none}
use Rattle.pg_listening.proofs.listening.Listening.change.Goals as goal

pub returns-in-Err-clause-hears : goal.returns-in-Err-clause-hears
returns-in-Err-clause-hears g c = hears_none _

pub returns-in-Err-statement-clause-hears : goal.returns-in-Err-statement-clause-hears
returns-in-Err-statement-clause-hears g c = hears_none _
