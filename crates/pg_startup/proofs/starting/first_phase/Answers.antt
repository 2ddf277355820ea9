use Rattle.std.proofs.Common.{refl}
use Rattle.pg_startup.proofs.starting.first_phase.Goals as goal

pub returns-in-Ok-clause-ok : goal.returns-in-Ok-clause-ok
returns-in-Ok-clause-ok g c = rw c.in-Plain.is (c.say.new.self, rw c.new-greeting.ensures at c.in-Ok.ensures.ok, refl)
