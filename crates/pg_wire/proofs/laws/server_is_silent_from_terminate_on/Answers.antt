use Rattle.pg_wire.proofs.SkipLaws.{terminate_ends, silent_when_over}
use Rattle.pg_wire.proofs.laws.server_is_silent_from_terminate_on.Goals as goal

pub returns-clause-ends : goal.returns-clause-ends
returns-clause-ends c = terminate_ends

pub returns-clause-lasts : goal.returns-clause-lasts
returns-clause-lasts c = silent_when_over
