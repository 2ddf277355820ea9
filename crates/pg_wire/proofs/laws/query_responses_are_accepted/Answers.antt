use Rattle.pg_wire.proofs.AcceptorLaws.{accepted_can_end, refused_begins_none}
use Rattle.pg_wire.proofs.laws.query_responses_are_accepted.Goals as goal

pub returns-clause-accepted : goal.returns-clause-accepted
returns-clause-accepted c = accepted_can_end

pub returns-clause-refused : goal.returns-clause-refused
returns-clause-refused c = refused_begins_none
