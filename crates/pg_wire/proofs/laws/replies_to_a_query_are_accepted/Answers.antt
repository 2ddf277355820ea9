use Rattle.pg_wire.proofs.ReplyLaws.{accepted_reply, refused_reply}
use Rattle.pg_wire.proofs.laws.replies_to_a_query_are_accepted.Goals as goal

pub returns-clause-accepted : goal.returns-clause-accepted
returns-clause-accepted c = accepted_reply

pub returns-clause-refused : goal.returns-clause-refused
returns-clause-refused c = refused_reply
