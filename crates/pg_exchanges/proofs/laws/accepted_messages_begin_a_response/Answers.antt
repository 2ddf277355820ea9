use Rattle.pg_exchanges.proofs.AcceptedLaws.{accepted_begins_response}
use Rattle.pg_exchanges.proofs.laws.accepted_messages_begin_a_response.Goals as goal

pub returns : goal.returns
returns c = accepted_begins_response
