use Rattle.pg_exchanges.proofs.AcceptedLaws.{accepted_begins_query_response}
use Rattle.pg_exchanges.proofs.laws.accepted_messages_answer_a_query.Goals as goal

pub returns : goal.returns
returns c widths m sql own t = accepted_begins_query_response sql widths m own t
