use Rattle.pg_exchanges.proofs.ExpectingLaws.{refused_begins_no_group_response}
use Rattle.pg_exchanges.proofs.laws.refused_message_begins_no_response_to_a_group.Goals as goal

pub returns : goal.returns
returns c = refused_begins_no_group_response
