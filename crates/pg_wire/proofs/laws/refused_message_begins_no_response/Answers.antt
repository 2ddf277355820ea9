use Rattle.pg_wire.proofs.RefusalLaws.{refused_begins_no_response}
use Rattle.pg_wire.proofs.laws.refused_message_begins_no_response.Goals as goal

pub returns : goal.returns
returns c = refused_begins_no_response
