use Rattle.pg_wire.proofs.RefusalLaws.{response_begins_copy_response}
use Rattle.pg_wire.proofs.laws.copies_only_add_responses.Goals as goal

pub returns : goal.returns
returns c = response_begins_copy_response
