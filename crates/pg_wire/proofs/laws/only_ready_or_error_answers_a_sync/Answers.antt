use Rattle.pg_wire.proofs.RefusalLaws.{no_sync_reply_begins_no_response}
use Rattle.pg_wire.proofs.laws.only_ready_or_error_answers_a_sync.Goals as goal

pub returns : goal.returns
returns c = no_sync_reply_begins_no_response
