use Rattle.pg_wire.proofs.ReplyLaws.{after_error}
use Rattle.pg_wire.proofs.laws.segment_after_error_is_no_reply.Goals as goal

pub returns : goal.returns
returns c = after_error
