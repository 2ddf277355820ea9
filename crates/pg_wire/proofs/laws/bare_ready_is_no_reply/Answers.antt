use Rattle.pg_wire.proofs.ReplyLaws.{bare_ready}
use Rattle.pg_wire.proofs.laws.bare_ready_is_no_reply.Goals as goal

pub returns : goal.returns
returns c = bare_ready
