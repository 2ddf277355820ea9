use Rattle.pg_wire.proofs.ReplyLaws.{other_width}
use Rattle.pg_wire.proofs.laws.row_of_another_width_is_no_reply.Goals as goal

pub returns : goal.returns
returns c = other_width
