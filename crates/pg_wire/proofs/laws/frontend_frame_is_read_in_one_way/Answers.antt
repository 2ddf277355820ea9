use Rattle.pg_wire.proofs.Unique.{frontend_frame_unique}
use Rattle.pg_wire.proofs.laws.frontend_frame_is_read_in_one_way.Goals as goal

pub returns : goal.returns
returns c = frontend_frame_unique
