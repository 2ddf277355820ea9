use Rattle.pg_wire.proofs.Unique.{backend_frame_unique}
use Rattle.pg_wire.proofs.laws.backend_frame_is_read_in_one_way.Goals as goal

pub returns : goal.returns
returns c = backend_frame_unique
