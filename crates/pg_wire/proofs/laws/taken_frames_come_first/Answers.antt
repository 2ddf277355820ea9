use Rattle.pg_wire.proofs.CutLaws.{cut_after_taken}
use Rattle.pg_wire.proofs.laws.taken_frames_come_first.Goals as goal

pub returns : goal.returns
returns c = cut_after_taken
