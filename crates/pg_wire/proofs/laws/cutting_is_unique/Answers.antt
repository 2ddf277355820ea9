use Rattle.pg_wire.proofs.CutLaws.{cut_unique}
use Rattle.pg_wire.proofs.laws.cutting_is_unique.Goals as goal

pub returns : goal.returns
returns c = cut_unique
