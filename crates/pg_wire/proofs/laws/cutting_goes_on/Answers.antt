use Rattle.pg_wire.proofs.CutLaws.{cut_append}
use Rattle.pg_wire.proofs.laws.cutting_goes_on.Goals as goal

pub returns : goal.returns
returns c = cut_append
