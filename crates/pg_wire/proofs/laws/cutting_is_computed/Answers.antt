use Rattle.pg_wire.proofs.CutRuns.{cut_is}
use Rattle.pg_wire.proofs.laws.cutting_is_computed.Goals as goal

pub returns : goal.returns
returns c = cut_is
