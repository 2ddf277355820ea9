use Rattle.pg_wire.proofs.RunLaws.{run_more}
use Rattle.pg_wire.proofs.laws.run_goes_on.Goals as goal

pub returns : goal.returns
returns c = run_more
