use Rattle.pg_wire.proofs.StepLaws.{statement_stays}
use Rattle.pg_wire.proofs.laws.named_statement_stays_until_closed.Goals as goal

pub returns : goal.returns
returns c = statement_stays
