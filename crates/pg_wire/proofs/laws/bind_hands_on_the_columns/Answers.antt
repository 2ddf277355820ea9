use Rattle.pg_wire.proofs.StepLaws.{portal_is_bound}
use Rattle.pg_wire.proofs.laws.bind_hands_on_the_columns.Goals as goal

pub returns : goal.returns
returns c = portal_is_bound
