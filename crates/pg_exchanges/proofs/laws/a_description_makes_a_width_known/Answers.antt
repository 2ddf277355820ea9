use Rattle.pg_exchanges.proofs.WidthLaws.{description_adds}
use Rattle.pg_exchanges.proofs.laws.a_description_makes_a_width_known.Goals as goal

pub returns : goal.returns
returns c = description_adds
