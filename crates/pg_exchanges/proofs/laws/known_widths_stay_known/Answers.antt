use Rattle.pg_exchanges.proofs.WidthLaws.{widths_stay}
use Rattle.pg_exchanges.proofs.laws.known_widths_stay_known.Goals as goal

pub returns : goal.returns
returns c = widths_stay
