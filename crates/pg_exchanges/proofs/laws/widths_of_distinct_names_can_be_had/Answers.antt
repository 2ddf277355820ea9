use Rattle.pg_exchanges.proofs.KindLaws.{widths_had}
use Rattle.pg_exchanges.proofs.laws.widths_of_distinct_names_can_be_had.Goals as goal

pub returns : goal.returns
returns c = widths_had
