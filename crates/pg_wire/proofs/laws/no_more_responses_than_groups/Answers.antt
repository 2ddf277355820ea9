use Rattle.pg_wire.proofs.CountLaws.{no_more_ready}
use Rattle.pg_wire.proofs.laws.no_more_responses_than_groups.Goals as goal

pub returns : goal.returns
returns c = no_more_ready
