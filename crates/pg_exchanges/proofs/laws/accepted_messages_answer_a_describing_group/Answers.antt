use Rattle.pg_exchanges.proofs.KindLaws.{describing_begins}
use Rattle.pg_exchanges.proofs.laws.accepted_messages_answer_a_describing_group.Goals as goal

pub returns : goal.returns
returns c = describing_begins
