use Rattle.pg_exchanges.proofs.KindLaws.{closing_begins}
use Rattle.pg_exchanges.proofs.laws.accepted_messages_answer_a_closing_group.Goals as goal

pub returns : goal.returns
returns c = closing_begins
