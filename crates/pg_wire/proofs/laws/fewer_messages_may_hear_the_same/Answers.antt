use Rattle.pg_wire.proofs.SentLaws.{hear_before}
use Rattle.pg_wire.proofs.laws.fewer_messages_may_hear_the_same.Goals as goal

pub returns : goal.returns
returns c = hear_before
