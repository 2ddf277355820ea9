use Rattle.pg_wire.proofs.SentLaws.{replies_answer}
use Rattle.pg_wire.proofs.laws.replies_may_be_heard.Goals as goal

pub returns : goal.returns
returns c = replies_answer
