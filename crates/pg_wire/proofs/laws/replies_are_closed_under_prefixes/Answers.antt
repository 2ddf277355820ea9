use Rattle.pg_wire.proofs.RunLaws.{replies_fewer}
use Rattle.pg_wire.proofs.CopyLaws.{copy_replies_fewer, transaction_replies_fewer}
use Rattle.pg_wire.proofs.SentLaws.{hear_fewer}
use Rattle.pg_wire.proofs.laws.replies_are_closed_under_prefixes.Goals as goal

pub returns-clause-replies : goal.returns-clause-replies
returns-clause-replies c = replies_fewer

pub returns-clause-copy_replies : goal.returns-clause-copy_replies
returns-clause-copy_replies c = copy_replies_fewer

pub returns-clause-may_hear : goal.returns-clause-may_hear
returns-clause-may_hear c = hear_fewer

pub returns-clause-transaction_replies : goal.returns-clause-transaction_replies
returns-clause-transaction_replies c = transaction_replies_fewer
