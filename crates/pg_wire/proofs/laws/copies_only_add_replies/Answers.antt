use Rattle.pg_wire.proofs.CopyLaws.{replies_copy}
use Rattle.pg_wire.proofs.laws.copies_only_add_replies.Goals as goal

pub returns : goal.returns
returns c = replies_copy
