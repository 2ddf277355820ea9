use Rattle.pg_wire.proofs.OpenCopyLaws.{data_is_silent}
use Rattle.pg_wire.proofs.laws.copy_data_has_no_reply.Goals as goal

pub returns : goal.returns
returns c = data_is_silent
