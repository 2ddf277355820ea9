use Rattle.pg_wire.specs.Backend.{NoticeResponse}
use Rattle.pg_stream.proofs.asynchronous.check_notice.Goals as goal

pub returns-in-Ok-clause-said : goal.returns-in-Ok-clause-said
returns-in-Ok-clause-said c = (NoticeResponse c.in-Ok.field-0, c.in-Ok.ensures)
