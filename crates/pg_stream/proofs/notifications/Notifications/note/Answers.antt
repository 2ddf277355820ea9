use Rattle.pg_stream.proofs.NotificationLaws.{keeps_unless}
use Rattle.pg_stream.proofs.notifications.Notifications.note.Goals as goal

pub returns-in-Err-clause-keeps : goal.returns-in-Err-clause-keeps
returns-in-Err-clause-keeps c = keeps_unless c.memory_alone.result c.in-Err.error c.args.body.now c.args.self.now c.take.new.self c.memory_alone.ensures c.in-Err.ensures.refused c.in-Err.ensures.err
