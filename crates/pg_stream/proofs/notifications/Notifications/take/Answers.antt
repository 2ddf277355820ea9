use Rattle.std.proofs.Common.{Some}
use Rattle.pg_wire.specs.Backend.{NotificationResponse}
use Rattle.pg_stream.proofs.notifications.Notifications.take.Goals as goal

pub returns-clause-said : goal.returns-clause-said
returns-clause-said c = (NotificationResponse c.in_ok-notification.notification.process_id c.in_ok-notification.notification.channel c.in_ok-notification.notification.payload, c.in_ok-notification.ensures)

pub returns-clause-keeps : goal.returns-clause-keeps
returns-clause-keeps c = (Some c.in_ok-notification.notification, c.in_ok-notification.ensures, c.in_ok-add.ensures.ok)
