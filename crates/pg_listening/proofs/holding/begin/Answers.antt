use Rattle.std.proofs.Common.{ap, ◌∙◌, true}
use Rattle.pg_conn.specs.Connections.{ConnOf}
use Rattle.pg_conn.specs.News.{with_kept}
use Rattle.pg_stream.specs.Notifications.{none_kept}
use Rattle.pg_listening.proofs.holding.begin.Goals as goal

pub returns : goal.returns
returns g c =
    ap (λ conn. g.C.PgExecutor.with_conn c.args.holder conn) (c.set_notifications-2.ensures ∙ ap (λ (x : ConnOf _). with_kept (record { keeping = true; kept = x.stream.notifications.kept }) x) (c.set_notifications.ensures ∙ ap (λ conn. with_kept none_kept conn) c.conn_mut-conn.ensures.value))
