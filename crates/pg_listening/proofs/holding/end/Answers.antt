use Rattle.std.proofs.Common.{ap, ◌∙◌}
use Rattle.pg_stream.specs.Notifications.{none_kept}
use Rattle.pg_conn.specs.Connections.{left}
use Rattle.pg_conn.specs.News.{with_kept}
use Rattle.pg_listening.proofs.holding.end.Goals as goal

pub returns : goal.returns
returns g c =
    ap (λ conn. g.C.PgExecutor.with_conn c.args.holder conn) (c.set_notifications.ensures ∙ ap (λ conn. with_kept none_kept conn) (c.abandon.ensures ∙ ap (λ conn. left conn) c.conn_mut-conn.ensures.value))
