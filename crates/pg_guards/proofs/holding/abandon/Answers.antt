use Rattle.std.proofs.Common.{ap, ◌∙◌}
use Rattle.pg_conn.specs.Connections.{left}
use Rattle.pg_guards.proofs.holding.abandon.Goals as goal

pub returns : goal.returns
returns g c = ap (λ conn. g.C.PgExecutor.with_conn c.args.holder.now conn) (c.abandon.ensures ∙ ap (λ conn. left conn) c.conn_mut.ensures.value)
