use Rattle.std.proofs.Common.{ap, ◌∙◌}
use Rattle.pg_conn.specs.Connections.{left_by}
use Rattle.pg_guards.proofs.holding.leave.Goals as goal

pub returns : goal.returns
returns g c = ap (λ conn. g.C.PgExecutor.with_conn c.args.holder conn) (c.leave.ensures ∙ ap (λ conn. left_by c.args.request conn) c.conn_mut.ensures.value)
