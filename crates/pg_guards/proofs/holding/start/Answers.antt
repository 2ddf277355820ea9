use Rattle.std.proofs.Common.{ap, ◌∙◌}
use Rattle.pg_conn.specs.Connections.{started_call}
use Rattle.pg_guards.proofs.holding.start.Goals as goal

pub returns : goal.returns
returns g c = ap (λ conn. g.C.PgExecutor.with_conn c.args.holder.now conn) (c.start.ensures ∙ ap (λ conn. started_call c.args.request conn) c.conn_mut.ensures.value)
