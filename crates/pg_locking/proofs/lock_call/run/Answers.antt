use Rattle.std.proofs.Common.{List, ℕ, ap, ◌∙◌}
use Rattle.pg_request.specs.Queries.{QueryText}
use Rattle.pg_call.specs.declared.request.Request.TheVariants as requests
use Rattle.pg_conn.specs.Connections.{started_next}
use Rattle.pg_locks.specs.Keys.{with_key}
use Rattle.pg_locking.proofs.lock_call.run.Goals as goal

pub returns-in-Ok-hold-clause-ok : goal.returns-in-Ok-hold-clause-ok
returns-in-Ok-hold-clause-ok g c = (
  c.hold.new.conn,
  c.in-Ok-hold.ensures.ok,
  c.start_next.ensures ∙ ap (λ (q : QueryText). started_next (requests.Execute q) c.hold.new.conn) (c.in-Ok.ensures.ok ∙ ap (λ (text : List ℕ). with_key text c.args.key) c.lock_statement-sql.ensures.text),
)
