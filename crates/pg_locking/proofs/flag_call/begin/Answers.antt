use Rattle.std.proofs.Common.{List, ℕ, ap, ◌∙◌}
use Rattle.pg_request.specs.Queries.{QueryText}
use Rattle.pg_call.specs.declared.request.Request.TheVariants as requests
use Rattle.pg_conn.specs.Connections.{started_call}
use Rattle.pg_locks.specs.Keys.{with_key}
use Rattle.pg_locking.proofs.flag_call.begin.Goals as goal

pub returns-in-Ok-hold_for-clause-ok : goal.returns-in-Ok-hold_for-clause-ok
returns-in-Ok-hold_for-clause-ok g c = (
  c.hold_for.new.conn,
  c.in-Ok-hold_for.ensures.ok,
  c.start.ensures ∙ ap (λ (q : QueryText). started_call (requests.FetchOne q) c.hold_for.new.conn) (c.in-Ok.ensures.ok ∙ ap (λ (text : List ℕ). with_key text c.args.key) c.text_of.ensures),
)
