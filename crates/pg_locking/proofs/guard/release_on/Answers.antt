use Rattle.std.proofs.Common.{List, ℕ, Some, ap, ◌∙◌}
use Rattle.pg_conn.specs.Holding.{took_held}
use Rattle.pg_locks.specs.Locks.{unlock_query}
use Rattle.pg_locking.proofs.HeldLaws.{lent}
use Rattle.pg_locking.proofs.guard.release_on.Goals as goal

pub returns : goal.returns
returns g c =
    lent g.C.PgExecutor.with_conn (λ conn. took_held (Some (unlock_query c.args.key)) conn) c.args.holder.now _ _ _ (c.take_held.ensures.now ∙ ap (λ (text : List ℕ). took_held (Some text) c.conn_mut.result.now) (c.as_str.ensures.value ∙ c.unlock_query-text.ensures.text)) c.conn_mut.ensures.value
