use Rattle.std.proofs.Common.{List, ℕ, Some, refl, ap, ◌∙◌}
use Rattle.pg_conn.specs.Holding.{took_held}
use Rattle.pg_locks.specs.Locks.{unlock_query}
use Rattle.pg_play.specs.Locks.{releasing}
use Rattle.pg_play.proofs.LockLaws.{released_fewer, releases_by}
use Rattle.pg_play.proofs.locking.release.Goals as goal

pub returns-clause-plays : goal.returns-clause-plays
returns-clause-plays g c step =
    let text = c.as_str.ensures.value ∙ c.unlock_query-text.ensures.text in
    let short = c.unlock_query-text.ensures.short in
    let said = c.unlock_query-text.ensures.said in
    releases_by g.L.Link.seen (unlock_query c.args.key) c.args.conn.now c.take_held.new.self (releasing step c.args.key) c.outcome.result refl (rw (← c.unlock_query-text.ensures.text) (short, said)) c.requires
    (c.take_held.ensures.now ∙ ap (λ (t : List ℕ). took_held (Some t) c.args.conn.now) text) (rw (c.progress.ensures, c.new.ensures.items) at c.outcome.ensures)

pub returns-clause-held : goal.returns-clause-held
returns-clause-held g c =
    let text = c.as_str.ensures.value ∙ c.unlock_query-text.ensures.text in
    released_fewer g.L.Link.seen (unlock_query c.args.key) c.args.conn.now c.take_held.new.self c.requires (c.take_held.ensures.now ∙ ap (λ (t : List ℕ). took_held (Some t) c.args.conn.now) text)
