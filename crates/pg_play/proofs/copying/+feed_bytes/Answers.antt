use Rattle.std.proofs.Common.{◌≡◌, ◌<◌, ◌-◌, List, ℕ, length, length-drop, take, take_all, drop, min, sym, ◌∙◌, subst, arith}
use Rattle.pg_play.specs.Feeding.{Feeds, cut}
use Rattle.pg_play.proofs.CutLaws.{cut_step, feeds_more, first_some, some_bytes}
use Rattle.pg_play.proofs.copying.+feed_bytes.Goals as goal

pub returns-in-Ok : goal.returns-in-Ok
returns-in-Ok g t c =
    let bytes : List ℕ = c.args.bytes.now in
    let size : ℕ = min (length bytes) 1073741818 in
    let some : 0 < length bytes = some_bytes (length bytes) (sym c.is_empty.ensures ∙ c.if-is_empty.false) in
    let rest : take (length bytes - size) (drop size bytes) ≡ drop size bytes = take_all (length bytes - size) (drop size bytes) (omega (arith, length-drop size bytes)) in
    let others = subst (λ (xs : List ℕ). Feeds c.feed.new.self c.feed_bytes.new.conn (cut xs) c.feed_bytes.result) rest (rw c.min-size.ensures at c.feed_bytes.ensures) in
    rw (cut_step bytes some) (feeds_more c.args.conn.now c.feed.new.self c.feed_bytes.new.conn (take size bytes) (cut (drop size bytes)) c.feed_bytes.result (first_some bytes size some (omega (arith, some))) (rw c.min-size.ensures at c.in-Ok.ensures.ok) others)
