use Rattle.std.proofs.Common.{◌≡◌, ◌+◌, ◌∷◌, List, ℕ, drop, get_or, rules, add-one}
use Rattle.std.proofs.Math.Seq.{drop-cons}
use Rattle.pg_sample.proofs.CountLaws.{too_great}
use Rattle.pg_sample.proofs.counting.count_of.Goals as goal

pub returns-then-count-gt-MOST : goal.returns-then-count-gt-MOST
returns-then-count-gt-MOST c =
    let items : List ℕ = c.as_bytes-digit-items.result.now in
    let i : ℕ = c.loop-digit.digit-index in
    let front : drop i items ≡ get_or items i 0 ∷ drop (i + 1) items = rw add-one (drop-cons items i 0 c.loop-digit-test.true) in
    too_great c.loop-digit.count items i (get_or items i 0) _ front (search rules) (rw c.from.ensures at c.if-count-gt-MOST.true) c.loop-digit.invariant.value
