-- Words that a dial draws.
use Rattle.std.proofs.Common.{◌≡◌, ◌+◌, ◌<◌, List, [], ◌∷◌, ◌++◌, take, set, ℕ, length, subst, refl, sym}
use Rattle.std.proofs.lemmas.List.{take_more_set}
use Rattle.pg_conn.specs.Dials.{Draws}

-- one more word is drawn
pub draws_more : {D : Type 0} (draws : D → ℕ → D → Type 0) (d e f : D) (items : List ℕ) (i word : ℕ) → i < length items → Draws draws d (take i items) e → draws e word f → Draws draws d (take (i + 1) (set items i word)) f
draws_more {D} draws d e f items i word within drawn one =
    subst (λ (xs : List ℕ). Draws draws d xs f) (sym (take_more_set items i word within)) (draws_then d (take i items) drawn)
  where
    draws_then : (from : D) (xs : List ℕ) → Draws draws from xs e → Draws draws from (xs ++ word ∷ []) f
    draws_then from [] same = (f, subst (λ (x : D). draws x word f) same one, refl)
    draws_then from (x ∷ xs) h = (h.0, h.1, draws_then h.0 xs h.2)
