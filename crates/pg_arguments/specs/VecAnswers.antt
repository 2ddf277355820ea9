-- What the iterator that owns the items of a vector answers.
use Rattle.std.specs.Prelude.{ℕ, suc, ◌≡◌, ◌+◌, List, ◌∷◌, take, slice_get, Option, Some, None}
use Rattle.std.proofs.Common.{refl, sym, ◌∙◌, arith}
use Rattle.std.specs.Vec.Iter.{into_iter_items, into_iter_len, into_iter_steps}
use Rattle.std.specs.declared.vec.IntoIter.{IntoIter}
use Rattle.pg_arguments.specs.Iterated.{GivesFirst}

-- its items, and then None
abbrev pub vec_answers : {X Z : Type 0} → IntoIter X Z → ℕ → Option X
vec_answers it k = slice_get (take (into_iter_len it) (into_iter_items it)) k

nothing : {X : Type 0} (n : ℕ) (xs : List X) (k : ℕ) → n ≡ 0 → slice_get (take n xs) k ≡ None
nothing n xs k e = rw e refl

one_more : {X : Type 0} (n m : ℕ) (xs ys : List X) (x : X) → xs ≡ x ∷ ys → m + 1 ≡ n → (Some x ≡ slice_get (take n xs) 0) × ((k : ℕ) → slice_get (take m ys) k ≡ slice_get (take n xs) (suc k))
one_more n m xs ys x e f =
    let more : n ≡ suc m = omega (arith, f) in
    rw (more, e) (refl, λ k. refl)

pub vec_gives_first : {X Z : Type 0} (s : IntoIter X Z) (r : Option X) (t : IntoIter X Z) → into_iter_steps s r t → GivesFirst vec_answers s r t
vec_gives_first s None t h =
    (sym (nothing (into_iter_len s) (into_iter_items s) 0 h.0), λ k. nothing (into_iter_len t) (into_iter_items t) k h.1 ∙ sym (nothing (into_iter_len s) (into_iter_items s) (suc k) h.0))
vec_gives_first s (Some x) t h = one_more (into_iter_len s) (into_iter_len t) (into_iter_items s) (into_iter_items t) x h.0 h.1
