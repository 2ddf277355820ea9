-- An iterator whose answers are written down.
use Rattle.std.specs.Prelude.{ℕ, zero, suc, ◌≡◌, List, [], ◌∷◌, drop, Option, None}
use Rattle.std.proofs.Common.{refl, ap, ◌∙◌}

-- answer number k, and None behind the last
abbrev pub answer_at : {A : Type 0} → List (Option A) → ℕ → Option A
answer_at [] k = None
answer_at (x ∷ xs) zero = x
answer_at (x ∷ xs) (suc k) = answer_at xs k

answer_behind : {A : Type 0} (xs : List (Option A)) (k : ℕ) → answer_at (drop 1 xs) k ≡ answer_at xs (suc k)
answer_behind [] k = refl
answer_behind (x ∷ xs) k = refl

pub replays_first : {A : Type 0} (xs ys : List (Option A)) (r : Option A) → r ≡ answer_at xs 0 → ys ≡ drop 1 xs → (r ≡ answer_at xs 0) × ((k : ℕ) → answer_at ys k ≡ answer_at xs (suc k))
replays_first xs ys r e f = (e, λ k. ap (λ zs. answer_at zs k) f ∙ answer_behind xs k)
