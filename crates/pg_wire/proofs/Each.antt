-- What holds of each item of a list.
use Rattle.std.proofs.Common.{◌≡◌, ℕ, zero, suc, ◌+◌, List, [], ◌∷◌, ◌++◌, take, get_or, arith}
use Rattle.std.specs.List.{AllByRecursion}

each_suc : {A : Type 0} (P : A → Type 0) (xs : List A) (i : ℕ) → AllByRecursion P (take i xs) → (x : A) → x ≡ get_or xs i x → P x → AllByRecursion P (take (suc i) xs)
each_suc P [] i h x e p = tt
each_suc P (y ∷ xs) zero h x e p = (rw (← e) p, tt)
each_suc P (y ∷ xs) (suc i) h x e p = (h.0, each_suc P xs i h.1 x e p)

pub each_next : {A : Type 0} (P : A → Type 0) (xs : List A) (i : ℕ) → AllByRecursion P (take i xs) → (x : A) → x ≡ get_or xs i x → P x → AllByRecursion P (take (i + 1) xs)
each_next P xs i h x e p = let next : i + 1 ≡ suc i = omega arith in rw next (each_suc P xs i h x e p)

pub each_end : {A : Type 0} (P : A → Type 0) (xs : List A) (x : A) → AllByRecursion P xs → P x → AllByRecursion P (xs ++ x ∷ [])
each_end P [] x h k = (k, tt)
each_end P (y ∷ xs) x h k = (h.0, each_end P xs x h.1 k)

-- ---- lists that are joined

pub each_join : {A : Type 0} (P : A → Type 0) (xs ys : List A) → AllByRecursion P xs → AllByRecursion P ys → AllByRecursion P (xs ++ ys)
each_join P [] ys p q = q
each_join P (x ∷ xs) ys p q = (p.0, each_join P xs ys p.1 q)

pub each_first : {A : Type 0} (P : A → Type 0) (xs ys : List A) → AllByRecursion P (xs ++ ys) → AllByRecursion P xs
each_first P [] ys p = tt
each_first P (x ∷ xs) ys p = (p.0, each_first P xs ys p.1)

pub each_last : {A : Type 0} (P : A → Type 0) (xs ys : List A) → AllByRecursion P (xs ++ ys) → AllByRecursion P ys
each_last P [] ys p = p
each_last P (x ∷ xs) ys p = each_last P xs ys p.1
