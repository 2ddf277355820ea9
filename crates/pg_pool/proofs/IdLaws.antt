-- Lists of ids, and one that is taken out.
use Rattle.std.proofs.Common.{ℕ, suc, ◌+◌, ◌<◌, ◌≤◌, ◌≡◌, Bool, true, false, cond, nat_eq, ◌||◌, List, [], ◌∷◌, ◌++◌, length, drop, refl, ap, arith}
use Rattle.std.specs.List.{remove}
use lib.ListN.{length-append}
use Rattle.pg_pool.specs.PoolHistory.{has, has_first, place_of, without}

shorter_by : (b c : Bool) (x : ℕ) (ids rest : List ℕ) → (b || c) ≡ true → (c ≡ true → length rest + 1 ≡ length ids) → length (cond b ids (x ∷ rest)) + 1 ≡ length (x ∷ ids)
shorter_by true c x ids rest h f = omega arith
shorter_by false c x ids rest h f = let s = f h in omega arith

pub shorter : (id : ℕ) (ids : List ℕ) → has id ids ≡ true → length (without id ids) + 1 ≡ length ids
shorter id [] h = absurd cc
shorter id (x ∷ ids) h = shorter_by (nat_eq x id) (has id ids) x ids (without id ids) h (λ k. shorter id ids k)

not_longer_by : (b : Bool) (x : ℕ) (ids rest : List ℕ) → length rest ≤ length ids → length (cond b ids (x ∷ rest)) ≤ length (x ∷ ids)
not_longer_by true x ids rest h = omega arith
not_longer_by false x ids rest h = omega arith

pub no_longer : (id : ℕ) (ids : List ℕ) → length (without id ids) ≤ length ids
no_longer id [] = omega arith
no_longer id (x ∷ ids) = not_longer_by (nat_eq x id) x ids (without id ids) (no_longer id ids)

placed_by : (b c : Bool) (n m : ℕ) → (b || c) ≡ true → (c ≡ true → n < m) → cond b 0 (n + 1) < suc m
placed_by true c n m h f = omega arith
placed_by false c n m h f = let s = f h in omega arith

pub placed : (id : ℕ) (ids : List ℕ) → has id ids ≡ true → place_of id ids < length ids
placed id [] h = absurd cc
placed id (x ∷ ids) h = placed_by (nat_eq x id) (has id ids) (place_of id ids) (length ids) h (λ k. placed id ids k)

removed_by : (b c : Bool) (x n : ℕ) (ids rest : List ℕ) → (b || c) ≡ true → (c ≡ true → remove ids n ≡ rest) → remove (x ∷ ids) (cond b 0 (n + 1)) ≡ cond b ids (x ∷ rest)
removed_by true c x n ids rest h f = refl
removed_by false c x n ids rest h f = let next : n + 1 ≡ suc n = omega arith in rw next (ap (λ (l : List ℕ). x ∷ l) (f h))

-- what stands at its place is taken out
pub removed : (id : ℕ) (ids : List ℕ) → has id ids ≡ true → remove ids (place_of id ids) ≡ without id ids
removed id [] h = absurd cc
removed id (x ∷ ids) h = removed_by (nat_eq x id) (has id ids) x (place_of id ids) ids (without id ids) h (λ k. removed id ids k)

-- the first leaves, and goes out
pub popped : (idle out : List ℕ) (id : ℕ) → has_first id idle ≡ true → length (drop 1 idle) + length (out ++ id ∷ []) ≡ length idle + length out
popped [] out id h = absurd cc
popped (x ∷ idle) out id h = let n : length (out ++ id ∷ []) ≡ length out + 1 = length-append out (id ∷ []) in omega arith

pub one_more : (ids : List ℕ) (id : ℕ) → length (ids ++ id ∷ []) ≡ length ids + 1
one_more ids id = length-append ids (id ∷ [])
