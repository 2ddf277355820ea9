-- The most custom types that stand in each other in one of several attributes.
use Rattle.std.proofs.Common.{◌≡◌, ℕ, zero, suc, ◌+◌, ◌<◌, ◌≤◌, length-append, max, List, [], ◌∷◌, ◌++◌, length, take, get_or, arith}
use Rattle.pg_arguments.specs.Types.{TypeParts, most_levels}
use Rattle.pg_arguments.specs.Kinds.{attribute_types}

pub most_levels-append : (xs ys : TypeParts) → most_levels (xs ++ ys) ≡ max (most_levels xs) (most_levels ys)
most_levels-append [] ys = omega arith
most_levels-append (x ∷ xs) ys = omega (arith, most_levels-append xs ys)

levels_suc : (attributes : List (List ℕ × TypeParts)) (i : ℕ) (a : List ℕ × TypeParts) → i < length attributes → a ≡ get_or attributes i a
    → most_levels (attribute_types (take (suc i) attributes)) ≡ max (most_levels a.1) (most_levels (attribute_types (take i attributes)))
levels_suc [] i a lt e = absurd (omega (arith, lt))
levels_suc (x ∷ xs) zero a lt e = rw (← e) (omega (arith, most_levels-append a.1 []))
levels_suc (x ∷ xs) (suc i) a lt e =
    let rest = levels_suc xs i a (omega (arith, lt)) e in
    omega (arith, rest, most_levels-append x.1 (attribute_types (take (suc i) xs)), most_levels-append x.1 (attribute_types (take i xs)))

pub levels_next : (attributes : List (List ℕ × TypeParts)) (i : ℕ) (a : List ℕ × TypeParts) → i < length attributes → a ≡ get_or attributes i a
    → most_levels (attribute_types (take (i + 1) attributes)) ≡ max (most_levels a.1) (most_levels (attribute_types (take i attributes)))
levels_next attributes i a lt e = let next : i + 1 ≡ suc i = omega arith in rw next (levels_suc attributes i a lt e)

-- no attribute has more parts than all of them together
pub attribute_falls : (attributes : List (List ℕ × TypeParts)) (i : ℕ) (a : List ℕ × TypeParts) → i < length attributes → a ≡ get_or attributes i a → length a.1 ≤ length (attribute_types attributes)
attribute_falls [] i a lt e = absurd (omega (arith, lt))
attribute_falls (x ∷ xs) zero a lt e = rw e (omega (arith, length-append x.1 (attribute_types xs)))
attribute_falls (x ∷ xs) (suc i) a lt e = omega (arith, attribute_falls xs i a (omega (arith, lt)) e, length-append x.1 (attribute_types xs))
