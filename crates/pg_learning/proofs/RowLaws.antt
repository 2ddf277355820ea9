-- Which columns are read.
use Rattle.std.proofs.Common.{◌≡◌, ◌<◌, ◌⊎◌, inl, inr, ◌+◌, ℕ, zero, suc, List, length, Option, refl, subst, arith}
use Rattle.pg_wire.specs.declared.error.Error.{Error}
use Rattle.pg_learning.specs.Lookups.{Values, At, Holds, Column, IsRead, AreReadBefore, IsNoRow}
use Rattle.pg_learning.specs.Parts.{IsNoColumn}

pub none_before : (columns : List Column) (values : Values) → AreReadBefore columns values 0
none_before columns values earlier lt = absurd (omega (arith, lt))

below_or_at : (a b : ℕ) → a < b + 1 → (a < b) ⊎ (a ≡ b)
below_or_at zero zero lt = inr refl
below_or_at zero (suc b) lt = inl (omega arith)
below_or_at (suc a) zero lt = absurd (omega (arith, lt))
below_or_at (suc a) (suc b) lt = elim (below_or_at a b (omega (arith, lt))) [
  | inl s ↦ inl (omega (arith, s))
  | inr e ↦ inr (omega (arith, e))
]

pub one_more : (columns : List Column) (values : Values) (place : ℕ) → AreReadBefore columns values place → IsRead columns values place → AreReadBefore columns values (place + 1)
one_more columns values place before at earlier lt = elim (below_or_at earlier place lt) [
  | inl s ↦ before earlier s
  | inr e ↦ subst (λ (n : ℕ). IsRead columns values n) (omega (arith, e)) at
]

pub told : {X : Type 0} (reads : Option (List ℕ) → X → Type 0) (values : Values) (place : ℕ) (x : X) → At reads values place x → Holds reads values place
told reads values place x h = (x, h)

-- the first column of which nothing is read
pub no_row : {X : Type 0} (reads : Option (List ℕ) → X → Type 0) (columns : List Column) (values : Values) (place : ℕ) (e : Error) → place < length columns → AreReadBefore columns values place → (IsRead columns values place → Holds reads values place) → IsNoColumn reads values place e → IsNoRow columns values e
no_row reads columns values place e lt before same (inl memory) = inl memory
no_row reads columns values place e lt before same (inr other) = inr (place, other.0, (lt, before, λ r. let h = same r in other.1 h.0 h.1))
