-- What is read from left to right is an array of the grammar, and each such array is read.
use Rattle.std.proofs.Common.{◌≡◌, ℕ, zero, suc, ◌<◌, ◌≤◌, ◌^◌, inl, inr, Bool, cond, eqb, ltb, leb, List, [], ◌∷◌, ◌++◌, length, Option, Some, None, refl, sym, ap, subst, ◌∙◌, append_assoc, append-nil, flat_map, arith, eqb-true}
use Rattle.std.specs.List.{AllByRecursion}
use Rattle.std.proofs.lemmas.Bool.{ltb-true, leb-true, lt-ltb, le-leb}
use Rattle.pg_wire.specs.Bytes.{number32, value, AreBytes}
use Rattle.pg_wire.specs.Frontend.{FitsValue}
use Rattle.pg_wire.specs.Reading.{◌>>=◌, number32_at, value_at, many_at}
use Rattle.pg_wire.proofs.ReaderLaws.{bind_some, rest_bytes, number32_exact}
use Rattle.pg_wire.proofs.ListLaws.{value_exact}
use Rattle.pg_values.specs.Arrays.{ReadsEach, array_front, IsEmptyArray, HasElements, AreElements, IsArray}
use Rattle.pg_values.specs.ArrayReading.{dimensions_at, count_at, head_at, ReadsArray}
use Rattle.pg_wire.proofs.Tests.{chosen}
use Rattle.std.proofs.lemmas.Option.{cond_some, same_Some}
use Rattle.std.proofs.lemmas.List.{nil_from_length}

abbrev Values : Type 0
Values = List (Option (List ℕ))

abbrev at : ℕ → List ℕ → ℕ × List ℕ
at n rest = (n, rest)

-- ---- so many values

many_takes : (n : ℕ) (bytes : List ℕ) (x : Values × List ℕ) → AreBytes bytes → many_at value_at n bytes ≡ Some x → (length x.0 ≡ n) × AllByRecursion FitsValue x.0 × (bytes ≡ flat_map value x.0 ++ x.1)
unfolding many_at
many_takes zero bytes x h e = subst (λ (y : Values × List ℕ). (length y.0 ≡ 0) × AllByRecursion FitsValue y.0 × (bytes ≡ flat_map value y.0 ++ y.1)) (same_Some ([], bytes) x e) (refl, tt, refl)
many_takes (suc n) bytes x h e =
    let a = bind_some (value_at bytes) (λ first. many_at value_at n first.1 >>= λ others. Some (first.0 ∷ others.0, others.1)) x e in
    let b = bind_some (many_at value_at n a.0.1) (λ others. Some (a.0.0 ∷ others.0, others.1)) x a.2 in
    let one = value_exact.takes bytes a.0 h a.1 in
    let two = many_takes n a.0.1 b.0 (rest_bytes bytes (value a.0.0) a.0.1 h one.1) b.1 in
    subst (λ (y : Values × List ℕ). (length y.0 ≡ suc n) × AllByRecursion FitsValue y.0 × (bytes ≡ flat_map value y.0 ++ y.1)) (same_Some (a.0.0 ∷ b.0.0, b.0.1) x b.2)
    (ap suc two.0, (one.0, two.1), one.1 ∙ ap (λ (u : List ℕ). value a.0.0 ++ u) two.2 ∙ sym (append_assoc (value a.0.0) (flat_map value b.0.0) b.0.1))

many_again : (xs : Values) (rest : List ℕ) → AllByRecursion FitsValue xs → many_at value_at (length xs) (flat_map value xs ++ rest) ≡ Some (xs, rest)
unfolding many_at
many_again [] rest h = refl
many_again (x ∷ xs) rest h =
    ap (many_at value_at (suc (length xs))) (append_assoc (value x) (flat_map value xs) rest) ∙ rw (value_exact.again x (flat_map value xs ++ rest) h.0, many_again xs rest h.1) refl

-- ---- the head

dimensions_takes : (bytes : List ℕ) (x : ℕ × List ℕ) → AreBytes bytes → dimensions_at bytes ≡ Some x
    → (flags element : ℕ) × (flags ≤ 1) × (element < 2 ^ 32) × (bytes ≡ array_front x.0 flags element ++ x.1)
unfolding dimensions_at
dimensions_takes bytes x h e =
    let a = bind_some (number32_at bytes) (λ dimensions. number32_at dimensions.1 >>= λ flags. number32_at flags.1 >>= λ element. cond (leb flags.0 1) (Some (at dimensions.0 element.1)) None) x e in
    let b = bind_some (number32_at a.0.1) (λ flags. number32_at flags.1 >>= λ element. cond (leb flags.0 1) (Some (at a.0.0 element.1)) None) x a.2 in
    let d = bind_some (number32_at b.0.1) (λ element. cond (leb b.0.0 1) (Some (at a.0.0 element.1)) None) x b.2 in
    let g = cond_some (leb b.0.0 1) (at a.0.0 d.0.1) x d.2 in
    let one = number32_exact.takes bytes a.0 h a.1 in
    let h1 = rest_bytes bytes (number32 a.0.0) a.0.1 h one.1 in
    let two = number32_exact.takes a.0.1 b.0 h1 b.1 in
    let h2 = rest_bytes a.0.1 (number32 b.0.0) b.0.1 h1 two.1 in
    let three = number32_exact.takes b.0.1 d.0 h2 d.1 in (
      b.0.0,
      d.0.0,
      leb-true _ _ g.0,
      three.0,
      subst (λ (y : ℕ × List ℕ). bytes ≡ array_front y.0 b.0.0 d.0.0 ++ y.1) g.1
          (one.1 ∙ ap (λ (u : List ℕ). number32 a.0.0 ++ u) (two.1 ∙ ap (λ (u : List ℕ). number32 b.0.0 ++ u) three.1)),
    )

dimensions_again : (d flags element : ℕ) (rest : List ℕ) → d < 2 ^ 32 → flags ≤ 1 → element < 2 ^ 32 → dimensions_at (array_front d flags element ++ rest) ≡ Some (at d rest)
unfolding dimensions_at
dimensions_again d flags element rest h k m =
    rw (number32_exact.again d (number32 flags ++ number32 element ++ rest) h, number32_exact.again flags (number32 element ++ rest) (omega (arith, k)), number32_exact.again element rest m, le-leb flags 1 k) refl

count_takes : (bytes : List ℕ) (x : ℕ × List ℕ) → AreBytes bytes → count_at bytes ≡ Some x → (first : ℕ) × (first < 2 ^ 32) × (x.0 < 2 ^ 31) × (bytes ≡ number32 x.0 ++ number32 first ++ x.1)
unfolding count_at
count_takes bytes x h e =
    let a = bind_some (number32_at bytes) (λ n. number32_at n.1 >>= λ first. cond (ltb n.0 (2 ^ 31)) (Some (at n.0 first.1)) None) x e in
    let b = bind_some (number32_at a.0.1) (λ first. cond (ltb a.0.0 (2 ^ 31)) (Some (at a.0.0 first.1)) None) x a.2 in
    let g = cond_some (ltb a.0.0 (2 ^ 31)) (at a.0.0 b.0.1) x b.2 in
    let one = number32_exact.takes bytes a.0 h a.1 in
    let two = number32_exact.takes a.0.1 b.0 (rest_bytes bytes (number32 a.0.0) a.0.1 h one.1) b.1 in
    let both = subst (λ (y : ℕ × List ℕ). (y.0 < 2 ^ 31) × (bytes ≡ number32 y.0 ++ number32 b.0.0 ++ y.1)) g.1 (ltb-true _ _ g.0, one.1 ∙ ap (λ (u : List ℕ). number32 a.0.0 ++ u) two.1) in
    (b.0.0, two.0, both.0, both.1)

count_again : (n first : ℕ) (rest : List ℕ) → n < 2 ^ 31 → first < 2 ^ 32 → count_at (number32 n ++ number32 first ++ rest) ≡ Some (at n rest)
unfolding count_at
count_again n first rest h k =
    rw (number32_exact.again n (number32 first ++ rest) (omega (arith, h)), number32_exact.again first rest k, lt-ltb n (2 ^ 31) h) refl

has_elements : (bytes : List ℕ) (values : Values) → HasElements bytes values → AreElements bytes values
has_elements bytes [] h = inr h
has_elements bytes (v ∷ vs) h = h

abbrev head_by : List ℕ → ℕ × List ℕ → Option (ℕ × List ℕ)
head_by bytes d = cond (eqb d.0 0) (cond (eqb (length d.1) 0) (Some (at 0 [])) None) (cond (eqb d.0 1) (count_at d.1) None)

empty_takes : (bytes : List ℕ) (d x : ℕ × List ℕ) (flags element : ℕ) (values : Values) → flags ≤ 1 → element < 2 ^ 32 → bytes ≡ array_front d.0 flags element ++ d.1 → d.0 ≡ 0
    → cond (eqb (length d.1) 0) (Some (at 0 [])) None ≡ Some x → AreBytes x.1 → many_at value_at x.0 x.1 ≡ Some (values, []) → AreElements bytes values
empty_takes bytes d x flags element values f m e z g small all =
    let p = cond_some (eqb (length d.1) 0) (at 0 []) x g in
    let t = many_takes x.0 x.1 (values, []) small all in
    let none : values ≡ [] = nil_from_length values (t.0 ∙ sym (ap (λ (y : ℕ × List ℕ). y.0) p.1)) in
    let made : bytes ≡ array_front 0 flags element = e ∙ ap (λ (n : ℕ). array_front n flags element ++ d.1) z ∙ ap (λ (u : List ℕ). array_front 0 flags element ++ u) (nil_from_length d.1 (eqb-true _ _ p.0)) in
    rw none (inl (flags, element, f, m, made))

full_takes : (bytes : List ℕ) (d x : ℕ × List ℕ) (flags element : ℕ) (values : Values) → flags ≤ 1 → element < 2 ^ 32 → bytes ≡ array_front d.0 flags element ++ d.1 → d.0 ≡ 1
    → AreBytes d.1 → count_at d.1 ≡ Some x → many_at value_at x.0 x.1 ≡ Some (values, []) → AreElements bytes values
full_takes bytes d x flags element values f m e one small g all =
    let n = count_takes d.1 x small g in
    let t = many_takes x.0 x.1 (values, []) (rest_bytes d.1 (number32 x.0 ++ number32 n.0) x.1 small n.3) all in
    let rest : x.1 ≡ flat_map value values = t.2 ∙ append-nil (flat_map value values) in
    let made : bytes ≡ array_front 1 flags element ++ number32 (length values) ++ number32 n.0 ++ flat_map value values =
    e ∙ ap (λ (k : ℕ). array_front k flags element ++ d.1) one ∙ ap (λ (u : List ℕ). array_front 1 flags element ++ u) (n.3 ∙ ap (λ (k : ℕ). number32 k ++ number32 n.0 ++ x.1) (sym t.0) ∙ ap (λ (u : List ℕ). number32 (length values) ++ number32 n.0 ++ u) rest) in
    has_elements bytes values (flags, element, n.0, f, m, n.1, omega (arith, t.0, n.2), t.1, made)

nil_bytes : (x : ℕ × List ℕ) (b : Bool) → cond b (Some (at 0 [])) None ≡ Some x → AreBytes x.1
nil_bytes x b e = subst (λ (y : ℕ × List ℕ). AreBytes y.1) (cond_some b (at 0 []) x e).1 tt

head_takes : (bytes : List ℕ) (x : ℕ × List ℕ) (values : Values) → AreBytes bytes → head_at bytes ≡ Some x → many_at value_at x.0 x.1 ≡ Some (values, []) → AreElements bytes values
unfolding head_at
head_takes bytes x values h e all =
    let a = bind_some (dimensions_at bytes) (head_by bytes) x e in
    let d = dimensions_takes bytes a.0 h a.1 in
    elim (chosen (eqb a.0.0 0) (cond (eqb (length a.0.1) 0) (Some (at 0 [])) None) (cond (eqb a.0.0 1) (count_at a.0.1) None) (Some x) a.2) [
      | inl p ↦ empty_takes bytes a.0 x d.0 d.1 values d.2 d.3 d.4 (eqb-true _ _ p.0) p.1 (nil_bytes x (eqb (length a.0.1) 0) p.1) all
      | inr p ↦ elim (chosen (eqb a.0.0 1) (count_at a.0.1) None (Some x) p.1) [
        | inl q ↦ full_takes bytes a.0 x d.0 d.1 values d.2 d.3 d.4 (eqb-true _ _ q.0) (rest_bytes bytes (array_front a.0.0 d.0 d.1) a.0.1 h d.4) q.1 all
        | inr q ↦ absurd (none_is x q.1)
      ]
    ]
  where
    none_is : (x : ℕ × List ℕ) → None ≡ Some x → ⊥
    none_is x e = cc

pub reads_is : {X : Type 0} (reads : Option (List ℕ) → X → Type 0) (bytes : List ℕ) (xs : List X) → AreBytes bytes → ReadsArray reads bytes xs → IsArray reads bytes xs
reads_is reads bytes xs h r = (r.3.0, head_takes bytes (r.0, r.1) r.3.0 h r.2 r.3.1, r.3.2)

empty_again : (bytes : List ℕ) → IsEmptyArray bytes → head_at bytes ≡ Some (at 0 [])
unfolding head_at
empty_again bytes m = rw m.4 (rw (dimensions_again 0 m.0 m.1 [] (omega arith) m.2 m.3) refl)

full_again : (bytes : List ℕ) (values : Values) → HasElements bytes values → head_at bytes ≡ Some (at (length values) (flat_map value values))
unfolding head_at
full_again bytes values m =
    rw m.8 (rw (dimensions_again 1 m.0 m.1 (number32 (length values) ++ number32 m.2 ++ flat_map value values) (omega arith) m.3 m.4) (count_again (length values) m.2 (flat_map value values) m.6 m.5))

full_reads : {X : Type 0} (reads : Option (List ℕ) → X → Type 0) (bytes : List ℕ) (values : Values) (xs : List X) → HasElements bytes values → ReadsEach reads values xs → ReadsArray reads bytes xs
full_reads reads bytes values xs m r =
    (length values, flat_map value values, full_again bytes values m, (values, ap (many_at value_at (length values)) (sym (append-nil (flat_map value values))) ∙ many_again values [] m.7, r))

none_again : (bytes : List ℕ) → many_at value_at 0 [] ≡ Some ([], [])
unfolding many_at
none_again bytes = refl

pub is_reads : {X : Type 0} (reads : Option (List ℕ) → X → Type 0) (bytes : List ℕ) (xs : List X) → IsArray reads bytes xs → ReadsArray reads bytes xs
is_reads reads bytes xs r = by_values reads bytes r.0 xs r.1 r.2
  where
    by_values : {Y : Type 0} (reads : Option (List ℕ) → Y → Type 0) (bytes : List ℕ) (values : Values) (ys : List Y) → AreElements bytes values → ReadsEach reads values ys → ReadsArray reads bytes ys
    by_values reads bytes [] ys a r = elim a [
      | inl m ↦ (0, [], empty_again bytes m, ([], none_again bytes, r))
      | inr m ↦ full_reads reads bytes [] ys m r
    ]
    by_values reads bytes (v ∷ vs) ys a r = full_reads reads bytes (v ∷ vs) ys a r
