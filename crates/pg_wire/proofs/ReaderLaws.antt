-- A reader is exact for a kind of values and their codes: what it takes is the code of such a value, and it takes each.
use Rattle.std.proofs.Common.{◌≡◌, ℕ, ℤ, zero, suc, ◌<◌, ◌^◌, cond, eqb, List, [], ◌∷◌, ◌++◌, length, get_or, Option, Some, None, refl, sym, ap, subst, ◌∙◌, append_assoc, append-nil, arith, flat_map, eqb-true, ne_eqb}
use Rattle.std.specs.Prelude.{FitsSigned}
use Rattle.std.specs.Int.{w16, w32, from_be_bytes, cast_signed, cast_unsigned}
use Rattle.std.specs.List.{AllByRecursion}
use Rattle.std.specs.Str.{is_utf8}
use Rattle.std.proofs.lemmas.Int.{ints, to_z-of_z, of_z-to_z}
use Rattle.std.proofs.lemmas.Nat.{be_bytes_2, be_bytes_4, from_be_bytes-to_be_bytes_2, from_be_bytes-to_be_bytes_4}
use Rattle.std.proofs.lemmas.List.{nil_from_length}
use Rattle.std.proofs.lemmas.Str.{IsUtf8-from_is_utf8, is_utf8-from_IsUtf8}
use Rattle.pg_wire.specs.Bytes.{number16, number32, signed16, signed32, ended, HasNoNul, AreBytes}
use Rattle.pg_wire.specs.Backend.{IsText}
use Rattle.pg_wire.specs.Reading.{◌>>=◌, Reader, byte_at, number16_at, number32_at, signed16_at, signed32_at, ended_at, text_at, many_at, counted_at, then_at, whole}
use Rattle.pg_wire.proofs.NameLaws.{both_false}
use Rattle.pg_wire.proofs.Tests.{neither_true}
use Rattle.std.proofs.lemmas.Option.{cond_some, same_Some}
use Rattle.pg_wire.proofs.HeaderLaws.{four_bytes}

pub record IsExact {A : Type 0} (P : A → Type 0) (f : A → List ℕ) (r : Reader A) : Type 0 where
  pub takes : (bytes : List ℕ) (x : A × List ℕ) → AreBytes bytes → r bytes ≡ Some x → P x.0 × (bytes ≡ f x.0 ++ x.1)
  pub again : (a : A) (rest : List ℕ) → P a → r (f a ++ rest) ≡ Some (a, rest)

-- ---- tools

abbrev some : {A : Type 0} → A → Option A
some x = Some x

pub bind_some : {A B : Type 0} (r : Option A) (f : A → Option B) (y : B) → (r >>= f) ≡ Some y → (x : A) × (r ≡ Some x) × (f x ≡ Some y)
bind_some (Some x) f y e = (x, refl, e)
bind_some None f y e = absurd cc

rest_of_bytes : (front rest : List ℕ) → AreBytes (front ++ rest) → AreBytes rest
rest_of_bytes [] rest h = h
rest_of_bytes (b ∷ front) rest h = rest_of_bytes front rest h.1

pub rest_bytes : (bytes front rest : List ℕ) → AreBytes bytes → bytes ≡ front ++ rest → AreBytes rest
rest_bytes bytes front rest h e = rest_of_bytes front rest (subst AreBytes e h)

pub are_bytes : (bytes : List ℕ) → ((i : ℕ) → get_or bytes i 0 < 256) → AreBytes bytes
are_bytes [] h = tt
are_bytes (b ∷ bs) h = (h 0, are_bytes bs (λ i. h (suc i)))

-- ---- a byte, and numbers

byte_takes : (bytes : List ℕ) (x : ℕ × List ℕ) → AreBytes bytes → byte_at bytes ≡ Some x → (x.0 < 256) × (bytes ≡ x.0 ∷ x.1)
unfolding byte_at
byte_takes [] x h e = absurd cc
byte_takes (b ∷ bs) x h e = subst (λ (y : ℕ × List ℕ). (y.0 < 256) × (b ∷ bs ≡ y.0 ∷ y.1)) (same_Some (b, bs) x e) (h.0, refl)

byte_again : (b : ℕ) (rest : List ℕ) → b < 256 → byte_at (b ∷ rest) ≡ Some (b, rest)
unfolding byte_at
byte_again b rest h = refl

pub byte_exact : IsExact (λ b. b < 256) (λ b. b ∷ []) byte_at
byte_exact = record { takes = byte_takes; again = byte_again }

two_bytes : (a b : ℕ) → a < 256 → b < 256 → (i : ℕ) → get_or (a ∷ b ∷ []) i 0 < 256
two_bytes a b h k zero = h
two_bytes a b h k (suc zero) = k
two_bytes a b h k (suc (suc i)) = omega arith

number16_takes : (bytes : List ℕ) (x : ℕ × List ℕ) → AreBytes bytes → number16_at bytes ≡ Some x → (x.0 < 2 ^ 16) × (bytes ≡ number16 x.0 ++ x.1)
unfolding number16_at
number16_takes [] x h e = absurd cc
number16_takes (a ∷ []) x h e = absurd cc
number16_takes (a ∷ b ∷ bs) x h e =
    let pair : List ℕ = a ∷ b ∷ [] in
    let back : number16 (from_be_bytes w16 pair) ≡ pair = be_bytes_2 pair (from_be_bytes w16 pair) refl (two_bytes a b h.0 h.1.0) refl in
    let below : from_be_bytes w16 pair < 2 ^ 16 = omega (arith, h.0, h.1.0) in
    subst (λ (y : ℕ × List ℕ). (y.0 < 2 ^ 16) × (a ∷ b ∷ bs ≡ number16 y.0 ++ y.1)) (same_Some (from_be_bytes w16 pair, bs) x e) (below, ap (λ (t : List ℕ). t ++ bs) (sym back))

number16_again : (n : ℕ) (rest : List ℕ) → n < 2 ^ 16 → number16_at (number16 n ++ rest) ≡ Some (n, rest)
unfolding number16_at
number16_again n rest h = ap (λ (m : ℕ). Some (m, rest)) (from_be_bytes-to_be_bytes_2 n h)

pub number16_exact : IsExact (λ n. n < 2 ^ 16) number16 number16_at
number16_exact = record { takes = number16_takes; again = number16_again }

number32_takes : (bytes : List ℕ) (x : ℕ × List ℕ) → AreBytes bytes → number32_at bytes ≡ Some x → (x.0 < 2 ^ 32) × (bytes ≡ number32 x.0 ++ x.1)
unfolding number32_at
number32_takes [] x h e = absurd cc
number32_takes (a ∷ []) x h e = absurd cc
number32_takes (a ∷ b ∷ []) x h e = absurd cc
number32_takes (a ∷ b ∷ c ∷ []) x h e = absurd cc
number32_takes (a ∷ b ∷ c ∷ d ∷ bs) x h e =
    let four : List ℕ = a ∷ b ∷ c ∷ d ∷ [] in
    let back : number32 (from_be_bytes w32 four) ≡ four = be_bytes_4 four (from_be_bytes w32 four) refl (four_bytes a b c d h.0 h.1.0 h.1.1.0 h.1.1.1.0) refl in
    let below : from_be_bytes w32 four < 2 ^ 32 = omega (arith, h.0, h.1.0, h.1.1.0, h.1.1.1.0) in
    subst (λ (y : ℕ × List ℕ). (y.0 < 2 ^ 32) × (a ∷ b ∷ c ∷ d ∷ bs ≡ number32 y.0 ++ y.1)) (same_Some (from_be_bytes w32 four, bs) x e) (below, ap (λ (t : List ℕ). t ++ bs) (sym back))

number32_again : (n : ℕ) (rest : List ℕ) → n < 2 ^ 32 → number32_at (number32 n ++ rest) ≡ Some (n, rest)
unfolding number32_at
number32_again n rest h = ap (λ (m : ℕ). Some (m, rest)) (from_be_bytes-to_be_bytes_4 n h)

pub number32_exact : IsExact (λ n. n < 2 ^ 32) number32 number32_at
number32_exact = record { takes = number32_takes; again = number32_again }

signed_fits16 : (n : ℕ) → n < 2 ^ 16 → FitsSigned w16 (cast_signed w16 n)
signed_fits16 n h = omega (arith, ints)

signed16_takes : (bytes : List ℕ) (x : ℤ × List ℕ) → AreBytes bytes → signed16_at bytes ≡ Some x → FitsSigned w16 x.0 × (bytes ≡ signed16 x.0 ++ x.1)
unfolding signed16_at
signed16_takes bytes x h e =
    let a = bind_some (number16_at bytes) (λ n. Some (cast_signed w16 n.0, n.1)) x e in
    let t = number16_takes bytes a.0 h a.1 in
    let same : number16 a.0.0 ≡ signed16 (cast_signed w16 a.0.0) = ap number16 (sym (of_z-to_z w16 a.0.0 t.0)) in
    subst (λ (y : ℤ × List ℕ). FitsSigned w16 y.0 × (bytes ≡ signed16 y.0 ++ y.1)) (same_Some (cast_signed w16 a.0.0, a.0.1) x a.2) (signed_fits16 a.0.0 t.0, t.1 ∙ ap (λ (u : List ℕ). u ++ a.0.1) same)

pub signed_bound16 : (z : ℤ) → FitsSigned w16 z → cast_unsigned w16 z < 2 ^ 16
signed_bound16 z h = omega (arith, ints)

signed16_again : (z : ℤ) (rest : List ℕ) → FitsSigned w16 z → signed16_at (signed16 z ++ rest) ≡ Some (z, rest)
unfolding signed16_at
signed16_again z rest h = rw (number16_again (cast_unsigned w16 z) rest (signed_bound16 z h)) (ap (λ (y : ℤ). Some (y, rest)) (to_z-of_z w16 z h))

pub signed16_exact : IsExact (FitsSigned w16) signed16 signed16_at
signed16_exact = record { takes = signed16_takes; again = signed16_again }

signed_fits32 : (n : ℕ) → n < 2 ^ 32 → FitsSigned w32 (cast_signed w32 n)
signed_fits32 n h = omega (arith, ints)

signed32_takes : (bytes : List ℕ) (x : ℤ × List ℕ) → AreBytes bytes → signed32_at bytes ≡ Some x → FitsSigned w32 x.0 × (bytes ≡ signed32 x.0 ++ x.1)
unfolding signed32_at
signed32_takes bytes x h e =
    let a = bind_some (number32_at bytes) (λ n. Some (cast_signed w32 n.0, n.1)) x e in
    let t = number32_takes bytes a.0 h a.1 in
    let same : number32 a.0.0 ≡ signed32 (cast_signed w32 a.0.0) = ap number32 (sym (of_z-to_z w32 a.0.0 t.0)) in
    subst (λ (y : ℤ × List ℕ). FitsSigned w32 y.0 × (bytes ≡ signed32 y.0 ++ y.1)) (same_Some (cast_signed w32 a.0.0, a.0.1) x a.2) (signed_fits32 a.0.0 t.0, t.1 ∙ ap (λ (u : List ℕ). u ++ a.0.1) same)

pub signed_bound32 : (z : ℤ) → FitsSigned w32 z → cast_unsigned w32 z < 2 ^ 32
signed_bound32 z h = omega (arith, ints)

signed32_again : (z : ℤ) (rest : List ℕ) → FitsSigned w32 z → signed32_at (signed32 z ++ rest) ≡ Some (z, rest)
unfolding signed32_at
signed32_again z rest h = rw (number32_again (cast_unsigned w32 z) rest (signed_bound32 z h)) (ap (λ (y : ℤ). Some (y, rest)) (to_z-of_z w32 z h))

pub signed32_exact : IsExact (FitsSigned w32) signed32 signed32_at
signed32_exact = record { takes = signed32_takes; again = signed32_again }

-- ---- texts

ended_takes : (bytes : List ℕ) (x : List ℕ × List ℕ) → ended_at bytes ≡ Some x → HasNoNul x.0 × (bytes ≡ ended x.0 ++ x.1)
unfolding ended_at
ended_takes [] x e = absurd cc
ended_takes (zero ∷ bs) x e = subst (λ (y : List ℕ × List ℕ). HasNoNul y.0 × (0 ∷ bs ≡ ended y.0 ++ y.1)) (same_Some ([], bs) x e) (refl, refl)
ended_takes (suc b ∷ bs) x e =
    let a = bind_some (ended_at bs) (λ text. Some (suc b ∷ text.0, text.1)) x e in
    let t = ended_takes bs a.0 a.1 in
    subst (λ (y : List ℕ × List ℕ). HasNoNul y.0 × (suc b ∷ bs ≡ ended y.0 ++ y.1)) (same_Some (suc b ∷ a.0.0, a.0.1) x a.2)
    (both_false (eqb 0 (suc b)) _ (ne_eqb 0 (suc b) (λ z. absurd (omega (arith, z)))) t.0, ap (λ (u : List ℕ). suc b ∷ u) t.1)

ended_again : (text rest : List ℕ) → HasNoNul text → ended_at (ended text ++ rest) ≡ Some (text, rest)
unfolding ended_at
ended_again [] rest h = refl
ended_again (zero ∷ text) rest h = absurd cc
ended_again (suc b ∷ text) rest h = rw (ended_again text rest (neither_true (eqb 0 (suc b)) _ h).1) refl

pub ended_exact : IsExact HasNoNul ended ended_at
ended_exact = record { takes = λ bytes x _ e. ended_takes bytes x e; again = ended_again }

text_takes : (bytes : List ℕ) (x : List ℕ × List ℕ) → text_at bytes ≡ Some x → IsText x.0 × (bytes ≡ ended x.0 ++ x.1)
unfolding text_at
text_takes bytes x e =
    let a = bind_some (ended_at bytes) (λ text. cond (is_utf8 text.0) (Some (text.0, text.1)) None) x e in
    let t = ended_takes bytes a.0 a.1 in
    let g = cond_some (is_utf8 a.0.0) (a.0.0, a.0.1) x a.2 in
    subst (λ (y : List ℕ × List ℕ). IsText y.0 × (bytes ≡ ended y.0 ++ y.1)) g.1 ((t.0, IsUtf8-from_is_utf8 a.0.0 g.0), t.1)

text_again : (text rest : List ℕ) → IsText text → text_at (ended text ++ rest) ≡ Some (text, rest)
unfolding text_at
text_again text rest h = rw (ended_again text rest h.0, is_utf8-from_IsUtf8 text h.1) refl

pub text_exact : IsExact IsText ended text_at
text_exact = record { takes = λ bytes x _ e. text_takes bytes x e; again = text_again }

-- ---- one after the other

then_takes : {A B : Type 0} (P : A → Type 0) (f : A → List ℕ) (r : Reader A) (Q : B → Type 0) (g : B → List ℕ) (s : Reader B) → IsExact P f r → IsExact Q g s → (bytes : List ℕ) (x : (A × B) × List ℕ) → AreBytes bytes → then_at r s bytes ≡ Some x → (P x.0.0 × Q x.0.1) × (bytes ≡ (f x.0.0 ++ g x.0.1) ++ x.1)
unfolding then_at
then_takes {A} {B} P f r Q g s p q bytes x h e =
    let a = bind_some (r bytes) (λ a. s a.1 >>= λ b. Some ((a.0, b.0), b.1)) x e in
    let b = bind_some (s a.0.1) (λ b. Some ((a.0.0, b.0), b.1)) x a.2 in
    let one = p.takes bytes a.0 h a.1 in
    let two = q.takes a.0.1 b.0 (rest_bytes bytes (f a.0.0) a.0.1 h one.1) b.1 in
    subst (λ (y : (A × B) × List ℕ). (P y.0.0 × Q y.0.1) × (bytes ≡ (f y.0.0 ++ g y.0.1) ++ y.1)) (same_Some ((a.0.0, b.0.0), b.0.1) x b.2)
    ((one.0, two.0), one.1 ∙ ap (λ (u : List ℕ). f a.0.0 ++ u) two.1 ∙ sym (append_assoc (f a.0.0) (g b.0.0) b.0.1))

then_again : {A B : Type 0} (P : A → Type 0) (f : A → List ℕ) (r : Reader A) (Q : B → Type 0) (g : B → List ℕ) (s : Reader B) → IsExact P f r → IsExact Q g s → (x : A × B) (rest : List ℕ) → P x.0 × Q x.1 → then_at r s ((f x.0 ++ g x.1) ++ rest) ≡ Some (x, rest)
unfolding then_at
then_again P f r Q g s p q x rest h =
    ap (then_at r s) (append_assoc (f x.0) (g x.1) rest) ∙ rw (p.again x.0 (g x.1 ++ rest) h.0, q.again x.1 rest h.1) refl

pub then_exact : {A B : Type 0} (P : A → Type 0) (f : A → List ℕ) (r : Reader A) (Q : B → Type 0) (g : B → List ℕ) (s : Reader B) → IsExact P f r → IsExact Q g s → IsExact (λ (x : A × B). P x.0 × Q x.1) (λ x. f x.0 ++ g x.1) (then_at r s)
then_exact P f r Q g s p q = record { takes = then_takes P f r Q g s p q; again = then_again P f r Q g s p q }

many_takes : {A : Type 0} (P : A → Type 0) (f : A → List ℕ) (r : Reader A) → IsExact P f r → (n : ℕ) (bytes : List ℕ) (x : List A × List ℕ) → AreBytes bytes → many_at r n bytes ≡ Some x → (length x.0 ≡ n) × AllByRecursion P x.0 × (bytes ≡ flat_map f x.0 ++ x.1)
unfolding many_at
many_takes {A} P f r p zero bytes x h e = subst (λ (y : List A × List ℕ). (length y.0 ≡ 0) × AllByRecursion P y.0 × (bytes ≡ flat_map f y.0 ++ y.1)) (same_Some ([], bytes) x e) (refl, tt, refl)
many_takes {A} P f r p (suc n) bytes x h e =
    let a = bind_some (r bytes) (λ first. many_at r n first.1 >>= λ others. Some (first.0 ∷ others.0, others.1)) x e in
    let b = bind_some (many_at r n a.0.1) (λ others. Some (a.0.0 ∷ others.0, others.1)) x a.2 in
    let one = p.takes bytes a.0 h a.1 in
    let two = many_takes P f r p n a.0.1 b.0 (rest_bytes bytes (f a.0.0) a.0.1 h one.1) b.1 in
    subst (λ (y : List A × List ℕ). (length y.0 ≡ suc n) × AllByRecursion P y.0 × (bytes ≡ flat_map f y.0 ++ y.1)) (same_Some (a.0.0 ∷ b.0.0, b.0.1) x b.2)
    (ap suc two.0, (one.0, two.1), one.1 ∙ ap (λ (u : List ℕ). f a.0.0 ++ u) two.2 ∙ sym (append_assoc (f a.0.0) (flat_map f b.0.0) b.0.1))

many_again : {A : Type 0} (P : A → Type 0) (f : A → List ℕ) (r : Reader A) → IsExact P f r → (xs : List A) (rest : List ℕ) → AllByRecursion P xs → many_at r (length xs) (flat_map f xs ++ rest) ≡ Some (xs, rest)
unfolding many_at
many_again P f r p [] rest h = refl
many_again P f r p (x ∷ xs) rest h =
    ap (many_at r (suc (length xs))) (append_assoc (f x) (flat_map f xs) rest) ∙ rw (p.again x (flat_map f xs ++ rest) h.0, many_again P f r p xs rest h.1) refl

counted_takes : {A : Type 0} (P : A → Type 0) (f : A → List ℕ) (r : Reader A) → IsExact P f r → (bytes : List ℕ) (x : List A × List ℕ) → AreBytes bytes → counted_at r bytes ≡ Some x → ((length x.0 < 2 ^ 16) × AllByRecursion P x.0) × (bytes ≡ (number16 (length x.0) ++ flat_map f x.0) ++ x.1)
unfolding counted_at
counted_takes P f r p bytes x h e =
    let a = bind_some (number16_at bytes) (λ n. many_at r n.0 n.1) x e in
    let one = number16_takes bytes a.0 h a.1 in
    let two = many_takes P f r p a.0.0 a.0.1 x (rest_bytes bytes (number16 a.0.0) a.0.1 h one.1) a.2 in
    let count = two.0 in
    ((omega (arith, count, one.0), two.1), one.1 ∙ ap (λ (u : List ℕ). number16 a.0.0 ++ u) two.2 ∙ ap (λ (n : ℕ). number16 n ++ (flat_map f x.0 ++ x.1)) (sym count) ∙ sym (append_assoc (number16 (length x.0)) (flat_map f x.0) x.1))

counted_again : {A : Type 0} (P : A → Type 0) (f : A → List ℕ) (r : Reader A) → IsExact P f r → (xs : List A) (rest : List ℕ) → (length xs < 2 ^ 16) × AllByRecursion P xs → counted_at r ((number16 (length xs) ++ flat_map f xs) ++ rest) ≡ Some (xs, rest)
unfolding counted_at
counted_again P f r p xs rest h =
    ap (counted_at r) (append_assoc (number16 (length xs)) (flat_map f xs) rest)
    ∙ ap (λ (o : Option (ℕ × List ℕ)). o >>= λ n. many_at r n.0 n.1) (number16_again (length xs) (flat_map f xs ++ rest) h.0)
    ∙ many_again P f r p xs rest h.1

pub counted_exact : {A : Type 0} (P : A → Type 0) (f : A → List ℕ) (r : Reader A) → IsExact P f r → IsExact (λ (xs : List A). (length xs < 2 ^ 16) × AllByRecursion P xs) (λ xs. number16 (length xs) ++ flat_map f xs) (counted_at r)
counted_exact P f r p = record { takes = counted_takes P f r p; again = counted_again P f r p }

-- ---- all of the bytes

pub whole_takes : {A : Type 0} (P : A → Type 0) (f : A → List ℕ) (r : Reader A) → IsExact P f r → (body : List ℕ) (a : A) → AreBytes body → whole r body ≡ Some a → P a × (body ≡ f a)
unfolding whole
whole_takes {A} P f r p body a h e =
    let x = bind_some (r body) (λ x. cond (eqb (length x.1) 0) (Some x.0) None) a e in
    let g = cond_some (eqb (length x.0.1) 0) x.0.0 a x.2 in
    let t = p.takes body x.0 h x.1 in
    let nothing : x.0.1 ≡ [] = nil_from_length x.0.1 (eqb-true _ _ g.0) in
    subst (λ (y : A). P y × (body ≡ f y)) g.1 (t.0, t.1 ∙ ap (λ (u : List ℕ). f x.0.0 ++ u) nothing ∙ append-nil (f x.0.0))

pub whole_again : {A : Type 0} (P : A → Type 0) (f : A → List ℕ) (r : Reader A) → IsExact P f r → (a : A) → P a → whole r (f a) ≡ Some a
unfolding whole
whole_again P f r p a h = ap (whole r) (sym (append-nil (f a))) ∙ rw (p.again a [] h) refl

pub whole_none : {A : Type 0} (P : A → Type 0) (f : A → List ℕ) (r : Reader A) → IsExact P f r → (body : List ℕ) → whole r body ≡ None → (a : A) → P a → body ≡ f a → ⊥
whole_none {A} P f r p body e a h is =
    let found : whole r body ≡ Some a = ap (whole r) is ∙ whole_again P f r p a h in
    let clash : None ≡ Some a = sym e ∙ found in
    absurd cc
