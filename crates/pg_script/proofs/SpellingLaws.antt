-- Numbers and characters: what is read is what the grammar spells.
use Rattle.std.proofs.Common.{ℕ, ◌≡◌, ◌+◌, ◌-◌, ◌*◌, ◌/◌, ◌%◌, ◌^◌, ◌<◌, ◌∷◌, [], List, Option, Some, None, Bool, true, false, cond, nat_eq, nat_lt, nat_le, length, refl, sym, ap, ◌∙◌, subst, arith, inl, inr}
use Rattle.std.specs.Prelude.{◌&&◌, bytes_eq}
use Rattle.std.specs.Char.{digit_value, digit_char}
use Rattle.std.specs.Int.{IsInRange}
use Rattle.std.specs.Str.Parse.{AllDigits, digits_value_after}
use Rattle.std.proofs.lemmas.Str.{digit_value_digit}
use Rattle.std.proofs.lemmas.Str.Parse.{digit_from_value}
use Rattle.std.proofs.lemmas.Bool.Decides.{nat_tests}
use Rattle.std.proofs.lemmas.Slice.Eq.{bytes_eq-Decides}
use Rattle.pg_script.specs.Reading.{◌>>=◌}
use Rattle.pg_script.specs.Words.{number_of, digits_after, is_digit}
use Rattle.pg_script.specs.Lexing.{hex_value}
use Rattle.pg_script.specs.Grammar.{IsNumber, IsOrdinary}
use Rattle.pg_wire.proofs.Tests.{chosen, guarded}
use Rattle.std.proofs.lemmas.Option.{same_Some}
use Rattle.pg_script.proofs.Found.{bind_some}

pub none_some : {A : Type 0} (x : A) → None ≡ Some x → ⊥
none_some x e = cc

pub unless : {A : Type 0} (b : Bool) (o : Option A) (m : A) → cond b None o ≡ Some m → (b ≡ false) × (o ≡ Some m)
unless true o m e = absurd cc
unless false o m e = (refl, e)

pub bytes_eq-is : (a b : List ℕ) → bytes_eq a b ≡ true → a ≡ b
bytes_eq-is a b e = grind (arith, bytes_eq-Decides)

-- ---- numbers

is_digit-range : (b : ℕ) → is_digit b ≡ true → IsInRange 48 57 b
is_digit-range b e = (grind (arith, nat_tests), grind (arith, nat_tests))

is_digit-value : (b : ℕ) → is_digit b ≡ true → (digit_value b ≡ b - 48) × (digit_value b < 10)
is_digit-value b e =
    let r = is_digit-range b e in
    let v = digit_value_digit b r in
    (omega (arith, v, r.0, r.1), omega (arith, v, r.0, r.1))

pub is_digit-from : (b : ℕ) → digit_value b < 10 → is_digit b ≡ true
is_digit-from b h = let r = digit_from_value b h in grind (arith, nat_tests, r.0, r.1)

pub digits_take : (w : List ℕ) (n m : ℕ) → digits_after n w ≡ Some m → AllDigits 10 w × (digits_value_after 10 n w ≡ m)
digits_take [] n m e = (tt, same_Some n m e)
digits_take (b ∷ w) n m e =
    let g = guarded (is_digit b) (digits_after (n * 10 + (b - 48)) w) m e in
    let d = is_digit-value b g.0 in
    let t = digits_take w (n * 10 + (b - 48)) m g.1 in
    ((d.1, t.0), ap (λ (v : ℕ). digits_value_after 10 (n * 10 + v) w) d.0 ∙ t.1)

pub digits_again : (w : List ℕ) (n : ℕ) → AllDigits 10 w → digits_after n w ≡ Some (digits_value_after 10 n w)
digits_again [] n h = refl
digits_again (b ∷ w) n h =
    let is = is_digit-from b h.0 in
    let d = is_digit-value b is in
    rw is (digits_again w (n * 10 + (b - 48)) h.1 ∙ ap (λ (v : ℕ). Some (digits_value_after 10 (n * 10 + v) w)) (sym d.0))

abbrev limited : ℕ → Option ℕ
limited m = cond (nat_lt m (2 ^ 32)) (Some m) None

pub number_of-takes : (w : List ℕ) (n : ℕ) → number_of w ≡ Some n → IsNumber n w
number_of-takes [] n e = absurd cc
number_of-takes (b ∷ bs) n e =
    let s = unless (nat_lt 9 (length bs)) (digits_after 0 (b ∷ bs) >>= limited) n e in
    let d = bind_some (digits_after 0 (b ∷ bs)) limited n s.1 in
    let g = guarded (nat_lt d.0 (2 ^ 32)) (Some d.0) n d.2 in
    let t = digits_take (b ∷ bs) 0 d.0 d.1 in
    let short = s.0 in
    let small = g.0 in
    subst (λ (m : ℕ). IsNumber m (b ∷ bs)) (same_Some d.0 n g.1) ((omega arith, t.0), grind (arith, nat_tests, short), t.1, grind (arith, nat_tests, small))

pub number_of-again : (w : List ℕ) (n : ℕ) → IsNumber n w → number_of w ≡ Some n
number_of-again [] n h = let long = h.0.0 in absurd (omega (arith, long))
number_of-again (b ∷ bs) n h =
    let few = h.1 in
    let below = h.3 in
    let short : nat_lt 9 (length bs) ≡ false = grind (arith, nat_tests, few) in
    let digits : digits_after 0 (b ∷ bs) ≡ Some n = digits_again (b ∷ bs) 0 h.0.1 ∙ ap Some h.2 in
    let small : nat_lt n (2 ^ 32) ≡ true = grind (arith, nat_tests, below) in
    rw short (ap (λ (o : Option ℕ). o >>= limited) digits ∙ rw small refl)

-- ---- characters

pub ordinary_from : (c : ℕ) → nat_eq c 34 ≡ false → nat_eq c 92 ≡ false → (nat_le 32 c && nat_le c 126) ≡ true → IsOrdinary c
ordinary_from c h k l = (grind (arith, nat_tests), grind (arith, nat_tests), λ e. grind (arith, nat_tests, e), λ e. grind (arith, nat_tests, e))

pub ordinary_tests : (c : ℕ) → IsOrdinary c → (nat_eq c 34 ≡ false) × (nat_eq c 92 ≡ false) × ((nat_le 32 c && nat_le c 126) ≡ true)
ordinary_tests c h = (grind (arith, nat_tests, h.2), grind (arith, nat_tests, h.3), grind (arith, nat_tests, h.0, h.1))

-- a hexadecimal digit, by its value
hex_low : (h x : ℕ) → is_digit h ≡ true → h - 48 ≡ x → (x < 16) × (h ≡ digit_char x)
hex_low h x d e =
    let r = is_digit-range h d in
    let small : nat_lt x 10 ≡ true = grind (arith, nat_tests, r.0, r.1, e) in
    (omega (arith, r.1, e), rw small (omega (arith, r.0, e)))

hex_high : (h x : ℕ) → (nat_le 97 h && nat_le h 102) ≡ true → h - 87 ≡ x → (x < 16) × (h ≡ digit_char x)
hex_high h x d e =
    let r : IsInRange 97 102 h = (grind (arith, nat_tests), grind (arith, nat_tests)) in
    let large : nat_lt x 10 ≡ false = grind (arith, nat_tests, r.0, r.1, e) in
    (omega (arith, r.1, e), rw large (omega (arith, r.0, e)))

hex_value-takes : (h x : ℕ) → hex_value h ≡ Some x → (x < 16) × (h ≡ digit_char x)
hex_value-takes h x e = elim (chosen (is_digit h) _ _ (Some x) e) [
  | inl c ↦ hex_low h x c.0 (same_Some (h - 48) x c.1)
  | inr c ↦ (let g = guarded (nat_le 97 h && nat_le h 102) (Some (h - 87)) x c.1 in hex_high h x g.0 (same_Some (h - 87) x g.1))
]

hex_again_in : (x : ℕ) (low : Bool) → nat_lt x 10 ≡ low → x < 16 → hex_value (cond low (48 + x) (87 + x)) ≡ Some x
hex_again_in x true e lt =
    let d : is_digit (48 + x) ≡ true = grind (arith, nat_tests) in
    rw d (ap Some (omega arith))
hex_again_in x false e lt =
    let d : is_digit (87 + x) ≡ false = grind (arith, nat_tests) in
    let f : (nat_le 97 (87 + x) && nat_le (87 + x) 102) ≡ true = grind (arith, nat_tests) in
    rw (d, f) (ap Some (omega arith))

pub hex_value-again : (x : ℕ) → x < 16 → hex_value (digit_char x) ≡ Some x
hex_value-again x lt = hex_again_in x (nat_lt x 10) refl lt

halves : (x y : ℕ) → x < 16 → y < 16 → ((x * 16 + y) / 16 ≡ x) × ((x * 16 + y) % 16 ≡ y) × (x * 16 + y < 256)
halves x y h k = (omega (arith, h, k), omega (arith, h, k), omega (arith, h, k))

-- two digits are those of their byte
pub hex_pair-takes : (h l x y : ℕ) → hex_value h ≡ Some x → hex_value l ≡ Some y
    → (92 ∷ 120 ∷ h ∷ l ∷ [] ≡ 92 ∷ 120 ∷ digit_char ((x * 16 + y) / 16) ∷ digit_char ((x * 16 + y) % 16) ∷ []) × (x * 16 + y < 256)
hex_pair-takes h l x y e f =
    let a = hex_value-takes h x e in
    let b = hex_value-takes l y f in
    let p = halves x y a.0 b.0 in
    (rw (p.0, p.1, ← a.1, ← b.1) refl, p.2)

pub byte_halves : (c : ℕ) → c < 256 → (c / 16 < 16) × (c % 16 < 16) × (c / 16 * 16 + c % 16 ≡ c)
byte_halves c h = (omega (arith, h), omega (arith, h), omega (arith, h))
