-- Numerals are text.
use Rattle.std.proofs.Common.{◌≡◌, ℕ, zero, suc, ◌<◌, Bool, true, false, cond, eqb, List, [], ◌∷◌, drop, refl, arith, eqb-true}
use Rattle.std.specs.Str.{IsAscii, IsUtf8}
use Rattle.std.specs.Str.Parse.{IsNumeral, AllDigits, without_leading_sign, without_leading_plus}
use Rattle.std.proofs.lemmas.Fmt.{IsAscii-from_digits}
use Rattle.std.proofs.lemmas.Str.{IsUtf8-from_ascii}

behind : (b : ℕ) (bs : List ℕ) → b < 128 → IsAscii bs → IsAscii (b ∷ bs)
behind b bs lt h zero = lt
behind b bs lt h (suc i) = h i

plus_digits : (p : Bool) (b : ℕ) (bs : List ℕ) → (p ≡ true → b < 128) → AllDigits 10 (drop (cond p 1 0) (b ∷ bs)) → IsAscii (b ∷ bs)
plus_digits true b bs low h = behind b bs (low refl) (IsAscii-from_digits bs h)
plus_digits false b bs low h = IsAscii-from_digits (b ∷ bs) h

minus_digits : (m p : Bool) (b : ℕ) (bs : List ℕ) → (m ≡ true → b < 128) → (p ≡ true → b < 128) → AllDigits 10 (cond m bs (drop (cond p 1 0) (b ∷ bs))) → IsAscii (b ∷ bs)
minus_digits true p b bs low lower h = behind b bs (low refl) (IsAscii-from_digits bs h)
minus_digits false p b bs low lower h = plus_digits p b bs lower h

is_low : (b c : ℕ) → c < 128 → eqb b c ≡ true → b < 128
is_low b c lt e = omega (arith, lt, eqb-true b c e)

nothing_ascii : IsAscii []
nothing_ascii i = omega arith

pub signed_numeral : (bytes : List ℕ) → IsNumeral 10 (without_leading_sign bytes) → IsUtf8 bytes
signed_numeral [] h = IsUtf8-from_ascii [] nothing_ascii
signed_numeral (b ∷ bs) h = IsUtf8-from_ascii (b ∷ bs) (minus_digits (eqb b 45) (eqb b 43) b bs (is_low b 45 (omega arith)) (is_low b 43 (omega arith)) h.1)

pub plus_numeral : (bytes : List ℕ) → IsNumeral 10 (without_leading_plus bytes) → IsUtf8 bytes
plus_numeral [] h = IsUtf8-from_ascii [] nothing_ascii
plus_numeral (b ∷ bs) h = IsUtf8-from_ascii (b ∷ bs) (plus_digits (eqb b 43) b bs (is_low b 43 (omega arith)) h.1)
