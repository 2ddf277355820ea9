-- A byte's two digits, by a table of the sixteen and by their values.
use Rattle.std.proofs.Common.{◌≡◌, ℕ, zero, suc, ◌/◌, ◌%◌, ◌<◌, ◌==◌, Bool, true, false, ◌&&◌, inl, inr, List, [], ◌∷◌, length, slice_index, refl, arith}
use Rattle.std.proofs.lemmas.Bool.{and_parts, cases_lt, eqb-true}
use Rattle.std.specs.Char.{digit_char}
use Rattle.hex.specs.Hex.{IsBytes, encode_lower, encode_with, lower_digits}
use Rattle.pg_report.specs.Bytes.{hex, hex_or_dash}

-- the test of the first n digits, which computes
abbrev agree : ℕ → Bool
agree zero = true
agree (suc n) = (slice_index lower_digits n == digit_char n) && agree n

agree_at : (n k : ℕ) → agree n ≡ true → k < n → slice_index lower_digits k ≡ digit_char k
agree_at zero k h lt = absurd (omega arith)
agree_at (suc n) k h lt =
    let parts = and_parts (slice_index lower_digits n == digit_char n) (agree n) h in
    elim (cases_lt k n) [
      | inl below ↦ agree_at n k parts.1 below
      | inr top ↦
          let e : k ≡ n = omega arith in
          rw e (eqb-true (slice_index lower_digits n) (digit_char n) parts.0)
    ]

digit_is : (k : ℕ) → k < 16 → slice_index lower_digits k ≡ digit_char k
digit_is k lt = agree_at 16 k refl lt

encoded_is_hex : (bytes : List ℕ) → IsBytes bytes → encode_lower bytes ≡ hex bytes
unfolding encode_with
encoded_is_hex [] fits = refl
encoded_is_hex (b ∷ rest) fits =
    let first : b < 256 = fits 0 in
    rw (digit_is (b / 16) (omega (arith, first)), digit_is (b % 16) (omega arith), encoded_is_hex rest (λ i. fits (suc i))) refl

pub encoded_or_dash : (bytes : List ℕ) → IsBytes bytes → (length bytes == 0) ≡ false → encode_lower bytes ≡ hex_or_dash bytes
unfolding hex_or_dash
encoded_or_dash [] fits e = absurd cc
encoded_or_dash (b ∷ rest) fits e = encoded_is_hex (b ∷ rest) fits
