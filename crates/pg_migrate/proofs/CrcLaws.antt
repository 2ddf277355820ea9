-- Eight bits at once: the register behind a byte by a table of what the byte alone makes.
use Rattle.std.proofs.Common.{◌≡◌, ℕ, zero, suc, ◌+◌, ◌*◌, ◌/◌, ◌%◌, ◌^◌, ◌<◌, Bool, true, false, ◌&&◌, nat_eq, List, [], ◌∷◌, length, get_or, bit_and, bit_xor, mod-lt, pow_pos, refl, sym, ap, ◌∙◌, arith}
use Rattle.std.specs.List.{fold}
use Rattle.std.proofs.lemmas.Bool.{eqb-true}
use Rattle.std.proofs.lemmas.Nat.{and_mask, shr_split, xor_comm, xor_mod, xor_shr}
use lib.Bits.{xor_assoc, xor_shifted, xor_zero_r, shifted_even, shifted_half}
use Rattle.pg_wire.proofs.Tests.{both_true}
use Rattle.pg_migrate.specs.declared.checksum.TheConstants.{TABLE}
use Rattle.pg_migrate.specs.Crc32.{polynomial, times_x, behind_bit, bits, behind_byte}

-- ---- sums

pairwise : (a b c d : ℕ) → bit_xor (bit_xor a b) (bit_xor c d) ≡ bit_xor (bit_xor a c) (bit_xor b d)
pairwise a b c d =
    xor_assoc a b (bit_xor c d)
    ∙ ap (λ (x : ℕ). bit_xor a x) (sym (xor_assoc b c d) ∙ ap (λ (x : ℕ). bit_xor x d) (xor_comm b c) ∙ xor_assoc c b d)
    ∙ sym (xor_assoc a c (bit_xor b d))

-- what comes back for the sum of two coefficients
back : (a c : ℕ) → a < 2 → c < 2 → bit_xor a c * polynomial ≡ bit_xor (a * polynomial) (c * polynomial)
back zero zero p q = refl
back zero (suc zero) p q = refl
back (suc zero) zero p q = refl
back (suc zero) (suc zero) p q = refl
back zero (suc (suc c)) p q = absurd (omega arith)
back (suc zero) (suc (suc c)) p q = absurd (omega arith)
back (suc (suc a)) c p q = absurd (omega arith)

times_x_sum : (a c : ℕ) → times_x (bit_xor a c) ≡ bit_xor (times_x a) (times_x c)
unfolding times_x
times_x_sum a c =
    let high : bit_xor a c / 2 ≡ bit_xor (a / 2) (c / 2) = xor_shr a c 1 in
    let low : bit_xor a c % 2 ≡ bit_xor (a % 2) (c % 2) = xor_mod a c 1 in
    (λ i. bit_xor (high i) (low i * polynomial))
    ∙ ap (λ (x : ℕ). bit_xor (bit_xor (a / 2) (c / 2)) x) (back (a % 2) (c % 2) (omega arith) (omega arith))
    ∙ pairwise (a / 2) (c / 2) (a % 2 * polynomial) (c % 2 * polynomial)

-- a polynomial without the coefficient of x^31 is only moved
times_x_moves : (h k : ℕ) → times_x (h * 2 ^ suc k) ≡ h * 2 ^ k
unfolding times_x
times_x_moves h k = (λ i. bit_xor (shifted_half h k i) (shifted_even h k i * polynomial)) ∙ xor_zero_r (h * 2 ^ k)

-- ---- several steps

abbrev times : ℕ → ℕ → ℕ
times zero r = r
times (suc n) r = times n (times_x r)

times_sum : (n a c : ℕ) → times n (bit_xor a c) ≡ bit_xor (times n a) (times n c)
times_sum zero a c = refl
times_sum (suc n) a c = ap (λ (r : ℕ). times n r) (times_x_sum a c) ∙ times_sum n (times_x a) (times_x c)

times_moves : (n h : ℕ) → times n (h * 2 ^ n) ≡ h
times_moves zero h = omega arith
times_moves (suc n) h = ap (λ (r : ℕ). times n r) (times_x_moves h n) ∙ times_moves n h

-- a number is its high bits and its low ones
of_parts : (n v : ℕ) → v ≡ bit_xor (v / 2 ^ n * 2 ^ n) (v % 2 ^ n)
of_parts n v = sym (xor_shifted (v / 2 ^ n) n (v % 2 ^ n) (mod-lt v (pow_pos n)) ∙ shr_split v n)

steps_by_parts : (n v : ℕ) → times n v ≡ bit_xor (v / 2 ^ n) (times n (v % 2 ^ n))
steps_by_parts n v =
    ap (λ (r : ℕ). times n r) (of_parts n v)
    ∙ times_sum n (v / 2 ^ n * 2 ^ n) (v % 2 ^ n)
    ∙ ap (λ (x : ℕ). bit_xor x (times n (v % 2 ^ n))) (times_moves n (v / 2 ^ n))

-- ---- bits that are added one after another may be added at once

one_bit : (r b : ℕ) → times_x (bit_xor r b) ≡ bit_xor (behind_bit r (b % 2)) (b / 2)
one_bit r b =
    let split : b ≡ bit_xor (b % 2) (b / 2 * 2) = of_parts 1 b ∙ xor_comm (b / 2 * 2) (b % 2) in
    let moved : times_x (b / 2 * 2) ≡ b / 2 = times_x_moves (b / 2) 0 ∙ (let e : b / 2 * 1 ≡ b / 2 = omega arith in e) in
    ap (λ (x : ℕ). times_x (bit_xor r x)) split
    ∙ ap times_x (sym (xor_assoc r (b % 2) (b / 2 * 2)))
    ∙ times_x_sum (bit_xor r (b % 2)) (b / 2 * 2)
    ∙ ap (λ (x : ℕ). bit_xor (times_x (bit_xor r (b % 2))) x) moved

serial : (n r b : ℕ) → b < 2 ^ n → fold behind_bit r (bits n b) ≡ times n (bit_xor r b)
serial zero r b h = let none : b ≡ 0 = omega arith in sym (ap (λ (x : ℕ). bit_xor r x) none ∙ xor_zero_r r)
serial (suc n) r b h =
    let half : b / 2 < 2 ^ n = omega arith in
    serial n (behind_bit r (b % 2)) (b / 2) half ∙ ap (λ (x : ℕ). times n x) (sym (one_bit r b))

-- ---- the table

abbrev agrees : ℕ → List ℕ → Bool
agrees k [] = true
agrees k (x ∷ xs) = nat_eq x (times 8 k) && agrees (k + 1) xs

at_each : (k : ℕ) (xs : List ℕ) → agrees k xs ≡ true → (i : ℕ) → i < length xs → get_or xs i 0 ≡ times 8 (k + i)
at_each k [] e i h = absurd (omega arith)
at_each k (x ∷ xs) e zero h =
    let here : k ≡ k + 0 = omega arith in
    eqb-true x (times 8 k) (both_true (nat_eq x (times 8 k)) (agrees (k + 1) xs) e).0 ∙ ap (λ (j : ℕ). times 8 j) here
at_each k (x ∷ xs) e (suc i) h =
    let there : k + 1 + i ≡ k + suc i = omega arith in
    at_each (k + 1) xs (both_true (nat_eq x (times 8 k)) (agrees (k + 1) xs) e).1 i (omega arith) ∙ ap (λ (j : ℕ). times 8 j) there

table_agrees : agrees 0 TABLE ≡ true
unfolding times_x
table_agrees = refl

table_at : (i : ℕ) → i < 256 → get_or TABLE i 0 ≡ times 8 i
table_at i h = let same : 0 + i ≡ i = omega arith in at_each 0 TABLE table_agrees i h ∙ ap (λ (j : ℕ). times 8 j) same

-- the register behind a byte, by the table
pub by_table : (r b : ℕ) → b < 256 → bit_xor (r / 256) (get_or TABLE (bit_and (bit_xor r b) 255) 0) ≡ behind_byte r b
unfolding behind_byte
by_table r b h =
    let low : bit_and (bit_xor r b) 255 ≡ bit_xor r b % 256 = and_mask (bit_xor r b) 8 in
    let none : b / 256 ≡ 0 = omega arith in
    let high : bit_xor r b / 256 ≡ r / 256 = xor_shr r b 8 ∙ ap (λ (x : ℕ). bit_xor (r / 256) x) none ∙ xor_zero_r (r / 256) in
    let found : get_or TABLE (bit_and (bit_xor r b) 255) 0 ≡ times 8 (bit_xor r b % 256) = ap (λ (j : ℕ). get_or TABLE j 0) low ∙ table_at (bit_xor r b % 256) (omega arith) in
    sym (serial 8 r b h ∙ steps_by_parts 8 (bit_xor r b) ∙ (λ i. bit_xor (high i) (sym found i)))
