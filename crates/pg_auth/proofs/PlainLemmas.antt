-- Printable ASCII is ASCII.
use Rattle.std.proofs.Common.{◌≡◌, ℕ, ◌<◌, true, false, List, length, get_or, Some, None, arith}
use Rattle.std.specs.List.{All, position_or_len}
use Rattle.std.proofs.lemmas.Bool.Decides.{nat_tests}
use Rattle.std.proofs.lemmas.Bool.{ltb-false}
use Rattle.std.proofs.lemmas.List.Sums.{fails_before_first}
use Rattle.std.specs.Prelude.{nat_lt, cond}
use Rattle.pg_auth.specs.Nonce.{is_printable, ArePrintable}
use Rattle.pg_auth.specs.Scram.{IsPlain, first_outside, is_outside}

pub all_before : (n m : ℕ) (o : ℕ) → cond (nat_lt n m) (Some o) None ≡ None → nat_lt n m ≡ false
all_before n m o e = grind arith

inside : (b : ℕ) → is_outside b ≡ false → b < 128
inside b e = grind (arith, nat_tests)

pub plain_at : (text : List ℕ) (i : ℕ) → IsPlain text → i < length text → get_or text i 0 < 128
unfolding first_outside
plain_at text i plain lt =
    let past = ltb-false (position_or_len is_outside text) (length text) (all_before (position_or_len is_outside text) (length text) (position_or_len is_outside text) plain) in
    inside (get_or text i 0) (fails_before_first is_outside text i 0 (omega arith))

printable_below : (b : ℕ) → is_printable b ≡ true → b < 128
printable_below b e = grind (arith, nat_tests)

pub printable_ascii : (text : List ℕ) → ArePrintable text → All (λ b. b < 128) text
printable_ascii text printable k d lt = printable_below (get_or text k d) (printable k d lt)
