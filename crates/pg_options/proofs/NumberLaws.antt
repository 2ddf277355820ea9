-- What `parse` reads at an unsigned type is what `number_below` says.
use Rattle.std.proofs.Common.{◌≡◌, ℕ, ◌<◌, ◌^◌, ◌&&◌, Bool, true, false, nat_lt, List, [], ◌∷◌, length, Some, None, Result, Ok, Err, refl, arith, if◌then◌else◌}
use Rattle.std.specs.List.{list_all}
use Rattle.std.specs.Int.{IsInRange}
use Rattle.std.specs.Char.{is_ascii_digit, digit_value}
use Rattle.std.specs.Result.{result_ok}
use Rattle.std.specs.Str.Parse.{AllDigits, IsNumeral, digits_value, without_leading_plus, ParsesUnsigned}
use Rattle.std.proofs.lemmas.Bool.{ltb-true, lt-ltb}
use Rattle.std.proofs.lemmas.Str.{digit_value_digit}
use Rattle.std.proofs.lemmas.Str.Parse.{digit_from_value}
use Rattle.pg_options.specs.Numbers.{number_below}
use Rattle.pg_wire.proofs.Tests.{both_true}

digit_passes : (d : ℕ) → IsInRange 48 57 d → is_ascii_digit d ≡ true
digit_passes d h = grind arith

digit_holds : (d : ℕ) → is_ascii_digit d ≡ true → digit_value d < 10
digit_holds d h = let r : IsInRange 48 57 d = grind arith in let e = digit_value_digit d r in omega (arith, e, r.0, r.1)

-- the test of the definition holds of digits, and only of them
digits_pass : (ds : List ℕ) → AllDigits 10 ds → list_all is_ascii_digit ds ≡ true
digits_pass [] h = refl
digits_pass (d ∷ ds) h = rw (digit_passes d (digit_from_value d h.0), digits_pass ds h.1) refl

digits_hold : (ds : List ℕ) → list_all is_ascii_digit ds ≡ true → AllDigits 10 ds
digits_hold [] h = tt
digits_hold (d ∷ ds) h = let p = both_true _ _ h in (digit_holds d p.0, digits_hold ds p.1)

-- the test of `number_below`
abbrev test : ℕ → List ℕ → Bool
test limit ds = nat_lt 0 (length ds) && list_all is_ascii_digit ds && nat_lt (digits_value 10 ds) limit

test_passes : (limit : ℕ) (ds : List ℕ) → IsNumeral 10 ds → digits_value 10 ds < limit → test limit ds ≡ true
test_passes limit ds h l = rw (lt-ltb 0 (length ds) h.0, digits_pass ds h.1, lt-ltb (digits_value 10 ds) limit l) refl

test_holds : (limit : ℕ) (ds : List ℕ) → test limit ds ≡ true → IsNumeral 10 ds × (digits_value 10 ds < limit)
test_holds limit ds h =
    let p = both_true _ _ h in
    let q = both_true _ _ p.0 in
    ((ltb-true _ _ q.0, digits_hold ds q.1), ltb-true _ _ p.1)

no_number : (b : Bool) (n : ℕ) → (b ≡ true → ⊥) → None ≡ (if b then Some n else None)
no_number true n h = absurd (h refl)
no_number false n h = refl

-- what `parse` reads is what the definition gives
pub parse_reads : {E : Type 0} (k : ℕ) (text : List ℕ) (r : Result ℕ E) → ParsesUnsigned k 10 text r
    → result_ok r ≡ number_below (2 ^ k) text
unfolding number_below
parse_reads k text (Ok n) h =
    rw (test_passes (2 ^ k) (without_leading_plus text) h.0.0 h.0.1, h.1) refl
parse_reads k text (Err e) h =
    no_number (test (2 ^ k) (without_leading_plus text)) _ (λ passed. h (test_holds _ _ passed))
