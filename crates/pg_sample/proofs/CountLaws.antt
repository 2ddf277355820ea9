-- A number above the greatest one stays above it, whatever digits follow.
use Rattle.std.proofs.Common.{◌≡◌, ℕ, ◌+◌, ◌*◌, ◌-◌, ◌<◌, ◌∙◌, Bool, true, false, List, [], ◌∷◌, drop, Option, None, refl, sym, arith}
use Rattle.pg_script.specs.Reading.{◌>>=◌}
use Rattle.pg_script.specs.Words.{digits_after, is_digit}
use Rattle.pg_sample.specs.Counts.{if_allowed}

above : (n : ℕ) → 100000 < n → if_allowed n ≡ None
above n h = grind arith

by_test : (t : Bool) (n : ℕ) (b : ℕ) (bs : List ℕ) → is_digit b ≡ t → (digits_after (n * 10 + (b - 48)) bs >>= if_allowed) ≡ None → (digits_after n (b ∷ bs) >>= if_allowed) ≡ None
by_test true n b bs e rest = rw e rest
by_test false n b bs e rest = rw e refl

pub stays_above : (n : ℕ) (bs : List ℕ) → 100000 < n → (digits_after n bs >>= if_allowed) ≡ None
stays_above n [] h = above n h
stays_above n (b ∷ bs) h = by_test (is_digit b) n b bs refl (stays_above (n * 10 + (b - 48)) bs (omega (arith, h)))

-- behind a digit that makes the number too great, nothing is said
pub too_great : (n : ℕ) (items : List ℕ) (i d : ℕ) (said : Option ℕ)
    → drop i items ≡ d ∷ drop (i + 1) items → is_digit d ≡ true → 100000 < n * 10 + (d - 48)
    → (digits_after n (drop i items) >>= if_allowed) ≡ said → None ≡ said
too_great n items i d said c t h e = sym (stays_above (n * 10 + (d - 48)) (drop (i + 1) items) h) ∙ (rw (c, t) at e)
