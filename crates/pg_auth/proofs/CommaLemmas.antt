-- Where a text's first comma stands.
use Rattle.std.proofs.Common.{◌≡◌, ℕ, ◌+◌, ◌<◌, ◌≤◌, ◌≢◌, true, false, nat_eq, List, [], ◌++◌, length, take, drop, get_or, add-one, refl, arith}
use Rattle.std.proofs.lemmas.List.{take_more, append_assoc, append-nil, take_all, drop_all}
use Rattle.std.proofs.Math.Seq.{drop-cons}
use Rattle.std.proofs.lemmas.Bool.Decides.{nat_tests}
use Rattle.pg_auth.specs.Reading.{before_comma, behind_comma}

is_comma : (b : ℕ) → b ≡ 44 → nat_eq b 44 ≡ true
is_comma b e = rw e refl

no_comma : (b : ℕ) → b ≢ 44 → nat_eq b 44 ≡ false
no_comma b e = grind (arith, nat_tests)

pub before_at_comma : (bytes : List ℕ) (i : ℕ) → i < length bytes → get_or bytes i 0 ≡ 44 → before_comma (drop i bytes) ≡ []
unfolding before_comma
before_at_comma bytes i lt e = rw (drop-cons bytes i 0 lt, is_comma (get_or bytes i 0) e) refl

pub behind_at_comma : (bytes : List ℕ) (i : ℕ) → i < length bytes → get_or bytes i 0 ≡ 44 → behind_comma (drop i bytes) ≡ drop (i + 1) bytes
unfolding behind_comma
behind_at_comma bytes i lt e = rw (drop-cons bytes i 0 lt, is_comma (get_or bytes i 0) e, add-one) refl

pub before_at_other : (bytes : List ℕ) (i : ℕ) → i < length bytes → get_or bytes i 0 ≢ 44 → take (i + 1) bytes ++ before_comma (drop (i + 1) bytes) ≡ take i bytes ++ before_comma (drop i bytes)
unfolding before_comma
before_at_other bytes i lt e = rw (take_more bytes i 0 lt, append_assoc, add-one, drop-cons bytes i 0 lt, no_comma (get_or bytes i 0) e) refl

pub behind_at_other : (bytes : List ℕ) (i : ℕ) → i < length bytes → get_or bytes i 0 ≢ 44 → behind_comma (drop (i + 1) bytes) ≡ behind_comma (drop i bytes)
unfolding behind_comma
behind_at_other bytes i lt e = rw (add-one, drop-cons bytes i 0 lt, no_comma (get_or bytes i 0) e) refl

pub before_at_end : (bytes : List ℕ) (i : ℕ) → length bytes ≤ i → take i bytes ++ before_comma (drop i bytes) ≡ bytes
unfolding before_comma
before_at_end bytes i le = rw (drop_all i bytes le, take_all i bytes le) (append-nil bytes)

pub behind_at_end : (bytes : List ℕ) (i : ℕ) → length bytes ≤ i → behind_comma (drop i bytes) ≡ []
unfolding behind_comma
behind_at_end bytes i le = rw (drop_all i bytes le) refl
