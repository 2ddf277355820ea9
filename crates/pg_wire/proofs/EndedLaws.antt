-- A text up to its zero byte, found by the place of that byte.
use Rattle.std.proofs.Common.{◌≡◌, ℕ, zero, suc, ◌+◌, ◌<◌, ◌≤◌, nat_eq, List, [], ◌∷◌, length, take, drop, get_or, Some, None, refl, arith}
use Rattle.pg_wire.specs.Bytes.{HasNoNul}
use Rattle.pg_wire.specs.Reading.{ended_at, text_at}
use Rattle.std.specs.Str.{IsUtf8, is_utf8}
use Rattle.std.proofs.lemmas.Str.{IsUtf8-from_is_utf8, is_utf8-from_IsUtf8}
use Rattle.pg_wire.proofs.Tests.{neither_true, not_true}

found_at : (bytes : List ℕ) (i : ℕ) → HasNoNul (take i bytes) → i < length bytes → get_or bytes i 0 ≡ 0 → ended_at bytes ≡ Some (take i bytes, drop (suc i) bytes)
unfolding ended_at
found_at [] i h lt z = absurd (omega (arith, lt))
found_at (zero ∷ bs) zero h lt z = refl
found_at (suc b ∷ bs) zero h lt z = absurd (omega (arith, z))
found_at (zero ∷ bs) (suc i) h lt z = absurd cc
found_at (suc b ∷ bs) (suc i) h lt z = rw (found_at bs i (neither_true (nat_eq 0 (suc b)) _ h).1 (omega (arith, lt)) z) refl

pub ended_found : (bytes : List ℕ) (i : ℕ) → HasNoNul (take i bytes) → i < length bytes → get_or bytes i 0 ≡ 0 → ended_at bytes ≡ Some (take i bytes, drop (i + 1) bytes)
ended_found bytes i h lt z = let next : i + 1 ≡ suc i = omega arith in rw next (found_at bytes i h lt z)

pub ended_done : (bytes : List ℕ) (i : ℕ) → HasNoNul (take i bytes) → length bytes ≤ i → ended_at bytes ≡ None
unfolding ended_at
ended_done [] i h le = refl
ended_done (b ∷ bs) zero h le = absurd (omega (arith, le))
ended_done (zero ∷ bs) (suc i) h le = absurd cc
ended_done (suc b ∷ bs) (suc i) h le = rw (ended_done bs i (neither_true (nat_eq 0 (suc b)) _ h).1 (omega (arith, le))) refl

pub text_found : (bytes text rest : List ℕ) → ended_at bytes ≡ Some (text, rest) → IsUtf8 text → text_at bytes ≡ Some (text, rest)
unfolding text_at
text_found bytes text rest e utf8 = rw (e, is_utf8-from_IsUtf8 text utf8) refl

pub text_refused : (bytes text rest : List ℕ) → ended_at bytes ≡ Some (text, rest) → (IsUtf8 text → ⊥) → text_at bytes ≡ None
unfolding text_at
text_refused bytes text rest e other = rw (e, not_true (is_utf8 text) (λ is. other (IsUtf8-from_is_utf8 text is))) refl
