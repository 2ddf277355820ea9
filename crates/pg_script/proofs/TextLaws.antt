-- Bytes that are no UTF-8.
use Rattle.std.proofs.Common.{ℕ, ◌≡◌, List, false}
use Rattle.std.specs.Str.{is_utf8, IsUtf8}
use Rattle.std.proofs.lemmas.Str.{IsUtf8-from_is_utf8}
use Rattle.pg_wire.proofs.Tests.{not_true}

pub is_utf8-not : (s : List ℕ) → (IsUtf8 s → ⊥) → is_utf8 s ≡ false
is_utf8-not s h = not_true (is_utf8 s) (λ e. h (IsUtf8-from_is_utf8 s e))
