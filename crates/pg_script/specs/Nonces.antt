-- The nonce that a script may say: that of a client of SCRAM (RFC 5802, sections 5.1 and 7).
use Rattle.std.specs.Prelude.{ℕ, ◌≤◌, nat_le, Bool, ◌&&◌, ◌||◌, if◌then◌else◌, List, length, Option, Some, None}
use Rattle.std.specs.List.{AllPass, list_all}

-- printable: %x21-2B / %x2D-7E, that is ASCII without a space and without a comma
abbrev pub is_printable : ℕ → Bool
is_printable b = (nat_le 0x21 b && nat_le b 0x2B) || (nat_le 0x2D b && nat_le b 0x7E)

pub record IsNonce (nonce : List ℕ) : Type 0 where
  pub long : 64 ≤ length nonce
  pub short : length nonce ≤ 127
  pub printable : AllPass is_printable nonce

-- the same, computed
abbrev pub is_nonce : List ℕ → Bool
is_nonce bytes = (nat_le 64 (length bytes) && nat_le (length bytes) 127) && list_all is_printable bytes

abbrev pub nonce_in : List ℕ → Option (List ℕ)
nonce_in bytes = if is_nonce bytes then Some bytes else None
