-- The nonce of a SCRAM exchange (RFC 5802, sections 5.1 and 7), and how one is made from random words.
use Rattle.std.specs.Prelude.{ℕ, zero, suc, ◌+◌, ◌%◌, ◌<◌, ◌≤◌, nat_lt, nat_le, Bool, ◌&&◌, ◌||◌, if◌then◌else◌, List, [], ◌∷◌, length, take, map}
use Rattle.std.specs.List.{AllPass}
use Rattle.rand_core.specs.Stream.{Stream, next_u32}

-- printable: %x21-2B / %x2D-7E, that is ASCII without a space and without a comma
abbrev pub is_printable : ℕ → Bool
is_printable b = (nat_le 0x21 b && nat_le b 0x2B) || (nat_le 0x2D b && nat_le b 0x7E)

abbrev pub ArePrintable : List ℕ → Type 0
ArePrintable bytes = AllPass is_printable bytes

-- a nonce that this library sends
pub record IsNonce (nonce : List ℕ) : Type 0 where
  pub some : 0 < length nonce
  pub short : length nonce ≤ 127
  pub printable : ArePrintable nonce

-- one of the 93 printable characters
unfoldable pub nonce_character : ℕ → ℕ
nonce_character word = if nat_lt (0x21 + word % 93) 0x2C then 0x21 + word % 93 else 0x22 + word % 93

-- the first word tells how many of the others stand for a character each, 64 to 127
unfoldable pub nonce_of : List ℕ → List ℕ
nonce_of [] = []
nonce_of (first ∷ words) = map nonce_character (take (64 + first % 64) words)

-- the words that a generator gives next, and what it has left
unfoldable pub drawn : ℕ → Stream → List ℕ
drawn zero s = []
drawn (suc n) s = (next_u32 s).0 ∷ drawn n (next_u32 s).1

unfoldable pub left_after : ℕ → Stream → Stream
left_after zero s = s
left_after (suc n) s = left_after n (next_u32 s).1
