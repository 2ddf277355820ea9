-- Numbers, texts and values as they stand in a message (PostgreSQL manual, "Message Data Types").
use Rattle.std.specs.Prelude.{ℕ, ◌<◌, ◌-◌, ◌^◌, ℤ, List, [], ◌∷◌, ◌++◌, length, Option, Some, None, IsFalse, nat_eq}
use Rattle.std.specs.Int.{w16, w32, to_be_bytes, cast_unsigned}
use Rattle.std.specs.List.{AllByRecursion, list_any}

-- Int16 and Int32: two and four bytes, the most significant first
abbrev pub number16 : ℕ → List ℕ
number16 n = to_be_bytes w16 n

abbrev pub number32 : ℕ → List ℕ
number32 n = to_be_bytes w32 n

-- the same for signed numbers, in two's complement
abbrev pub signed16 : ℤ → List ℕ
signed16 z = number16 (cast_unsigned w16 z)

abbrev pub signed32 : ℤ → List ℕ
signed32 z = number32 (cast_unsigned w32 z)

-- String: a text, and a zero byte behind it
abbrev pub ended : List ℕ → List ℕ
ended text = text ++ 0 ∷ []

-- a text without a zero byte: only such a text can be read back from a String
abbrev pub HasNoNul : List ℕ → Type 0
HasNoNul text = IsFalse (list_any (nat_eq 0) text)

abbrev pub AreBytes : List ℕ → Type 0
AreBytes bytes = AllByRecursion (λ b. b < 256) bytes

-- a parameter of Bind or a column of DataRow: its length, then its bytes; the length -1 is a null ("Message Formats", Bind and DataRow)
abbrev pub value : Option (List ℕ) → List ℕ
value None = number32 (2 ^ 32 - 1)
value (Some bytes) = number32 (length bytes) ++ bytes
