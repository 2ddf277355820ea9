-- The binary encodings of values (PostgreSQL manual, "Binary Format Codes", and the send functions of the types).
use Rattle.std.specs.Prelude.{ℕ, ℤ, Bool, true, false, List, [], ◌∷◌, Option, Some, None}
use Rattle.std.specs.Int.{w8, w16, w32, w64, to_be_bytes, cast_unsigned}
use Rattle.pg_arguments.specs.Encoded.{Encoded, plain}
use Rattle.pg_arguments.specs.Encoding.{Encoding, Null}

-- one byte, 1 where it is true
abbrev pub bool_bytes : Bool → List ℕ
bool_bytes true = 1 ∷ []
bool_bytes false = 0 ∷ []

-- numbers in two's complement, the most significant byte first; "char" is a signed byte
abbrev pub signed8_bytes : ℤ → List ℕ
signed8_bytes z = to_be_bytes w8 (cast_unsigned w8 z)

abbrev pub signed16_bytes : ℤ → List ℕ
signed16_bytes z = to_be_bytes w16 (cast_unsigned w16 z)

abbrev pub signed32_bytes : ℤ → List ℕ
signed32_bytes z = to_be_bytes w32 (cast_unsigned w32 z)

abbrev pub signed64_bytes : ℤ → List ℕ
signed64_bytes z = to_be_bytes w64 (cast_unsigned w64 z)

abbrev pub oid_bytes : ℕ → List ℕ
oid_bytes n = to_be_bytes w32 n

abbrev pub bool_image : Bool → Encoded
bool_image b = plain (bool_bytes b)

abbrev pub signed8_image : ℤ → Encoded
signed8_image z = plain (signed8_bytes z)

abbrev pub signed16_image : ℤ → Encoded
signed16_image z = plain (signed16_bytes z)

abbrev pub signed32_image : ℤ → Encoded
signed32_image z = plain (signed32_bytes z)

abbrev pub signed64_image : ℤ → Encoded
signed64_image z = plain (signed64_bytes z)

abbrev pub oid_image : ℕ → Encoded
oid_image n = plain (oid_bytes n)

-- None is a null
abbrev pub optional : {T : Type 0} → (T → Encoding) → Option T → Encoding
optional encoding None = Null
optional encoding (Some x) = encoding x
