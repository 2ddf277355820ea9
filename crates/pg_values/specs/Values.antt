-- Which bytes are a value, in the binary and in the text format (PostgreSQL manual, "Formats and Format Codes", and the input and output
-- forms in "Data Types").
use Rattle.std.specs.Prelude.{ℕ, ℤ, ◌≡◌, ◌<◌, ◌^◌, pos, Bool, true, false, List, [], ◌∷◌, Option, Some, None, Ok, FitsSigned, IsUtf8}
use Rattle.std.specs.Int.{Width, w8, to_be_bytes, cast_unsigned}
use Rattle.std.specs.Str.Parse.{IsNumeral, digits_value, signed_digits_value, without_leading_plus, without_leading_sign}
use Rattle.hex.specs.Hex.{decode_of}
use Rattle.pg_wire.specs.declared.error.Error.{Error}
use Rattle.pg_wire.specs.declared.error.Error.TheVariants as errors
use Rattle.pg_values.specs.declared.format.PgValueFormat.{PgValueFormat}
use Rattle.pg_values.specs.declared.format.PgValueFormat.TheVariants as formats
use Rattle.pg_arguments.specs.Images.{bool_bytes, oid_bytes}

-- what holds of some bytes by their format; a null is no value
abbrev pub ReadsBy : {X : Type 0} → (List ℕ → X → Type 0) → (List ℕ → X → Type 0) → PgValueFormat → Option (List ℕ) → X → Type 0
ReadsBy binary text formats.Binary (Some bytes) x = binary bytes x
ReadsBy binary text formats.Text (Some bytes) x = text bytes x
ReadsBy binary text formats.Binary None x = ⊥
ReadsBy binary text formats.Text None x = ⊥

-- None is the null, and any other value is one of the type itself
abbrev pub ReadsOptional : {X : Type 0} → (PgValueFormat → Option (List ℕ) → X → Type 0) → PgValueFormat → Option (List ℕ) → Option X → Type 0
ReadsOptional reads format None None = Unit {0}
ReadsOptional reads format None (Some x) = ⊥
ReadsOptional reads format (Some bytes) None = ⊥
ReadsOptional reads format (Some bytes) (Some x) = reads format (Some bytes) x

-- a reader answers the value that something holds of, and none only where it holds of none
abbrev pub Answers : {X : Type 0} → (X → Type 0) → Option X → Type 0
Answers P None = (x : _) → P x → ⊥
Answers P (Some x) = P x

-- only what is no value is refused, but for want of memory
abbrev pub IsNoValue : {X : Type 0} → (X → Type 0) → Error → Type 0
IsNoValue P errors.OutOfMemory = Unit {0}
IsNoValue P errors.Decode = (x : _) → P x → ⊥
IsNoValue P _ = ⊥

-- ---- bool

abbrev pub IsBool : List ℕ → Bool → Type 0
IsBool bytes b = bytes ≡ bool_bytes b

-- t or f
abbrev pub bool_text : Bool → List ℕ
bool_text true = 116 ∷ []
bool_text false = 102 ∷ []

abbrev pub IsBoolText : List ℕ → Bool → Type 0
IsBoolText bytes b = bytes ≡ bool_text b

-- ---- numbers

abbrev pub IsSigned : Width → List ℕ → ℤ → Type 0
IsSigned w bytes z = FitsSigned w z × (bytes ≡ to_be_bytes w (cast_unsigned w z))

-- one or more decimal digits, perhaps behind a sign, of a number that has room
abbrev pub IsDecimal : Width → List ℕ → ℤ → Type 0
IsDecimal w bytes z = IsNumeral 10 (without_leading_sign bytes) × FitsSigned w (signed_digits_value 10 bytes) × (z ≡ signed_digits_value 10 bytes)

-- "char": the byte itself, or nothing for a zero byte
abbrev pub IsCharText : List ℕ → ℤ → Type 0
IsCharText [] z = z ≡ pos 0
IsCharText bytes z = IsSigned w8 bytes z

abbrev pub IsOid : List ℕ → ℕ → Type 0
IsOid bytes n = (n < 2 ^ 32) × (bytes ≡ oid_bytes n)

abbrev pub IsOidText : List ℕ → ℕ → Type 0
IsOidText bytes n = IsNumeral 10 (without_leading_plus bytes) × (digits_value 10 (without_leading_plus bytes) < 2 ^ 32) × (n ≡ digits_value 10 (without_leading_plus bytes))

-- ---- texts and bytes

abbrev pub IsTextOf : List ℕ → List ℕ → Type 0
IsTextOf bytes t = IsUtf8 bytes × (t ≡ bytes)

abbrev pub AreBytesOf : List ℕ → List ℕ → Type 0
AreBytesOf bytes b = b ≡ bytes

-- \x, and two hexadecimal digits a byte, in either case (the hex format of "Binary Data Types")
abbrev pub AreHexOf : List ℕ → List ℕ → Type 0
AreHexOf bytes b = (digits : List ℕ) × (bytes ≡ 92 ∷ 120 ∷ digits) × (decode_of digits ≡ Ok b)
