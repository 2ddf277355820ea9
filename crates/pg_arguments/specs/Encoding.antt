-- What a value is as an argument.
use Rattle.std.specs.Prelude.{ℕ, ◌≡◌, nat_lt, if◌then◌else◌, Option, Some, None, length, take}
use Rattle.pg_wire.specs.declared.error.Error.{Error}
use Rattle.pg_wire.specs.declared.error.Error.TheVariants as errors
use Rattle.pg_arguments.specs.Encoded.{Encoded, joined, wire, FitsWire}
use Rattle.pg_arguments.specs.declared.encode.IsNull.{IsNull}
use Rattle.pg_arguments.specs.declared.encode.IsNull.TheVariants as nulls

-- a value has an encoding, is a null, or can't be an argument
pub data Encoding : Type 0 where
  Refused : Encoding
  Null : Encoding
  Image : Encoded → Encoding

-- the value as it stands behind its length: an encoding of more than 2147483647 bytes has no such place
abbrev pub value_of : Encoding → Option (Option Encoded)
value_of Refused = None
value_of Null = Some None
value_of (Image e) = if nat_lt 2147483647 (length e.bytes) then None else Some (Some e)

-- what was there stays, and more may stand behind it
abbrev pub Extends : Encoded → Encoded → Type 0
Extends old new = (take (length old.bytes) new.bytes ≡ old.bytes) × (take (length old.holes) new.holes ≡ old.holes)

-- an encoding is added whole; for a null nothing is added
abbrev pub Appends : Encoding → IsNull → Encoded → Encoded → Type 0
Appends (Image e) nulls.No old new = new ≡ joined old e
Appends Null nulls.Yes old new = new ≡ old
Appends _ _ old new = ⊥

-- only a value without an encoding is refused, but for want of memory
abbrev pub RefusesEncoding : Encoding → Error → Type 0
RefusesEncoding encoding errors.OutOfMemory = Unit {0}
RefusesEncoding encoding (errors.Encode index) = encoding ≡ Refused
RefusesEncoding encoding _ = ⊥

-- the value is added behind its length
abbrev pub AddsValue : Option (Option Encoded) → Encoded → Encoded → Type 0
AddsValue None old new = ⊥
AddsValue (Some v) old new = (new ≡ joined old (wire v)) × FitsWire v

abbrev pub RefusesValue : Option (Option Encoded) → Error → Type 0
RefusesValue value errors.OutOfMemory = Unit {0}
RefusesValue value (errors.Encode index) = value ≡ None
RefusesValue value _ = ⊥

-- the same, by the place of the argument
abbrev pub RefusesArgument : ℕ → Option (Option Encoded) → Error → Type 0
RefusesArgument place value errors.OutOfMemory = Unit {0}
RefusesArgument place value (errors.Encode index) = (index ≡ place) × (value ≡ None)
RefusesArgument place value _ = ⊥
