-- What the arguments of a call are.
use Rattle.std.specs.Prelude.{ℕ, ◌≡◌, ◌+◌, List, [], ◌∷◌, ◌++◌, length, Option, Some, None}
use Rattle.std.specs.List.{AllByRecursion}
use Rattle.pg_wire.specs.Bytes.{number32}
use Rattle.pg_arguments.specs.Types.{TypeParts}
use Rattle.pg_arguments.specs.Encoded.{Encoded, plain, open_oid, joined, wire, wires, FitsWire}

pub record Arguments : Type 0 where
  pub types : List TypeParts
  pub encoded : Encoded

-- the arguments are the encodings of these values, in order; None is a null
abbrev pub AreMadeOf : List TypeParts → Encoded → List (Option Encoded) → Type 0
AreMadeOf types encoded values = (length values ≡ length types) × AllByRecursion FitsWire values × (encoded ≡ wires values)

abbrev pub HasValues : Arguments → List (Option Encoded) → Type 0
HasValues a values = AreMadeOf a.types a.encoded values

-- one more argument, of this type and with this value
abbrev pub AddsArgument : TypeParts → Option (Option Encoded) → Arguments → Arguments → Type 0
AddsArgument of None old new = ⊥
AddsArgument of (Some v) old new = (new.types ≡ old.types ++ of ∷ []) × (new.encoded ≡ joined old.encoded (wire v)) × FitsWire v

-- so the values are those that were there, and this one
abbrev pub AddsToValues : Option (Option Encoded) → Arguments → Arguments → Type 0
AddsToValues None old new = ⊥
AddsToValues (Some v) old new = (values : List (Option Encoded)) → HasValues old values → HasValues new (values ++ v ∷ [])

-- a value in which an OID is known in place of one that was open
abbrev pub open_in : Encoded → TypeParts → Encoded → Option Encoded
open_in front of back = Some (joined (joined front (open_oid of)) back)

abbrev pub known_in : Encoded → ℕ → Encoded → Option Encoded
known_in front oid back = Some (joined (joined front (plain (number32 oid))) back)

-- whatever value the open OID of this number stood in, it is there as if the OID had been known at first
abbrev pub AsIfKnown : ℕ → ℕ → Arguments → Arguments → Type 0
AsIfKnown hole oid old new =
    (before after : List (Option Encoded)) (front back : Encoded) (of : TypeParts) → HasValues old (before ++ open_in front of back ∷ after)
    → length (wires before).holes + length front.holes ≡ hole → HasValues new (before ++ known_in front oid back ∷ after)
