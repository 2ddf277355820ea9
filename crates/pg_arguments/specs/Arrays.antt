-- One-dimensional arrays as arguments (PostgreSQL manual, "Arrays"; in binary the send function array_send).
use Rattle.std.specs.Prelude.{ℕ, ◌≡◌, nat_lt, if◌then◌else◌, List, [], ◌∷◌, ◌++◌, length, Option, Some, None}
use Rattle.pg_wire.specs.Bytes.{number32}
use Rattle.pg_wire.specs.declared.error.Error.{Error}
use Rattle.pg_wire.specs.declared.error.Error.TheVariants as errors
use Rattle.pg_arguments.specs.Types.{TypeParts, oid_of}
use Rattle.pg_arguments.specs.Encoded.{Encoded, plain, open_oid, joined, wires}
use Rattle.pg_arguments.specs.Encoding.{Encoding, Refused, Image, value_of}

-- the OID of a type, or the place for it
abbrev pub oid_place : Option ℕ → TypeParts → Encoded
oid_place (Some oid) of = plain (number32 oid)
oid_place None of = open_oid of

-- one dimension, no flags, and the type of the elements
abbrev pub array_front : TypeParts → Encoded
array_front of = joined (plain (number32 1 ++ number32 0)) (oid_place (oid_of of) of)

-- then their number, and 1 as the index of the first
abbrev pub array_head : TypeParts → ℕ → Encoded
array_head of n = joined (array_front of) (plain (number32 n ++ number32 1))

-- the elements as they stand behind the head, where each has a place there
abbrev pub more_elements : Option (Option Encoded) → Option (List (Option Encoded)) → Option (List (Option Encoded))
more_elements None rest = None
more_elements (Some v) None = None
more_elements (Some v) (Some vs) = Some (v ∷ vs)

abbrev pub elements : {X : Type 0} → (X → Encoding) → List X → Option (List (Option Encoded))
elements encoding [] = Some []
elements encoding (x ∷ xs) = more_elements (value_of (encoding x)) (elements encoding xs)

-- an array has an encoding where each element has one, and where their number is a positive signed number of four bytes
abbrev pub array_encoding : TypeParts → Option (List (Option Encoded)) → Encoding
array_encoding of None = Refused
array_encoding of (Some vs) = if nat_lt 2147483647 (length vs) then Refused else Image (joined (array_head of (length vs)) (wires vs))

abbrev pub AddsElements : Option (List (Option Encoded)) → Encoded → Encoded → Type 0
AddsElements None old new = ⊥
AddsElements (Some vs) old new = new ≡ joined old (wires vs)

abbrev pub RefusesElements : Option (List (Option Encoded)) → Error → Type 0
RefusesElements values errors.OutOfMemory = Unit {0}
RefusesElements values (errors.Encode index) = values ≡ None
RefusesElements values _ = ⊥
