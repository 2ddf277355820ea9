-- Encoded values in which the OIDs of some types may still be open.
use Rattle.std.specs.Prelude.{ℕ, zero, suc, ◌+◌, ◌-◌, ◌^◌, ◌≤◌, List, [], ◌∷◌, ◌++◌, length, map, take, drop, remove, Option, Some, None}
use Rattle.pg_wire.specs.Bytes.{number32}
use Rattle.pg_arguments.specs.Types.{TypeParts}
use Rattle.pg_arguments.specs.declared.hole.Hole.{Hole}

-- bytes, the places among them where the OIDs of types will stand, and how many values stand there behind their lengths, not counting
-- those that are parts of others
pub record Encoded : Type 0 where
  pub bytes : List ℕ
  pub holes : List Hole
  pub values : ℕ

-- bytes with nothing open
abbrev pub plain : List ℕ → Encoded
plain bytes = record { bytes = bytes; holes = []; values = 0 }

-- the OID of a type that isn't known yet
abbrev pub open_oid : TypeParts → Encoded
open_oid of = record { bytes = 0 ∷ 0 ∷ 0 ∷ 0 ∷ []; holes = record { place = 0; of = of } ∷ []; values = 0 }

abbrev pub moved : ℕ → Hole → Hole
moved n h = record { place = n + h.place; of = h.of }

-- one behind the other
abbrev pub joined : Encoded → Encoded → Encoded
joined a b = record { bytes = a.bytes ++ b.bytes; holes = a.holes ++ map (moved (length a.bytes)) b.holes; values = a.values + b.values }

-- each place has four bytes of its own between these two, and they stand in order
abbrev pub AreBetween : ℕ → ℕ → List Hole → Type 0
AreBetween from size [] = from ≤ size
AreBetween from size (h ∷ hs) = (from ≤ h.place) × AreBetween (h.place + 4) size hs

abbrev pub AreInside : Encoded → Type 0
AreInside e = AreBetween 0 (length e.bytes) e.holes

-- the same, with so many values
abbrev pub counted : ℕ → Encoded → Encoded
counted n e = record { bytes = e.bytes; holes = e.holes; values = n }

-- so many bytes and open OIDs from the front, which are so many values
abbrev pub cut_off : ℕ → ℕ → ℕ → Encoded → Encoded
cut_off bytes holes values e = record { bytes = take bytes e.bytes; holes = take holes e.holes; values = values }

-- new bytes in the place of others
abbrev pub overwritten : ℕ → List ℕ → List ℕ → List ℕ
overwritten place bytes old = take place old ++ bytes ++ drop (place + length bytes) old

abbrev pub place_at : List Hole → ℕ → ℕ
place_at [] k = 0
place_at (h ∷ hs) zero = h.place
place_at (h ∷ hs) (suc k) = place_at hs k

-- the open OID number k, counted from 0, is known now
abbrev pub patched_with : ℕ → List ℕ → Encoded → Encoded
patched_with k bytes e = record { bytes = overwritten (place_at e.holes k) bytes e.bytes; holes = remove e.holes k; values = e.values }

abbrev pub patched : ℕ → ℕ → Encoded → Encoded
patched k oid e = patched_with k (number32 oid) e

-- ---- the values of Bind and the elements of arrays (PostgreSQL manual, "Message Formats", Bind)

-- a value as it stands there: its length and its encoding; the length -1 is a null
abbrev pub wire : Option Encoded → Encoded
wire None = counted 1 (plain (number32 (2 ^ 32 - 1)))
wire (Some e) = counted 1 (joined (plain (number32 (length e.bytes))) e)

abbrev pub wires : List (Option Encoded) → Encoded
wires [] = plain []
wires (v ∷ vs) = joined (wire v) (wires vs)

-- its length is a positive signed number of four bytes
abbrev pub FitsWire : Option Encoded → Type 0
FitsWire None = Unit {0}
FitsWire (Some e) = (length e.bytes ≤ 2147483647) × AreInside e
