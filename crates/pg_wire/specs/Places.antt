-- Internal: the places that a row keeps of its values.
use Rattle.std.specs.Prelude.{ℕ, ◌≤◌, List, take}
use Rattle.pg_wire.specs.declared.message.places.Kept.{Kept}
use Rattle.pg_wire.specs.declared.message.places.Kept.TheVariants as kept

abbrev pub places_of : Kept → List ℕ
places_of (kept.Few places count) = take count places
places_of (kept.Many places) = places.items

abbrev pub AreKept : Kept → Type 0
AreKept (kept.Few places count) = count ≤ 8
AreKept (kept.Many places) = Unit {0}
