-- What the function `cut` answers, in terms of the header and of the whole frame at the beginning (PostgreSQL manual, "Messaging Overview").
use Rattle.std.specs.Prelude.{◌≡◌, ℕ, ◌+◌, ◌≤◌, ◌<◌, ◌⊎◌, List, ◌++◌, length, IsTrue, slice_index}
use Rattle.pg_wire.specs.Frame.{bytes_of, backend_tags, is_known, IsWhole}
use Rattle.pg_wire.specs.Cut.{BeginsNoFrame, BeginsShort, BeginsUnknown, length_at_front}
use Rattle.pg_wire.specs.declared.front.Cut.{Cut}
use Rattle.pg_wire.specs.declared.front.Cut.TheVariants.{Whole, Need, Short, Unknown}

-- what each answer says of the header: by the bytes at its places
abbrev pub IsCut : List ℕ → Cut → Type 0
IsCut bytes (Whole tag total) = (5 ≤ length bytes) × (slice_index bytes 0 ≡ tag) × IsTrue (is_known backend_tags tag) × (4 ≤ length_at_front bytes) × (total ≡ length_at_front bytes + 1) × (total ≤ length bytes)
IsCut bytes (Need total) = (length bytes < total) × ((total ≡ 5) ⊎ ((5 ≤ length bytes) × IsTrue (is_known backend_tags (slice_index bytes 0)) × (4 ≤ length_at_front bytes) × (total ≡ length_at_front bytes + 1)))
IsCut bytes (Short tag size) = BeginsShort backend_tags bytes tag size
IsCut bytes (Unknown tag) = BeginsUnknown backend_tags bytes tag

-- the whole frame at the beginning for `Whole`, and that there is none for every other answer
abbrev pub IsFront : List ℕ → Cut → Type 0
IsFront bytes (Whole tag total) = (body : List ℕ) × (after : List ℕ) × IsWhole backend_tags (record { tag = tag; body = body }) × (bytes ≡ bytes_of (record { tag = tag; body = body }) ++ after) × (total ≡ length body + 5)
IsFront bytes _ = BeginsNoFrame backend_tags bytes
