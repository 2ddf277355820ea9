-- Whole frames: the frames that stand complete at the beginning of some bytes, and what is left (PostgreSQL manual, "Messaging Overview").
use Rattle.std.specs.Prelude.{◌≡◌, ◌≢◌, ℕ, zero, suc, ◌+◌, ◌-◌, ◌<◌, ◌≤◌, Bool, ◌&&◌, List, [], ◌∷◌, ◌++◌, length, take, drop, Option, Some, None, IsTrue, IsFalse, nat_le, slice_index, if◌then◌else◌}
use Rattle.std.specs.Int.{w32, from_be_bytes}
use Rattle.std.specs.List.{AllByRecursion}
use Rattle.pg_wire.specs.Frame.{Frame, bytes_of, text_of, is_known, IsWhole}

-- no whole frame stands at the beginning: too few bytes have come, the tag is unknown, or the length is below four
abbrev pub BeginsNoFrame : List ℕ → List ℕ → Type 0
BeginsNoFrame tags rest = (frame : Frame) (after : List ℕ) → IsWhole tags frame → rest ≢ bytes_of frame ++ after

-- the bytes are these whole frames, and behind them a rest that begins with none
pub record Cuts (tags bytes : List ℕ) (frames : List Frame) (rest : List ℕ) : Type 0 where
  pub text : bytes ≡ text_of frames ++ rest
  pub whole : AllByRecursion (IsWhole tags) frames
  pub over : BeginsNoFrame tags rest

-- the length that four bytes tell, and the one in the header at the beginning of some bytes
abbrev pub header_length : ℕ → ℕ → ℕ → ℕ → ℕ
header_length a b c d = from_be_bytes w32 (a ∷ b ∷ c ∷ d ∷ [])

abbrev pub length_at_front : List ℕ → ℕ
length_at_front bytes = header_length (slice_index bytes 1) (slice_index bytes 2) (slice_index bytes 3) (slice_index bytes 4)

-- the bytes begin with a header of an unknown tag; of a known tag and a length below four, which can't count itself
abbrev pub BeginsUnknown : List ℕ → List ℕ → ℕ → Type 0
BeginsUnknown tags bytes tag = (5 ≤ length bytes) × (slice_index bytes 0 ≡ tag) × IsFalse (is_known tags tag)

abbrev pub BeginsShort : List ℕ → List ℕ → ℕ → ℕ → Type 0
BeginsShort tags bytes tag size = (5 ≤ length bytes) × (slice_index bytes 0 ≡ tag) × IsTrue (is_known tags tag) × (length_at_front bytes ≡ size) × (size < 4)

-- the length counts itself, and as many bytes have come behind the header
abbrev pub has_room : ℕ → List ℕ → Bool
has_room size bytes = nat_le 4 size && nat_le size (length bytes + 4)

-- the whole frame at the beginning, and what follows it
abbrev pub first_frame : List ℕ → List ℕ → Option (Frame × List ℕ)
first_frame tags (t ∷ a ∷ b ∷ c ∷ d ∷ bytes) =
    let size = header_length a b c d in
    if is_known tags t && has_room size bytes then Some (record { tag = t; body = take (size - 4) bytes }, drop (size - 4) bytes) else None
first_frame tags _ = None

-- the frames one after the other, at most so many
abbrev pub cut_within : ℕ → List ℕ → List ℕ → List Frame × List ℕ
cut_within zero tags bytes = ([], bytes)
cut_within (suc n) tags bytes =
    elim (first_frame tags bytes) [
      | None ↦ ([], bytes)
      | Some found ↦ let further = cut_within n tags found.1 in (found.0 ∷ further.0, further.1)
    ]

-- all whole frames, and the rest; no frame has fewer bytes than one, so the number of bytes is bound enough
abbrev pub cut : List ℕ → List ℕ → List Frame × List ℕ
cut tags bytes = cut_within (length bytes) tags bytes
