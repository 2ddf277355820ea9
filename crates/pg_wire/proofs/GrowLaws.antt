-- What the beginning of some bytes shows stays when more bytes come.
use Rattle.std.proofs.Common.{◌≡◌, ℕ, ◌+◌, ◌<◌, ◌≤◌, true, false, List, [], ◌∷◌, ◌++◌, length, get_or, sym, ap, ◌∙◌, subst, append_assoc, arith, length-append}
use Rattle.std.proofs.lemmas.List.{get_or_append_left}
use Rattle.std.proofs.lemmas.Nat.{from_be_bytes-to_be_bytes_4}
use Rattle.pg_wire.specs.Bytes.{AreBytes}
use Rattle.pg_wire.specs.Frame.{text_of, is_known}
use Rattle.pg_wire.specs.Cut.{Cuts, cut, BeginsNoFrame, BeginsUnknown, BeginsShort, length_at_front}
use Rattle.pg_wire.proofs.CutLaws.{cut_unique, cut_append}
use Rattle.pg_wire.proofs.CutRuns.{cut_is}

front_bytes : (xs ys : List ℕ) → AreBytes (xs ++ ys) → AreBytes xs
front_bytes [] ys h = tt
front_bytes (x ∷ xs) ys h = (h.0, front_bytes xs ys h.1)

back_bytes : (xs ys : List ℕ) → AreBytes (xs ++ ys) → AreBytes ys
back_bytes [] ys h = h
back_bytes (x ∷ xs) ys h = back_bytes xs ys h.1

join_bytes : (xs ys : List ℕ) → AreBytes xs → AreBytes ys → AreBytes (xs ++ ys)
join_bytes [] ys h k = k
join_bytes (x ∷ xs) ys h k = (h.0, join_bytes xs ys h.1 k)

-- the frames of more bytes go on from those so far
pub cut_grows : (tags bytes more : List ℕ) → AreBytes (bytes ++ more) → (cut tags (bytes ++ more)).0 ≡ (cut tags bytes).0 ++ (cut tags ((cut tags bytes).1 ++ more)).0
cut_grows tags bytes more h =
    let first = cut_is tags bytes (front_bytes bytes more h) in
    let rest = back_bytes (text_of (cut tags bytes).0) (cut tags bytes).1 (subst AreBytes first.text (front_bytes bytes more h)) in
    let second = cut_is tags ((cut tags bytes).1 ++ more) (join_bytes (cut tags bytes).1 more rest (back_bytes bytes more h)) in
    let both = cut_append tags bytes more _ _ _ _ first second in
    (cut_unique tags (bytes ++ more) _ _ _ _ (cut_is tags (bytes ++ more) h) both).0

-- ---- a header that begins no frame begins none when more bytes follow it

pub unknown_no_frame : (tags rest : List ℕ) (tag : ℕ) → BeginsUnknown tags rest tag → BeginsNoFrame tags rest
unknown_no_frame tags rest tag h m after w e =
    let known : is_known tags m.tag ≡ true = w.known in
    let first : get_or rest 0 0 ≡ m.tag = ap (λ (b : List ℕ). get_or b 0 0) e in
    let tag_is : get_or rest 0 0 ≡ tag = h.1 in
    let unknown : is_known tags tag ≡ false = h.2 in
    let same : is_known tags m.tag ≡ is_known tags tag = ap (is_known tags) (sym first ∙ tag_is) in
    absurd cc

pub short_no_frame : (tags rest : List ℕ) (tag size : ℕ) → BeginsShort tags rest tag size → BeginsNoFrame tags rest
short_no_frame tags rest tag size h m after w e =
    let size_is : length_at_front rest ≡ length m.body + 4 = ap length_at_front e ∙ from_be_bytes-to_be_bytes_4 (length m.body + 4) w.fits in
    absurd (omega (arith, h.3, h.4, size_is))

same_at : (xs ys : List ℕ) (i : ℕ) → i < length xs → get_or (xs ++ ys) i 0 ≡ get_or xs i 0
same_at xs ys i h = get_or_append_left xs ys 0 i h

pub unknown_grows : (tags rest more : List ℕ) (tag : ℕ) → BeginsUnknown tags rest tag → BeginsUnknown tags (rest ++ more) tag
unknown_grows tags rest more tag h = (omega (arith, h.0, length-append rest more), same_at rest more 0 (omega (arith, h.0)) ∙ h.1, h.2)

size_grows : (rest more : List ℕ) → 5 ≤ length rest → length_at_front (rest ++ more) ≡ length_at_front rest
size_grows rest more h =
    let a = same_at rest more 1 (omega arith) in
    let b = same_at rest more 2 (omega arith) in
    let c = same_at rest more 3 (omega arith) in
    let d = same_at rest more 4 (omega arith) in
    cc

pub short_grows : (tags rest more : List ℕ) (tag size : ℕ) → BeginsShort tags rest tag size → BeginsShort tags (rest ++ more) tag size
short_grows tags rest more tag size h = (omega (arith, h.0, length-append rest more), same_at rest more 0 (omega (arith, h.0)) ∙ h.1, h.2, size_grows rest more h.0 ∙ h.3, h.4)

-- behind frames and such a header nothing more is cut
ended_cut : (tags bytes more : List ℕ) → AreBytes (bytes ++ more) → BeginsNoFrame tags ((cut tags bytes).1 ++ more) → ((cut tags (bytes ++ more)).0 ≡ (cut tags bytes).0) × ((cut tags (bytes ++ more)).1 ≡ (cut tags bytes).1 ++ more)
ended_cut tags bytes more h none =
    let first = cut_is tags bytes (front_bytes bytes more h) in
    let longer : Cuts tags (bytes ++ more) (cut tags bytes).0 ((cut tags bytes).1 ++ more) = record {
      text = ap (λ (b : List ℕ). b ++ more) first.text ∙ append_assoc (text_of (cut tags bytes).0) (cut tags bytes).1 more;
      whole = first.whole;
      over = none;
    } in
    cut_unique tags (bytes ++ more) _ _ _ _ (cut_is tags (bytes ++ more) h) longer

pub unknown_ends : (tags bytes more : List ℕ) (tag : ℕ) → AreBytes (bytes ++ more) → BeginsUnknown tags (cut tags bytes).1 tag → ((cut tags (bytes ++ more)).0 ≡ (cut tags bytes).0) × ((cut tags (bytes ++ more)).1 ≡ (cut tags bytes).1 ++ more)
unknown_ends tags bytes more tag h u = ended_cut tags bytes more h (unknown_no_frame tags _ tag (unknown_grows tags (cut tags bytes).1 more tag u))

pub short_ends : (tags bytes more : List ℕ) (tag size : ℕ) → AreBytes (bytes ++ more) → BeginsShort tags (cut tags bytes).1 tag size → ((cut tags (bytes ++ more)).0 ≡ (cut tags bytes).0) × ((cut tags (bytes ++ more)).1 ≡ (cut tags bytes).1 ++ more)
short_ends tags bytes more tag size h u = ended_cut tags bytes more h (short_no_frame tags _ tag size (short_grows tags (cut tags bytes).1 more tag size u))
