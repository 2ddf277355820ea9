-- What the bytes of a header, each at its place, say of the frame at the beginning.
use Rattle.std.proofs.Common.{◌≡◌, ℕ, zero, suc, ◌+◌, ◌-◌, ◌<◌, ◌^◌, List, [], ◌∷◌, ◌++◌, length, get_or, take, drop, refl, sym, ap, ◌∙◌, subst, arith, length-append, length-take, length-drop, take-append-drop, take_at, drop_at, take_all, true, false, ⊎_elim}
use Rattle.std.specs.Int.{w32, from_be_bytes}
use Rattle.std.proofs.lemmas.Nat.{from_be_bytes-to_be_bytes_4, be_bytes_4}
use Rattle.pg_wire.specs.Bytes.{number32}
use Rattle.pg_wire.specs.Frame.{Frame, bytes_of, backend_tags, is_known, IsWhole}
use Rattle.pg_wire.specs.Cut.{BeginsNoFrame, length_at_front}
use Rattle.pg_wire.specs.declared.front.Cut.{Cut}
use Rattle.pg_wire.specs.declared.front.Cut.TheVariants.{Whole, Need, Short, Unknown}
use Rattle.pg_wire.specs.Header.{IsCut, IsFront}

abbrev pub framed : ℕ → List ℕ → Frame
framed tag body = record { tag = tag; body = body }

pub four_bytes : (a b c d : ℕ) → a < 256 → b < 256 → c < 256 → d < 256 → (i : ℕ) → get_or (a ∷ b ∷ c ∷ d ∷ []) i 0 < 256
four_bytes a b c d ha hb hc hd zero = ha
four_bytes a b c d ha hb hc hd (suc zero) = hb
four_bytes a b c d ha hb hc hd (suc (suc zero)) = hc
four_bytes a b c d ha hb hc hd (suc (suc (suc zero))) = hd
four_bytes a b c d ha hb hc hd (suc (suc (suc (suc i)))) = omega arith

-- the body is what follows the header, up to the length
pub whole_front : (bytes : List ℕ) (tag total : ℕ) → ((i : ℕ) → get_or bytes i 0 < 256) → IsCut bytes (Whole tag total)
    → IsWhole backend_tags (framed tag (take (total - 5) (drop 5 bytes))) × (bytes ≡ bytes_of (framed tag (take (total - 5) (drop 5 bytes))) ++ drop (total - 5) (drop 5 bytes))
whole_front [] tag total fits h = absurd (omega (arith, h.0))
whole_front (t ∷ []) tag total fits h = absurd (omega (arith, h.0))
whole_front (t ∷ a ∷ []) tag total fits h = absurd (omega (arith, h.0))
whole_front (t ∷ a ∷ b ∷ []) tag total fits h = absurd (omega (arith, h.0))
whole_front (t ∷ a ∷ b ∷ c ∷ []) tag total fits h = absurd (omega (arith, h.0))
whole_front (t ∷ a ∷ b ∷ c ∷ d ∷ bytes) tag total fits h =
    let n = from_be_bytes w32 (a ∷ b ∷ c ∷ d ∷ []) in
    let size : length (take (total - 5) bytes) + 4 ≡ n = omega (arith, h.3, h.4, h.5, length-take (total - 5) bytes) in
    let below : n < 2 ^ 32 = omega (arith, fits 1, fits 2, fits 3, fits 4) in
    let header : number32 n ≡ a ∷ b ∷ c ∷ d ∷ [] = be_bytes_4 (a ∷ b ∷ c ∷ d ∷ []) n refl (four_bytes a b c d (fits 1) (fits 2) (fits 3) (fits 4)) refl in
    let is : t ≡ tag = h.1 in (
      record { known = h.2; fits = omega arith },
      ap (λ (u : ℕ). u ∷ a ∷ b ∷ c ∷ d ∷ bytes) is
          ∙ ap (λ (w : List ℕ). tag ∷ w ++ bytes) (sym header)
          ∙ ap (λ (k : ℕ). tag ∷ number32 k ++ bytes) (sym size)
          ∙ ap (λ (w : List ℕ). tag ∷ number32 (length (take (total - 5) bytes) + 4) ++ w) (sym (take-append-drop (total - 5) bytes)),
    )

pub whole_is_front : (bytes : List ℕ) (tag total : ℕ) → ((i : ℕ) → get_or bytes i 0 < 256) → IsCut bytes (Whole tag total) → IsFront bytes (Whole tag total)
whole_is_front bytes tag total fits h =
    let w = whole_front bytes tag total fits h in
    (take (total - 5) (drop 5 bytes), drop (total - 5) (drop 5 bytes), w.0, w.1, omega (arith, h.3, h.4, h.5, length-take (total - 5) (drop 5 bytes), length-drop 5 bytes))

-- the header of a frame at the beginning
front_size : (m : Frame) (after : List ℕ) → IsWhole backend_tags m → length_at_front (bytes_of m ++ after) ≡ length m.body + 4
front_size m after h = from_be_bytes-to_be_bytes_4 (length m.body + 4) h.fits

abbrev pub IsNotWhole : Cut → Type 0
IsNotWhole (Whole tag total) = ⊥
IsNotWhole _ = Unit {0}

no_front : (m : Frame) (after : List ℕ) (r : Cut) → IsNotWhole r → IsWhole backend_tags m → IsCut (bytes_of m ++ after) r → ⊥
no_front m after (Whole tag total) n h c = absurd n
no_front m after (Need total) n h c =
    let size = front_size m after h in
    let long = length-append m.body after in
    ⊎_elim (λ (five : total ≡ 5). absurd (omega (arith, c.0))) (λ p. absurd (omega (arith, c.0, p.3, size, long))) c.1
no_front m after (Short tag size) n h c = let is = front_size m after h in omega (arith, c.3, c.4)
no_front m after (Unknown tag) n h c =
    let known : is_known backend_tags m.tag ≡ true = h.known in
    let is : m.tag ≡ tag = c.1 in
    let unknown : is_known backend_tags tag ≡ false = c.2 in
    let same = ap (is_known backend_tags) is in
    absurd cc

pub none_front : (bytes : List ℕ) (r : Cut) → IsNotWhole r → IsCut bytes r → BeginsNoFrame backend_tags bytes
none_front bytes r n c m after h is = no_front m after r n h (subst (λ (b : List ℕ). IsCut b r) is c)

-- the parts of a frame at the beginning
pub body_at : (tag : ℕ) (body after : List ℕ) (total : ℕ) → total ≡ length body + 5 → take (total - 5) (drop 5 (bytes_of (framed tag body) ++ after)) ≡ body
body_at tag body after total e = take_at body after (total - 5) (omega arith)

pub rest_at : (tag : ℕ) (body after : List ℕ) (total : ℕ) → total ≡ length body + 5 → drop total (bytes_of (framed tag body) ++ after) ≡ after
rest_at tag body after total e = drop_at (bytes_of (framed tag body)) after total (omega (arith, length-append (number32 (length body + 4)) body))

-- what was copied off the beginning is the frame, and what is left is what follows it
pub taken_is : (bytes : List ℕ) (tag total : ℕ) (items rest : List ℕ) (made : Frame) → IsFront bytes (Whole tag total) → made ≡ framed tag items
    → items ≡ take (total - 5) (drop 5 bytes) → rest ≡ take (length bytes - total) (drop total bytes) → IsWhole backend_tags made × (bytes ≡ bytes_of made ++ rest)
taken_is bytes tag total items rest made f made_is items_is rest_is =
    let body_is : items ≡ f.0 = items_is ∙ ap (λ (w : List ℕ). take (total - 5) (drop 5 w)) f.3 ∙ body_at tag f.0 f.1 total f.4 in
    let left : rest ≡ f.1 = rest_is ∙ take_all (length bytes - total) (drop total bytes) (omega (arith, length-drop total bytes)) ∙ ap (drop total) f.3 ∙ rest_at tag f.0 f.1 total f.4 in
    let whole_is : framed tag f.0 ≡ made = ap (framed tag) (sym body_is) ∙ sym made_is in
    (subst (IsWhole backend_tags) whole_is f.2, f.3 ∙ ap (λ (m : Frame). bytes_of m ++ f.1) whole_is ∙ ap (λ (w : List ℕ). bytes_of made ++ w) (sym left))
