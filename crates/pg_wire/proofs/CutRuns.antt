-- The cut as a program gives the cut.
use Rattle.std.proofs.Common.{◌≡◌, ℕ, zero, suc, ◌+◌, ◌-◌, ◌<◌, ◌^◌, ◌≤◌, true, ◌&&◌, nat_le, List, [], ◌∷◌, ◌++◌, length, take, drop, Option, Some, None, refl, sym, ap, ◌∙◌, subst, append_assoc, arith, take_at, drop_at, length-append, length-take, take-append-drop}
use Rattle.std.specs.Int.{w32, from_be_bytes}
use Rattle.std.proofs.lemmas.Nat.{from_be_bytes-to_be_bytes_4, be_bytes_4}
use Rattle.std.proofs.lemmas.Option.{cond_some}
use Rattle.std.proofs.lemmas.Bool.{leb-true, le-leb}
use Rattle.pg_wire.specs.Bytes.{number32, AreBytes}
use Rattle.pg_wire.specs.Frame.{Frame, bytes_of, text_of, is_known, IsWhole}
use Rattle.pg_wire.specs.Cut.{BeginsNoFrame, Cuts, header_length, has_room, first_frame, cut_within, cut}
use Rattle.pg_wire.proofs.Tests.{both_true}
use Rattle.pg_wire.proofs.HeaderLaws.{four_bytes}

-- a whole frame is found
first_frame_is : (tags : List ℕ) (m : Frame) (after : List ℕ) → IsWhole tags m → first_frame tags (bytes_of m ++ after) ≡ Some (m, after)
first_frame_is tags m after h =
    let size : from_be_bytes w32 (number32 (length m.body + 4)) ≡ length m.body + 4 = from_be_bytes-to_be_bytes_4 (length m.body + 4) h.fits in
    let four : nat_le 4 (length m.body + 4) ≡ true = le-leb _ _ (omega arith) in
    let room : nat_le (length m.body + 4) (length (m.body ++ after) + 4) ≡ true = le-leb _ _ (omega (arith, length-append m.body after)) in
    let known : is_known tags m.tag ≡ true = h.known in
    let less : length m.body + 4 - 4 ≡ length m.body = omega arith in
    rw (known, size, four, room, less, take_at m.body after (length m.body) refl, drop_at m.body after (length m.body) refl) refl

-- what is found is a whole frame
first_frame_takes : (tags bytes : List ℕ) (m : Frame) (after : List ℕ) → AreBytes bytes → first_frame tags bytes ≡ Some (m, after) → IsWhole tags m × (bytes ≡ bytes_of m ++ after)
first_frame_takes tags [] m after fits e = absurd cc
first_frame_takes tags (t ∷ []) m after fits e = absurd cc
first_frame_takes tags (t ∷ a ∷ []) m after fits e = absurd cc
first_frame_takes tags (t ∷ a ∷ b ∷ []) m after fits e = absurd cc
first_frame_takes tags (t ∷ a ∷ b ∷ c ∷ []) m after fits e = absurd cc
first_frame_takes tags (t ∷ a ∷ b ∷ c ∷ d ∷ bytes) m after fits e =
    let n = header_length a b c d in
    let found : Frame × List ℕ = (record { tag = t; body = take (n - 4) bytes }, drop (n - 4) bytes) in
    let g = cond_some (is_known tags t && has_room n bytes) found (m, after) e in
    let tests = both_true (is_known tags t) (has_room n bytes) g.0 in
    let room = both_true (nat_le 4 n) (nat_le n (length bytes + 4)) tests.1 in
    let low : 4 ≤ n = leb-true _ _ room.0 in
    let high : n ≤ length bytes + 4 = leb-true _ _ room.1 in
    let size : length (take (n - 4) bytes) + 4 ≡ n = omega (arith, length-take (n - 4) bytes) in
    let below : n < 2 ^ 32 = omega (arith, fits.1.0, fits.1.1.0, fits.1.1.1.0, fits.1.1.1.1.0) in
    let header : number32 n ≡ a ∷ b ∷ c ∷ d ∷ [] = be_bytes_4 (a ∷ b ∷ c ∷ d ∷ []) n refl (four_bytes a b c d fits.1.0 fits.1.1.0 fits.1.1.1.0 fits.1.1.1.1.0) refl in
    let text : t ∷ a ∷ b ∷ c ∷ d ∷ bytes ≡ bytes_of found.0 ++ found.1 =
    ap (λ (w : List ℕ). t ∷ w ++ bytes) (sym header)
    ∙ ap (λ (k : ℕ). t ∷ number32 k ++ bytes) (sym size)
    ∙ ap (λ (w : List ℕ). t ∷ number32 (length (take (n - 4) bytes) + 4) ++ w) (sym (take-append-drop (n - 4) bytes)) in
    subst (λ (x : Frame × List ℕ). IsWhole tags x.0 × (t ∷ a ∷ b ∷ c ∷ d ∷ bytes ≡ bytes_of x.0 ++ x.1)) g.1
    (record { known = tests.0; fits = omega arith }, text)

-- nothing is found only where no frame is there
first_frame_none : (tags bytes : List ℕ) → first_frame tags bytes ≡ None → BeginsNoFrame tags bytes
first_frame_none tags bytes e m after h is =
    let some = first_frame_is tags m after h in
    let none : first_frame tags (bytes_of m ++ after) ≡ None = ap (first_frame tags) (sym is) ∙ e in
    cc

rest_fits : (xs ys : List ℕ) → AreBytes (xs ++ ys) → AreBytes ys
rest_fits [] ys h = h
rest_fits (x ∷ xs) ys h = rest_fits xs ys h.1

-- one step of the program
step_none : (n : ℕ) (tags bytes : List ℕ) → first_frame tags bytes ≡ None → cut_within (suc n) tags bytes ≡ ([], bytes)
step_none n tags bytes e = rw (e, cut_within) refl

step_some : (n : ℕ) (tags bytes : List ℕ) (m : Frame) (after : List ℕ) → first_frame tags bytes ≡ Some (m, after) → cut_within (suc n) tags bytes ≡ (m ∷ (cut_within n tags after).0, (cut_within n tags after).1)
step_some n tags bytes m after e = rw (e, cut_within) refl

-- the pair is a cut of the bytes
abbrev IsCut : List ℕ → List ℕ → List Frame × List ℕ → Type 0
IsCut tags bytes x = Cuts tags bytes x.0 x.1

-- the first frame, and then a cut of what follows
front_cut : (tags bytes : List ℕ) (m : Frame) (after : List ℕ) (x : List Frame × List ℕ) → IsWhole tags m → bytes ≡ bytes_of m ++ after → IsCut tags after x → IsCut tags bytes (m ∷ x.0, x.1)
front_cut tags bytes m after x h e c = record {
  text = e ∙ ap (λ (w : List ℕ). bytes_of m ++ w) c.text ∙ sym (append_assoc (bytes_of m) (text_of x.0) x.1);
  whole = (h, c.whole);
  over = c.over;
}

cut_step : (n : ℕ) (tags bytes : List ℕ) → AreBytes bytes → length bytes ≤ suc n → ((b : List ℕ) → AreBytes b → length b ≤ n → IsCut tags b (cut_within n tags b)) → (o : Option (Frame × List ℕ)) → first_frame tags bytes ≡ o → IsCut tags bytes (cut_within (suc n) tags bytes)
cut_step n tags bytes fits le further None e = subst (IsCut tags bytes) (sym (step_none n tags bytes e)) (record { text = refl; whole = tt; over = first_frame_none tags bytes e })
cut_step n tags bytes fits le further (Some found) e =
    let t = first_frame_takes tags bytes found.0 found.1 fits e in
    let shorter : length found.1 ≤ n = omega (arith, le, ap length t.1, length-append (bytes_of found.0) found.1) in
    subst (IsCut tags bytes) (sym (step_some n tags bytes found.0 found.1 e))
    (front_cut tags bytes found.0 found.1 (cut_within n tags found.1) t.0 t.1
    (further found.1 (rest_fits (bytes_of found.0) found.1 (subst AreBytes t.1 fits)) shorter))

-- what the program gives, within its bound, is the cut
cut_within_is : (n : ℕ) (tags bytes : List ℕ) → AreBytes bytes → length bytes ≤ n → IsCut tags bytes (cut_within n tags bytes)
cut_within_is zero tags [] fits le = record { text = refl; whole = tt; over = λ m after h is. cc }
cut_within_is zero tags (b ∷ bs) fits le = absurd (omega arith)
cut_within_is (suc n) tags bytes fits le = cut_step n tags bytes fits le (cut_within_is n tags) (first_frame tags bytes) refl

-- the program gives the cut
pub cut_is : (tags bytes : List ℕ) → AreBytes bytes → Cuts tags bytes (cut tags bytes).0 (cut tags bytes).1
cut_is tags bytes fits = cut_within_is (length bytes) tags bytes fits (omega arith)
