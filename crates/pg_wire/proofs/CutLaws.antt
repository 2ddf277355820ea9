-- Cutting is unique, and goes on over further bytes.
use Rattle.std.proofs.Common.{◌≡◌, ℕ, ◌+◌, ◌<◌, ◌^◌, List, [], ◌∷◌, ◌++◌, length, take, drop, refl, sym, ap, ◌∙◌, subst, ap₂, append_assoc, arith, take_at, drop_at}
use Rattle.std.specs.List.{AllByRecursion}
use Rattle.std.specs.Int.{w32, from_be_bytes}
use Rattle.std.proofs.lemmas.Nat.{from_be_bytes-to_be_bytes_4}
use Rattle.std.proofs.lemmas.List.Concat.{flat_map-append}
use Rattle.pg_wire.specs.Bytes.{number32}
use Rattle.pg_wire.specs.Frame.{Frame, bytes_of, text_of, IsWhole}
use Rattle.pg_wire.specs.Cut.{Cuts}
use Rattle.pg_wire.proofs.Each.{each_join}

-- equal lists that begin with lists of one length begin with the same one
pub same_front : {A : Type 0} (xs ys a b : List A) → length xs ≡ length ys → xs ++ a ≡ ys ++ b → (xs ≡ ys) × (a ≡ b)
same_front xs ys a b len e = (
  sym (take_at xs a (length xs) refl) ∙ ap (take (length xs)) e ∙ take_at ys b (length xs) (sym len),
  sym (drop_at xs a (length xs) refl) ∙ ap (drop (length xs)) e ∙ drop_at ys b (length xs) (sym len),
)

number32_same : (m n : ℕ) → m < 2 ^ 32 → n < 2 ^ 32 → number32 m ≡ number32 n → m ≡ n
number32_same m n hm hn e = sym (from_be_bytes-to_be_bytes_4 m hm) ∙ ap (from_be_bytes w32) e ∙ from_be_bytes-to_be_bytes_4 n hn

abbrev made : ℕ → List ℕ → Frame
made tag body = record { tag = tag; body = body }

-- a frame is its tag and its body
pub same_message : (m n : Frame) → m.tag ≡ n.tag → m.body ≡ n.body → m ≡ n
same_message m n p q = ap₂ made p q

-- no frame begins another
pub frame_unique : (tags : List ℕ) (m n : Frame) (a b : List ℕ) → IsWhole tags m → IsWhole tags n → bytes_of m ++ a ≡ bytes_of n ++ b → (m ≡ n) × (a ≡ b)
frame_unique tags m n a b hm hn e =
    let tag : m.tag ≡ n.tag = cc in
    let size : number32 (length m.body + 4) ≡ number32 (length n.body + 4) = cc in
    let tails : m.body ++ a ≡ n.body ++ b = cc in
    let len = number32_same _ _ hm.fits hn.fits size in
    let both = same_front m.body n.body a b (omega (arith, len)) tails in
    (same_message m n tag both.0, both.1)

-- one cutting alone is right
pub cut_unique : (tags bytes : List ℕ) (fs gs : List Frame) (r s : List ℕ) → Cuts tags bytes fs r → Cuts tags bytes gs s → (fs ≡ gs) × (r ≡ s)
cut_unique tags bytes [] [] r s c d = (refl, sym c.text ∙ d.text)
cut_unique tags bytes [] (g ∷ gs) r s c d = absurd (c.over g (text_of gs ++ s) d.whole.0 (sym c.text ∙ d.text ∙ append_assoc (bytes_of g) (text_of gs) s))
cut_unique tags bytes (f ∷ fs) [] r s c d = absurd (d.over f (text_of fs ++ r) c.whole.0 (sym d.text ∙ c.text ∙ append_assoc (bytes_of f) (text_of fs) r))
cut_unique tags bytes (f ∷ fs) (g ∷ gs) r s c d =
    let e : bytes_of f ++ (text_of fs ++ r) ≡ bytes_of g ++ (text_of gs ++ s) = sym (append_assoc (bytes_of f) (text_of fs) r) ∙ sym c.text ∙ d.text ∙ append_assoc (bytes_of g) (text_of gs) s in
    let heads = frame_unique tags f g _ _ c.whole.0 d.whole.0 e in
    let further = cut_unique tags (text_of fs ++ r) fs gs r s (record { text = refl; whole = c.whole.1; over = c.over }) (record { text = heads.1; whole = d.whole.1; over = d.over }) in
    (cc (heads.0, further.0), further.1)

-- the frames of bytes that go on are those so far, and those of the rest as it goes on
pub cut_append : (tags bytes more : List ℕ) (fs gs : List Frame) (r s : List ℕ) → Cuts tags bytes fs r → Cuts tags (r ++ more) gs s → Cuts tags (bytes ++ more) (fs ++ gs) s
cut_append tags bytes more fs gs r s c d = record {
  text = ap (λ (t : List ℕ). t ++ more) c.text ∙ append_assoc (text_of fs) r more ∙ ap (λ (t : List ℕ). text_of fs ++ t) d.text ∙ sym (append_assoc (text_of fs) (text_of gs) s) ∙ ap (λ (t : List ℕ). t ++ s) (sym (flat_map-append bytes_of fs gs));
  whole = each_join (IsWhole tags) fs gs c.whole d.whole;
  over = d.over;
}

-- frames taken off the beginning of the bytes are the first of their frames, and what is held is cut into the others
pub cut_after_taken : (tags bytes held : List ℕ) (taken fs : List Frame) (r : List ℕ) → AllByRecursion (IsWhole tags) taken → bytes ≡ text_of taken ++ held → Cuts tags bytes fs r → (gs : List Frame) × (fs ≡ taken ++ gs) × Cuts tags held gs r
cut_after_taken tags bytes held [] fs r h e c = (fs, refl, subst (λ (b : List ℕ). Cuts tags b fs r) e c)
cut_after_taken tags bytes held (t ∷ ts) [] r h e c = absurd (c.over t (text_of ts ++ held) h.0 (sym c.text ∙ e ∙ append_assoc (bytes_of t) (text_of ts) held))
cut_after_taken tags bytes held (t ∷ ts) (f ∷ fs) r h e c =
    let heads = frame_unique tags t f _ _ h.0 c.whole.0 (sym (append_assoc (bytes_of t) (text_of ts) held) ∙ sym e ∙ c.text ∙ append_assoc (bytes_of f) (text_of fs) r) in
    let further = cut_after_taken tags (text_of ts ++ held) held ts fs r h.1 refl (record { text = heads.1; whole = c.whole.1; over = c.over }) in
    (further.0, cc (heads.0, further.1), further.2)
