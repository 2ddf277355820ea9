-- Doubling is by characters in code and by bytes in the definition; texts that are appended one behind the other.
use Rattle.std.proofs.Common.{◌≡◌, ◌≢◌, ℕ, ◌+◌, ◌<◌, List, [], ◌∷◌, ◌++◌, length, get_or, codes, refl, sym, ap, ◌∙◌, arith, append-nil, append_assoc, lit<}
use Rattle.std.specs.Char.{encode_utf8}
use Rattle.std.proofs.lemmas.Str.{inside_one}
use Rattle.std.proofs.lemmas.Grind.{flat_map-append}
use Rattle.std.proofs.lemmas.Str.{encode_ascii}
use native.Mathlib.Numerals.{unary_clauses}
use Rattle.pg_resolve.specs.Texts.{doubled, doubled_byte, quoted}

byte_kept : (b : ℕ) → b ≢ 39 → b ≢ 92 → doubled_byte b ≡ b ∷ []
byte_kept b s t = grind arith

bytes_kept : (bs : List ℕ) → ((k : ℕ) → k < length bs → (get_or bs k 0 ≢ 39) × (get_or bs k 0 ≢ 92)) → doubled bs ≡ bs
unfolding doubled
bytes_kept [] h = refl
bytes_kept (b ∷ bs) h =
    let first = h 0 (omega arith) in
    let more = bytes_kept bs (λ k l. simp unary_clauses at (h (k + 1) (omega arith))) in
    rw (byte_kept b first.0 first.1) (ap (λ t. b ∷ t) more)

-- a character that is neither a quote nor a backslash stays
pub char_kept : (c : ℕ) → c ≢ 39 → c ≢ 92 → doubled (encode_utf8 c) ≡ encode_utf8 c
char_kept c s t =
    bytes_kept (encode_utf8 c) (λ k l. (
      λ e. s (inside_one c [] (encode_utf8 c) k (sym (append-nil _)) l (omega (arith, e)) ∙ e),
      λ e. t (inside_one c [] (encode_utf8 c) k (sym (append-nil _)) l (omega (arith, e)) ∙ e),
    ))

pub doubled-append : (xs ys : List ℕ) → doubled (xs ++ ys) ≡ doubled xs ++ doubled ys
unfolding doubled
doubled-append xs ys = flat_map-append doubled_byte xs ys

pub quote_doubled : (c : ℕ) → c ≡ 39 → doubled (encode_utf8 c) ≡ 39 ∷ 39 ∷ []
unfolding doubled
quote_doubled c e = rw (e, encode_ascii 39 (lit< tt)) refl

pub backslash_doubled : (c : ℕ) → c ≡ 92 → doubled (encode_utf8 c) ≡ 92 ∷ 92 ∷ []
unfolding doubled
backslash_doubled c e = rw (e, encode_ascii 92 (lit< tt)) refl

pub doubled-nil : doubled [] ≡ []
unfolding doubled
doubled-nil = refl

-- ---- texts one behind the other

pub three_pushed : (old a b c x y z : List ℕ) → a ≡ old ++ x → b ≡ a ++ y → c ≡ b ++ z → c ≡ old ++ (x ++ y ++ z)
three_pushed old a b c x y z e f g = rw (g, f, e) (simp append_assoc)

-- ---- a quoted text within others

pub quoted_original : (name : List ℕ) → codes "(E'" ++ doubled name ++ codes "', " ≡ codes "(" ++ quoted name ++ codes ", "
unfolding quoted
quoted_original name = simp append_assoc

pub quoted_name : (name : List ℕ) → codes "to_regtype(E'" ++ doubled name ++ codes "')::oid)" ≡ (codes "to_regtype(" ++ quoted name ++ codes ")::oid") ++ codes ")"
unfolding quoted
quoted_name name = simp append_assoc

pub quoted_element : (name : List ℕ) → codes "to_regtype(E'" ++ doubled name ++ codes "'))" ≡ (codes "to_regtype(" ++ quoted name ++ codes ")") ++ codes ")"
unfolding quoted
quoted_element name = simp append_assoc
