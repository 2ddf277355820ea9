-- Escaping is by characters in code and by bytes in the definition.
use Rattle.std.proofs.Common.{◌≡◌, ◌≢◌, ℕ, ◌+◌, ◌<◌, List, [], ◌∷◌, ◌++◌, length, get_or, refl, sym, ap, ◌∙◌, arith, append-nil, append_assoc, lit<}
use Rattle.std.specs.Char.{encode_utf8}
use Rattle.std.proofs.lemmas.Str.{inside_one}
use Rattle.std.proofs.lemmas.Grind.{flat_map-append}
use Rattle.std.proofs.lemmas.Str.{encode_ascii}
use native.Mathlib.Numerals.{unary_clauses}
use Rattle.pg_options.specs.Escaping.{escaped, escaped_byte}

byte_kept : (b : ℕ) → b ≢ 32 → b ≢ 92 → escaped_byte b ≡ b ∷ []
byte_kept b s t = grind arith

bytes_kept : (bs : List ℕ) → ((k : ℕ) → k < length bs → (get_or bs k 0 ≢ 32) × (get_or bs k 0 ≢ 92)) → escaped bs ≡ bs
unfolding escaped
bytes_kept [] h = refl
bytes_kept (b ∷ bs) h =
    let first = h 0 (omega arith) in
    let more = bytes_kept bs (λ k l. simp unary_clauses at (h (k + 1) (omega arith))) in
    rw (byte_kept b first.0 first.1) (ap (λ t. b ∷ t) more)

-- a character that is neither a space nor a backslash stays
pub char_kept : (c : ℕ) → c ≢ 32 → c ≢ 92 → escaped (encode_utf8 c) ≡ encode_utf8 c
char_kept c s t =
    bytes_kept (encode_utf8 c) (λ k l. (
      λ e. s (inside_one c [] (encode_utf8 c) k (sym (append-nil _)) l (omega (arith, e)) ∙ e),
      λ e. t (inside_one c [] (encode_utf8 c) k (sym (append-nil _)) l (omega (arith, e)) ∙ e),
    ))

pub escaped-append : (xs ys : List ℕ) → escaped (xs ++ ys) ≡ escaped xs ++ escaped ys
unfolding escaped
escaped-append xs ys = flat_map-append escaped_byte xs ys

pub space_escaped : (c : ℕ) → c ≡ 32 → escaped (encode_utf8 c) ≡ 92 ∷ 32 ∷ []
unfolding escaped
space_escaped c e = rw (e, encode_ascii 32 (lit< tt)) refl

pub backslash_escaped : (c : ℕ) → c ≡ 92 → escaped (encode_utf8 c) ≡ 92 ∷ 92 ∷ []
unfolding escaped
backslash_escaped c e = rw (e, encode_ascii 92 (lit< tt)) refl

pub escaped-nil : escaped [] ≡ []
unfolding escaped
escaped-nil = refl

pub equals_escaped : escaped (encode_utf8 61) ≡ 61 ∷ []
unfolding escaped
equals_escaped = rw (encode_ascii 61 (lit< tt)) refl

-- a name, the sign and a value, written one behind the other
pub pair_written : (old name value a b c : List ℕ) → a ≡ old ++ escaped name → b ≡ a ++ escaped (encode_utf8 61) → c ≡ b ++ escaped value
    → c ≡ old ++ (escaped name ++ 61 ∷ [] ++ escaped value)
pair_written old name value a b c e f g = rw (g, f, equals_escaped, e) (simp append_assoc)
