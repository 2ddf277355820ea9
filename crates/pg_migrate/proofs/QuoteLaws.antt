-- Doubling is by characters in code and by bytes in the definition; what is quoted is read back; texts that are added one behind the other.
use Rattle.std.proofs.Common.{◌≡◌, ◌≢◌, ℕ, suc, zero, ◌+◌, ◌<◌, ◌==◌, Bool, true, false, List, [], ◌∷◌, ◌++◌, Option, Some, None, length, get_or, refl, sym, ap, subst, ◌∙◌, arith, append-nil, append_assoc}
use Rattle.std.specs.Char.{encode_utf8}
use Rattle.std.proofs.lemmas.Str.{inside_one, encode_ascii}
use Rattle.std.proofs.lemmas.Grind.{flat_map-append}
use native.Mathlib.Numerals.{unary_clauses}
use Rattle.pg_migrate.specs.Quoting.{doubled, doubled_byte, quoted, behind, inside, unquoted, BeginsOtherwise}

byte_kept : (mark b : ℕ) → b ≢ mark → doubled_byte mark b ≡ b ∷ []
byte_kept mark b s = grind arith

byte_marked : (mark : ℕ) → doubled_byte mark mark ≡ mark ∷ mark ∷ []
byte_marked mark = grind arith

bytes_kept : (mark : ℕ) (bs : List ℕ) → ((k : ℕ) → k < length bs → get_or bs k 0 ≢ mark) → doubled mark bs ≡ bs
unfolding doubled
bytes_kept mark [] h = refl
bytes_kept mark (b ∷ bs) h =
    let first = h 0 (omega arith) in
    let more = bytes_kept mark bs (λ k l. simp unary_clauses at (h (k + 1) (omega arith))) in
    rw (byte_kept mark b first) (ap (λ (t : List ℕ). b ∷ t) more)

-- a character that isn't the mark stays
pub char_kept : (mark c : ℕ) → mark < 128 → c ≢ mark → doubled mark (encode_utf8 c) ≡ encode_utf8 c
char_kept mark c m s =
    bytes_kept mark (encode_utf8 c) (λ k l e. s (inside_one c [] (encode_utf8 c) k (sym (append-nil _)) l (omega (arith, e, m)) ∙ e))

same : (mark : ℕ) → mark < 128 → doubled mark (encode_utf8 mark) ≡ encode_utf8 mark ++ encode_utf8 mark
unfolding doubled
same mark m = rw (encode_ascii mark m, byte_marked mark) refl

pub mark_doubled : (mark c : ℕ) → mark < 128 → c ≡ mark → doubled mark (encode_utf8 c) ≡ encode_utf8 c ++ encode_utf8 c
mark_doubled mark c m e = subst (λ (x : ℕ). doubled mark (encode_utf8 x) ≡ encode_utf8 x ++ encode_utf8 x) (sym e) (same mark m)

pub doubled-append : (mark : ℕ) (xs ys : List ℕ) → doubled mark (xs ++ ys) ≡ doubled mark xs ++ doubled mark ys
unfolding doubled
doubled-append mark xs ys = flat_map-append (doubled_byte mark) xs ys

pub doubled-nil : (mark : ℕ) → doubled mark [] ≡ []
unfolding doubled
doubled-nil mark = refl

-- ---- texts one behind the other

pub three_put : (old a b c x y z : List ℕ) → a ≡ old ++ x → b ≡ a ++ y → c ≡ b ++ z → c ≡ old ++ (x ++ y ++ z)
three_put old a b c x y z e f g = rw (g, f, e) (simp append_assoc)

pub quoted_put : (mark : ℕ) (old a b c text : List ℕ) → mark < 128 → a ≡ old ++ encode_utf8 mark → b ≡ a ++ doubled mark text → c ≡ b ++ encode_utf8 mark → c ≡ old ++ quoted mark text
unfolding quoted
quoted_put mark old a b c text m e f g =
    let one = encode_ascii mark m in
    three_put old a b c (mark ∷ []) (doubled mark text) (mark ∷ []) (rw one at e) f (rw one at g)

-- ---- what is quoted is read back

marked : (mark : ℕ) → (mark == mark) ≡ true
marked mark = grind arith

ends : (mark : ℕ) (rest : List ℕ) → BeginsOtherwise mark rest → inside mark true rest ≡ Some ([], rest)
ends mark [] h = refl
ends mark (b ∷ rest) h = rw h refl

by_byte : (mark b : ℕ) (t : Bool) (bytes text rest : List ℕ) → (b == mark) ≡ t
    → inside mark false bytes ≡ Some (text, rest)
    → inside mark false (doubled_byte mark b ++ bytes) ≡ Some (b ∷ text, rest)
by_byte mark b true bytes text rest e h = simp (e, h)
by_byte mark b false bytes text rest e h = simp (e, h)

reads : (mark : ℕ) (text rest : List ℕ) → BeginsOtherwise mark rest → inside mark false (doubled mark text ++ (mark ∷ rest)) ≡ Some (text, rest)
unfolding doubled
reads mark [] rest h = rw (marked mark) (ends mark rest h)
reads mark (b ∷ text) rest h =
    ap (λ (t : List ℕ). inside mark false t) (append_assoc (doubled_byte mark b) (doubled mark text) (mark ∷ rest))
    ∙ by_byte mark b (b == mark) (doubled mark text ++ (mark ∷ rest)) text rest refl (reads mark text rest h)

pub read_back : (mark : ℕ) (text rest : List ℕ) → BeginsOtherwise mark rest → unquoted mark (quoted mark text ++ rest) ≡ Some (text, rest)
unfolding quoted
read_back mark text rest h =
    rw (marked mark) (ap (λ (t : List ℕ). inside mark false t) (append_assoc (doubled mark text) (mark ∷ []) rest) ∙ reads mark text rest h)
