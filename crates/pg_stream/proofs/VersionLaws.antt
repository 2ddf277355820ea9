-- The numbers of a version, piece by piece and from left to right.
use Rattle.std.proofs.Common.{◌≡◌, ℕ, ◌+◌, ◌*◌, ◌-◌, ◌<◌, ◌≤◌, ◌^◌, Bool, true, false, cond, if◌then◌else◌, nat_eq, nat_lt, nat_le, List, [], ◌∷◌, length, drop, refl, sym, ap, ◌∙◌, arith, Option, Some, None}
use Rattle.std.specs.Char.{is_ascii_digit, digit_value}
use Rattle.std.specs.Str.Parse.{digits_value, digits_value_after}
use Rattle.std.proofs.lemmas.List.Sums.{take_while-cons}
use Rattle.std.proofs.lemmas.Bool.Decides.{nat_tests}
use Rattle.pg_wire.specs.Parts.{onto_first}
use Rattle.pg_stream.specs.Versions.{pieces, front_digits, is_number, numbers, within, version_by, version_of}
use Rattle.pg_stream.specs.VersionReading.{number_at, further_at}
use Rattle.pg_wire.proofs.CompletionLaws.{digit_is}

-- the numbers behind the digits of one
abbrev behind : List ℕ → List ℕ
behind [] = []
behind (b ∷ rest) = if nat_eq b 46 then numbers (pieces rest) else []

abbrev run : Option (ℕ × List ℕ) → List ℕ
run None = []
run (Some x) = x.0 ∷ behind x.1

-- the numbers behind a piece
abbrev after : List ℕ → List (List ℕ) → List ℕ
after piece others = if nat_eq (length (front_digits piece)) (length piece) then numbers others else []

-- the first piece of a text
record First (text : List ℕ) : Type 0 where
  piece : List ℕ
  others : List (List ℕ)
  parts : pieces text ≡ piece ∷ others
  digits : front_digits piece ≡ front_digits text
  more : after piece others ≡ behind (drop (length (front_digits text)) text)

dot_no_digit : (b : ℕ) → nat_eq b 46 ≡ true → is_ascii_digit b ≡ false
dot_no_digit b e = grind (arith, nat_tests)

same_length : {A B : Type 0} (x : A) (xs : List A) (y : B) (ys : List B) → nat_eq (length (x ∷ xs)) (length (y ∷ ys)) ≡ nat_eq (length xs) (length ys)
same_length x xs y ys = grind (arith, nat_tests)

no_length : (b : ℕ) (rest : List ℕ) → nat_eq 0 (length (b ∷ rest)) ≡ false
no_length b rest = grind (arith, nat_tests)

no_digits : (b : ℕ) (rest : List ℕ) → is_ascii_digit b ≡ false → front_digits (b ∷ rest) ≡ []
no_digits b rest e = take_while-cons is_ascii_digit b rest ∙ ap (λ t. cond t (b ∷ front_digits rest) []) e

one_digit : (b : ℕ) (rest : List ℕ) → is_ascii_digit b ≡ true → front_digits (b ∷ rest) ≡ b ∷ front_digits rest
one_digit b rest e = take_while-cons is_ascii_digit b rest ∙ ap (λ t. cond t (b ∷ front_digits rest) []) e

at_dot : (b : ℕ) (rest : List ℕ) → nat_eq b 46 ≡ true → First (b ∷ rest)
at_dot b rest dot = record {
  piece = [];
  others = pieces rest;
  parts = ap (λ t. if t then [] ∷ pieces rest else onto_first b (pieces rest)) dot;
  digits = sym (no_digits b rest (dot_no_digit b dot));
  more = rw (no_digits b rest (dot_no_digit b dot), dot) refl;
}

at_digit : (b : ℕ) (rest : List ℕ) → nat_eq b 46 ≡ false → is_ascii_digit b ≡ true → First rest → First (b ∷ rest)
at_digit b rest dot digit f =
    let piece : front_digits (b ∷ f.piece) ≡ b ∷ front_digits f.piece = one_digit b f.piece digit in record {
      piece = b ∷ f.piece;
      others = f.others;
      parts = ap (λ t. if t then [] ∷ pieces rest else onto_first b (pieces rest)) dot ∙ ap (onto_first b) f.parts;
      digits = piece ∙ ap (λ ds. b ∷ ds) f.digits ∙ sym (one_digit b rest digit);
      more = rw (piece, one_digit b rest digit, same_length b (front_digits f.piece) b f.piece) f.more;
    }

at_other : (b : ℕ) (rest : List ℕ) → nat_eq b 46 ≡ false → is_ascii_digit b ≡ false → First rest → First (b ∷ rest)
at_other b rest dot digit f = record {
  piece = b ∷ f.piece;
  others = f.others;
  parts = ap (λ t. if t then [] ∷ pieces rest else onto_first b (pieces rest)) dot ∙ ap (onto_first b) f.parts;
  digits = no_digits b f.piece digit ∙ sym (no_digits b rest digit);
  more = rw (no_digits b f.piece digit, no_digits b rest digit, dot, no_length b f.piece) refl;
}

by_byte : (b : ℕ) (rest : List ℕ) (dot digit : Bool) → nat_eq b 46 ≡ dot → is_ascii_digit b ≡ digit → First rest → First (b ∷ rest)
by_byte b rest true digit e d f = at_dot b rest e
by_byte b rest false true e d f = at_digit b rest e d f
by_byte b rest false false e d f = at_other b rest e d f

first : (text : List ℕ) → First text
first [] = record { piece = []; others = []; parts = refl; digits = refl; more = refl }
first (b ∷ rest) = by_byte b rest (nat_eq b 46) (is_ascii_digit b) refl refl (first rest)

run_if : (t : Bool) (n : ℕ) (rest : List ℕ) → (if t then n ∷ behind rest else []) ≡ run (if t then Some (n, rest) else None)
run_if true n rest = refl
run_if false n rest = refl

pub numbers-run : (text : List ℕ) → numbers (pieces text) ≡ run (number_at text)
unfolding number_at
numbers-run text =
    let f = first text in
    let cut : numbers (pieces text) ≡ numbers (f.piece ∷ f.others) = ap numbers f.parts in
    let same : numbers (f.piece ∷ f.others) ≡ (if is_number (front_digits text) then digits_value 10 (front_digits text) ∷ behind (drop (length (front_digits text)) text) else [])
    = ap (λ ds. if is_number ds then digits_value 10 ds ∷ after f.piece f.others else []) f.digits ∙ ap (λ ns. if is_number (front_digits text) then digits_value 10 (front_digits text) ∷ ns else []) f.more in
    cut ∙ same ∙ run_if (is_number (front_digits text)) (digits_value 10 (front_digits text)) (drop (length (front_digits text)) text)

behind_if : (t : Bool) (rest : List ℕ) → (if t then numbers (pieces rest) else []) ≡ run (if t then number_at rest else None)
behind_if true rest = numbers-run rest
behind_if false rest = refl

pub behind-run : (rest : List ℕ) → behind rest ≡ run (further_at rest)
unfolding further_at
behind-run [] = refl
behind-run (b ∷ rest) = behind_if (nat_eq b 46) rest

-- a version by the numbers that were read
pub version_none : (text : List ℕ) → number_at text ≡ None → version_of text ≡ None
version_none text e = ap version_by (numbers-run text ∙ ap run e)

pub numbers_one : (text rest : List ℕ) (a : ℕ) → number_at text ≡ Some (a, rest) → numbers (pieces text) ≡ a ∷ run (further_at rest)
numbers_one text rest a e = numbers-run text ∙ ap run e ∙ ap (λ ns. a ∷ ns) (behind-run rest)

pub version_one : (text rest : List ℕ) (a : ℕ) → number_at text ≡ Some (a, rest) → further_at rest ≡ None → version_of text ≡ version_by (a ∷ [])
version_one text rest a e f = ap version_by (numbers_one text rest a e ∙ ap (λ o. a ∷ run o) f)

numbers_two : (text rest last : List ℕ) (a b : ℕ) → number_at text ≡ Some (a, rest) → further_at rest ≡ Some (b, last) → numbers (pieces text) ≡ a ∷ b ∷ run (further_at last)
numbers_two text rest last a b e f = numbers_one text rest a e ∙ ap (λ o. a ∷ run o) f ∙ ap (λ ns. a ∷ b ∷ ns) (behind-run last)

pub version_two : (text rest last : List ℕ) (a b : ℕ) → number_at text ≡ Some (a, rest) → further_at rest ≡ Some (b, last) → further_at last ≡ None → version_of text ≡ version_by (a ∷ b ∷ [])
version_two text rest last a b e f g = ap version_by (numbers_two text rest last a b e f ∙ ap (λ o. a ∷ b ∷ run o) g)

numbers_three : (text rest last end : List ℕ) (a b c : ℕ) → number_at text ≡ Some (a, rest) → further_at rest ≡ Some (b, last) → further_at last ≡ Some (c, end) → numbers (pieces text) ≡ a ∷ b ∷ c ∷ run (further_at end)
numbers_three text rest last end a b c e f g = numbers_two text rest last a b e f ∙ ap (λ o. a ∷ b ∷ run o) g ∙ ap (λ ns. a ∷ b ∷ c ∷ ns) (behind-run end)

pub version_three : (text rest last end : List ℕ) (a b c : ℕ) → number_at text ≡ Some (a, rest) → further_at rest ≡ Some (b, last) → further_at last ≡ Some (c, end) → further_at end ≡ None → version_of text ≡ version_by (a ∷ b ∷ c ∷ [])
version_three text rest last end a b c e f g h = ap version_by (numbers_three text rest last end a b c e f g ∙ ap (λ o. a ∷ b ∷ c ∷ run o) h)

pub version_four : (text rest last end : List ℕ) (a b c : ℕ) (x : ℕ × List ℕ) → number_at text ≡ Some (a, rest) → further_at rest ≡ Some (b, last) → further_at last ≡ Some (c, end) → further_at end ≡ Some x → version_of text ≡ None
version_four text rest last end a b c x e f g h = ap version_by (numbers_three text rest last end a b c e f g ∙ ap (λ o. a ∷ b ∷ c ∷ run o) h)

-- ---- the digits at the front, one by one

pub record ReadsDigits (text : List ℕ) (count value : ℕ) : Type 0 where
  pub fits : count ≤ length text
  pub small : value < 2 ^ 32
  pub size : length (front_digits text) ≡ count + length (front_digits (drop count text))
  pub value_is : digits_value_after 10 value (front_digits (drop count text)) ≡ digits_value 10 (front_digits text)

pub reads_none : (text : List ℕ) → ReadsDigits text 0 0
reads_none text = record { fits = omega arith; small = omega arith; size = omega arith; value_is = refl }

pub reads_more : (text : List ℕ) (count value b : ℕ) → ReadsDigits text count value → count < length text → drop count text ≡ b ∷ drop (count + 1) text → is_ascii_digit b ≡ true → value * 10 + (b - 48) < 2 ^ 32 → ReadsDigits text (count + 1) (value * 10 + (b - 48))
reads_more text count value b r lt next digit small =
    let front : front_digits (drop count text) ≡ b ∷ front_digits (drop (count + 1) text) = ap front_digits next ∙ one_digit b (drop (count + 1) text) digit in
    record {
      fits = omega (arith, lt);
      small = small;
      size = omega (arith, r.size, ap length front);
      value_is = rw (← digit_is b digit) (ap (digits_value_after 10 value) (sym front) ∙ r.value_is);
    }

-- the value only grows
digits_value_ge : (n : ℕ) (ds : List ℕ) → n ≤ digits_value_after 10 n ds
digits_value_ge n [] = omega arith
digits_value_ge n (d ∷ ds) = omega (arith, digits_value_ge (n * 10 + digit_value d) ds)

-- the digits that were read are all
pub reads_all : (text : List ℕ) (count value : ℕ) → ReadsDigits text count value → front_digits (drop count text) ≡ [] → (length (front_digits text) ≡ count) × (digits_value 10 (front_digits text) ≡ value)
reads_all text count value r none = (omega (arith, r.size, ap length none), sym r.value_is ∙ ap (digits_value_after 10 value) none)

pub no_front : (text : List ℕ) (count b : ℕ) → drop count text ≡ b ∷ drop (count + 1) text → is_ascii_digit b ≡ false → front_digits (drop count text) ≡ []
no_front text count b next e = ap front_digits next ∙ no_digits b (drop (count + 1) text) e

not_number : (ds : List ℕ) → 2 ^ 32 ≤ digits_value 10 ds → is_number ds ≡ false
not_number ds le = grind (arith, nat_tests)

pub reads_too_much : (text : List ℕ) (count value b : ℕ) → ReadsDigits text count value → drop count text ≡ b ∷ drop (count + 1) text → is_ascii_digit b ≡ true → 2 ^ 32 ≤ value * 10 + (b - 48) → number_at text ≡ None
unfolding number_at
reads_too_much text count value b r next digit big =
    let front : front_digits (drop count text) ≡ b ∷ front_digits (drop (count + 1) text) = ap front_digits next ∙ one_digit b (drop (count + 1) text) digit in
    let value_is : digits_value_after 10 (value * 10 + digit_value b) (front_digits (drop (count + 1) text)) ≡ digits_value 10 (front_digits text) = ap (digits_value_after 10 value) (sym front) ∙ r.value_is in
    let all : 2 ^ 32 ≤ digits_value 10 (front_digits text) = omega (arith, big, digit_is b digit, value_is, digits_value_ge (value * 10 + digit_value b) (front_digits (drop (count + 1) text))) in
    ap (λ t. if t then Some (digits_value 10 (front_digits text), drop (length (front_digits text)) text) else None) (not_number (front_digits text) all)

is_not : (ds : List ℕ) → length ds ≡ 0 → is_number ds ≡ false
is_not ds e = grind (arith, nat_tests)

pub reads_nothing : (text : List ℕ) (value : ℕ) → ReadsDigits text 0 value → front_digits (drop 0 text) ≡ [] → number_at text ≡ None
unfolding number_at
reads_nothing text value r none =
    ap (λ t. if t then Some (digits_value 10 (front_digits text), drop (length (front_digits text)) text) else None) (is_not (front_digits text) (reads_all text 0 value r none).0)

is_one : (ds : List ℕ) → 0 < length ds → digits_value 10 ds < 2 ^ 32 → is_number ds ≡ true
is_one ds some small = grind (arith, nat_tests)

pub reads_number : (text : List ℕ) (count value : ℕ) → ReadsDigits text count value → front_digits (drop count text) ≡ [] → 0 < count → number_at text ≡ Some (value, drop count text)
unfolding number_at
reads_number text count value r none some =
    let all = reads_all text count value r none in
    ap (λ t. if t then Some (digits_value 10 (front_digits text), drop (length (front_digits text)) text) else None) (is_one (front_digits text) (omega (arith, all.0, some)) (omega (arith, all.1, r.small)))
    ∙ ap (λ n. Some (n, drop (length (front_digits text)) text)) all.1 ∙ ap (λ n. Some (value, drop n text)) all.0

within_by : (n m : ℕ) (t : Bool) → nat_lt n (2 ^ 32) ≡ t → (if t then Some n else None) ≡ Some m → (m ≡ n) × (n < 2 ^ 32)
within_by n m true t e = (cc, grind (arith, nat_tests))
within_by n m false t e = absurd cc

pub fits_in : (n m : ℕ) → within n ≡ Some m → (m ≡ n) × (n < 2 ^ 32)
fits_in n m e = within_by n m (nat_lt n (2 ^ 32)) refl e

too_big_by : (n : ℕ) (t : Bool) → nat_lt n (2 ^ 32) ≡ t → (if t then Some n else None) ≡ None → 2 ^ 32 ≤ n
too_big_by n true t e = absurd cc
too_big_by n false t e = grind (arith, nat_tests)

pub too_big : (n : ℕ) → within n ≡ None → 2 ^ 32 ≤ n
too_big n e = too_big_by n (nat_lt n (2 ^ 32)) refl e

new_is : (a : ℕ) → 10 ≤ a → nat_le 10 a ≡ true
new_is a e = grind (arith, nat_tests)

old_is : (a : ℕ) → a < 10 → nat_le 10 a ≡ false
old_is a e = grind (arith, nat_tests)

pub two_new : (a b : ℕ) → 10 ≤ a → version_by (a ∷ b ∷ []) ≡ within (10000 * a + b)
two_new a b e = ap (λ t. within (10000 * a + (if t then b else 100 * b))) (new_is a e)

pub two_old : (a b : ℕ) → a < 10 → version_by (a ∷ b ∷ []) ≡ within (10000 * a + 100 * b)
two_old a b e = ap (λ t. within (10000 * a + (if t then b else 100 * b))) (old_is a e)
