-- The names of modes, in any case, are words of ASCII.
use Rattle.std.proofs.Common.{ℕ, ◌≡◌, ◌∷◌, ◌++◌, [], List, Some, Bool, true, false, cond, nat_eq, nat_le, map, refl, ap, ◌∙◌, arith, inl, inr}
use Rattle.std.specs.Prelude.{◌&&◌, not, bytes_eq}
use Rattle.std.specs.Char.{to_ascii_lowercase}
use Rattle.std.specs.List.{list_all}
use Rattle.std.specs.Str.{is_utf8, IsAscii}
use Rattle.std.proofs.lemmas.Bool.Decides.{nat_tests}
use Rattle.std.proofs.lemmas.Str.{IsUtf8-from_ascii, is_utf8-from_IsUtf8}
use Rattle.std.proofs.lemmas.Str.Ascii.{IsAscii-nil, IsAscii-cons}
use Rattle.pg_options.specs.declared.ssl_mode.PgSslMode.{PgSslMode}
use Rattle.pg_options.specs.declared.ssl_mode.PgSslMode.TheVariants as modes
use Rattle.pg_options.specs.SslModes.{ssl_mode_from, ssl_mode_name, mode_named, ssl_modes}
use Rattle.pg_script.specs.declared.token.BareWord.{BareWord}
use Rattle.pg_script.specs.declared.token.BareWord.TheVariants as bare_words
use Rattle.pg_script.specs.Words.{is_digit, bare_spelling}
use Rattle.pg_script.proofs.WordLaws.{goes_on, is_one_word}
use Rattle.pg_script.proofs.SpellingLaws.{bytes_eq-is}
use Rattle.pg_wire.proofs.Tests.{both_true, chosen}
use Rattle.std.proofs.lemmas.Option.{same_Some}

-- a hyphen or a letter, and what stands between them but for digits and a colon
abbrev pub is_letter : ℕ → Bool
is_letter b = (not (is_digit b) && not (nat_eq b 58)) && (nat_le 45 b && nat_le b 122)

named_next : (m : PgSslMode) (ms : List PgSslMode) (name : List ℕ) (k : PgSslMode) → (mode_named name ms ≡ Some k → name ≡ ssl_mode_name k) → cond (bytes_eq name (ssl_mode_name m)) (Some m) (mode_named name ms) ≡ Some k → name ≡ ssl_mode_name k
named_next m ms name k h e = elim (chosen (bytes_eq name (ssl_mode_name m)) (Some m) (mode_named name ms) (Some k) e) [
  | inl p ↦ bytes_eq-is name (ssl_mode_name m) p.0 ∙ ap ssl_mode_name (same_Some m k p.1)
  | inr p ↦ h p.1
]

named_is : (ms : List PgSslMode) (name : List ℕ) (k : PgSslMode) → mode_named name ms ≡ Some k → name ≡ ssl_mode_name k
named_is [] name k e = absurd cc
named_is (m ∷ ms) name k e = named_next m ms name k (named_is ms name k) e

name_letters : (m : PgSslMode) → list_all is_letter (ssl_mode_name m) ≡ true
name_letters modes.Disable = refl
name_letters modes.Allow = refl
name_letters modes.Prefer = refl
name_letters modes.Require = refl
name_letters modes.VerifyCa = refl
name_letters modes.VerifyFull = refl

raised : (b : ℕ) → is_letter (to_ascii_lowercase b) ≡ true → is_letter b ≡ true
raised b e = grind (arith, nat_tests)

all_raised : (w : List ℕ) → list_all is_letter (map to_ascii_lowercase w) ≡ true → list_all is_letter w ≡ true
all_raised [] e = refl
all_raised (b ∷ w) e =
    let p = both_true (is_letter (to_ascii_lowercase b)) (list_all is_letter (map to_ascii_lowercase w)) e in
    rw (raised b p.0) (all_raised w p.1)

pub letters : (w : List ℕ) (m : PgSslMode) → ssl_mode_from w ≡ Some m → list_all is_letter w ≡ true
unfolding ssl_mode_from
letters w m e = all_raised w (ap (list_all is_letter) (named_is ssl_modes (map to_ascii_lowercase w) m e) ∙ name_letters m)

letter_goes : (b : ℕ) → is_letter b ≡ true → goes_on b ≡ true
letter_goes b e = grind (arith, nat_tests)

letters_go : (w : List ℕ) → list_all is_letter w ≡ true → list_all goes_on w ≡ true
letters_go [] e = refl
letters_go (b ∷ w) e =
    let p = both_true (is_letter b) (list_all is_letter w) e in
    rw (letter_goes b p.0) (letters_go w p.1)

letters_ascii : (w : List ℕ) → list_all is_letter w ≡ true → IsAscii w
letters_ascii [] e = IsAscii-nil
letters_ascii (b ∷ w) e =
    let p = both_true (is_letter b) (list_all is_letter w) e in
    let q = p.0 in
    IsAscii-cons b w (grind (arith, nat_tests, q)) (letters_ascii w p.1)

letters_word : (b : ℕ) (w : List ℕ) → list_all is_letter (b ∷ w) ≡ true → is_one_word (b ∷ w) ≡ true
letters_word b w e =
    let p = both_true (is_letter b) (list_all is_letter w) e in
    let q = p.0 in
    let digit : is_digit b ≡ false = grind (arith, nat_tests, q) in
    let comment : nat_eq b 35 ≡ false = grind (arith, nat_tests, q) in
    rw (digit, comment) (letters_go (b ∷ w) e)

-- the name of a mode is one word, and a text
pub mode_word : (w : List ℕ) (m : PgSslMode) → ssl_mode_from w ≡ Some m → is_one_word w ≡ true
unfolding ssl_mode_from
mode_word [] m e = absurd cc
mode_word (b ∷ w) m e = letters_word b w (letters (b ∷ w) m e)

pub mode_utf8 : (w : List ℕ) (m : PgSslMode) → ssl_mode_from w ≡ Some m → is_utf8 w ≡ true
mode_utf8 w m e = is_utf8-from_IsUtf8 w (IsUtf8-from_ascii w (letters_ascii w (letters w m e)))

-- and no argument that stands without quotes
pub no_mode : (k : BareWord) (d : List ℕ) (m : PgSslMode) → ssl_mode_from (bare_spelling k ++ d) ≡ Some m → ⊥
no_mode k d m e = by k (letters (bare_spelling k ++ d) m e)
  where
    by : (k : BareWord) → list_all is_letter (bare_spelling k ++ d) ≡ true → ⊥
    by bare_words.Null h = cc
    by bare_words.Bool h = cc
    by bare_words.Int2 h = cc
    by bare_words.Int4 h = cc
    by bare_words.Int8 h = cc
    by bare_words.Oid h = cc
    by bare_words.Int4s h = cc
