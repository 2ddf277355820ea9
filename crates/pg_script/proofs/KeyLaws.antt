-- Keys of locks: what is read of a word is what the grammar spells.
use Rattle.std.proofs.Common.{ℕ, ℤ, ◌≡◌, ◌^◌, ◌∷◌, ◌++◌, [], List, Option, Some, None, Bool, true, false, refl, sym, ap, ◌∙◌, subst, arith, inl, inr}
use Rattle.std.specs.Prelude.{◌||◌, ◌==◌}
use Rattle.std.specs.List.{list_all}
use Rattle.std.specs.Str.Parse.{IsNumeral}
use Rattle.std.proofs.lemmas.List.{append-nil}
use Rattle.pg_locks.specs.declared.key.PgAdvisoryLockKey.{PgAdvisoryLockKey}
use Rattle.pg_locks.specs.declared.key.PgAdvisoryLockKey.TheVariants.{BigInt, IntPair}
use Rattle.pg_script.specs.declared.token.Keyword.{Keyword}
use Rattle.pg_script.specs.declared.token.Token.TheVariants.{Key}
use Rattle.pg_options.specs.declared.ssl_mode.PgSslMode.{PgSslMode}
use Rattle.pg_script.specs.Words.{number_of, keyword_of, all_words, mode_of, begins_key, is_digit, key_of, token_of}
use Rattle.pg_script.specs.Grammar.{IsNumber, IsInteger, IsKey}
use Rattle.pg_script.proofs.BareLaws.{last_part, first_part, integer_goes, integer_again, word_on, joined_on}
use Rattle.pg_script.proofs.LexerTakes.{first_is, mode_is}
use Rattle.pg_script.proofs.ModeLaws.{is_letter, letters}
use Rattle.pg_script.proofs.SpellingLaws.{is_digit-from, number_of-takes}
use Rattle.pg_script.proofs.WordLaws.{goes_on, word_begins}
use Rattle.pg_wire.proofs.Tests.{both_true}

pub key_again : (k : PgAdvisoryLockKey) (w : List ℕ) → IsKey k w → key_of w ≡ Some k
key_again (BigInt z) w h = rw (last_part w (integer_goes (2 ^ 63) w z h), integer_again (2 ^ 63) w z h) refl
key_again (IntPair y z) w h =
    rw h.4 (rw (first_part h.0 h.1 (integer_goes (2 ^ 31) h.0 y h.2), last_part h.1 (integer_goes (2 ^ 31) h.1 z h.3), integer_again (2 ^ 31) h.0 y h.2, integer_again (2 ^ 31) h.1 z h.3) refl)

-- ---- which word it is

pub key_goes : (k : PgAdvisoryLockKey) (w : List ℕ) → IsKey k w → list_all goes_on w ≡ true
key_goes (BigInt z) w h = word_on w (integer_goes (2 ^ 63) w z h)
key_goes (IntPair y z) w h = rw h.4 (joined_on h.0 h.1 (integer_goes (2 ^ 31) h.0 y h.2) (word_on h.1 (integer_goes (2 ^ 31) h.1 z h.3)))

or_true : (x : Bool) → x || true ≡ true
or_true true = refl
or_true false = refl

-- an integer, and what stands behind it, begins as a key and is no name
record BeginsKey (w : List ℕ) : Type 0 where
  head : ℕ
  rest : List ℕ
  is : w ≡ head ∷ rest
  begins : begins_key w ≡ true
  names_none : list_all is_letter w ≡ true → ⊥

no_letter : (b : ℕ) (bs : List ℕ) → is_digit b ≡ true → list_all is_letter (b ∷ bs) ≡ true → ⊥
no_letter b bs d e = let p = both_true (is_letter b) (list_all is_letter bs) e in let q = rw d at p.0 in cc

digits_begin : (d rest : List ℕ) → IsNumeral 10 d → (b : ℕ) × (bs : List ℕ) × (d ++ rest ≡ b ∷ bs) × (is_digit b ≡ true)
digits_begin [] rest h = let none = h.0 in absurd (omega (arith, none))
digits_begin (b ∷ bs) rest h = (b, bs ++ rest, refl, is_digit-from b h.1.0)

integer_begins : (limit : ℕ) (z : ℤ) (a rest : List ℕ) → IsInteger limit z a → BeginsKey (a ++ rest)
integer_begins limit z a rest (inl h) =
    let d = digits_begin a rest h.0 in
    record { head = d.0; rest = d.1; is = d.2; begins = rw (d.2, d.3) (or_true (d.0 == 45)); names_none = λ e. no_letter d.0 d.1 d.3 (rw d.2 at e) }
integer_begins limit z a rest (inr h) =
    let d = digits_begin h.0 rest h.2 in
    rw h.1 (record { head = 45; rest = h.0 ++ rest; is = refl; begins = refl; names_none = λ e. no_letter d.0 d.1 d.3 (rw d.2 at (both_true (is_letter 45) (list_all is_letter (h.0 ++ rest)) e).1) })

key_begins : (k : PgAdvisoryLockKey) (w : List ℕ) → IsKey k w → BeginsKey w
key_begins (BigInt z) w h = subst BeginsKey (append-nil w) (integer_begins (2 ^ 63) z w [] h)
key_begins (IntPair y z) w h = subst BeginsKey (sym h.4) (integer_begins (2 ^ 31) y h.0 (44 ∷ h.1) h.2)

no_word_in : (w : List ℕ) (o : Option Keyword) → keyword_of w ≡ o → begins_key w ≡ true → o ≡ None
unfolding keyword_of
no_word_in w None is h = refl
no_word_in w (Some k) is h = let never : true ≡ false = sym h ∙ ap begins_key (first_is all_words w k is) ∙ word_begins k in absurd cc

no_mode_in : (w : List ℕ) (o : Option PgSslMode) → mode_of w ≡ o → (list_all is_letter w ≡ true → ⊥) → o ≡ None
no_mode_in w None is h = refl
no_mode_in w (Some m) is h = absurd (h (letters w m (mode_is w m is)))

no_number_in : (w : List ℕ) (o : Option ℕ) → number_of w ≡ o → ((n : ℕ) → IsNumber n w → ⊥) → o ≡ None
no_number_in w None is h = refl
no_number_in w (Some n) is h = absurd (h n (number_of-takes w n is))

pub key_token : (w : List ℕ) (k : PgAdvisoryLockKey) → IsKey k w → ((n : ℕ) → IsNumber n w → ⊥) → token_of w ≡ Some (Key k)
unfolding token_of
key_token w k h n =
    let b = key_begins k w h in
    rw (no_number_in w (number_of w) refl n, no_word_in w (keyword_of w) refl b.begins, no_mode_in w (mode_of w) refl b.names_none, b.begins, key_again k w h) refl

pub key_head : (k : PgAdvisoryLockKey) (w : List ℕ) → IsKey k w → (b : ℕ) × (bs : List ℕ) × (w ≡ b ∷ bs)
key_head k w h = let b = key_begins k w h in (b.head, b.rest, b.is)
