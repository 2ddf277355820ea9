-- Arguments that stand without quotes: what is read of a word is what the grammar spells.
use Rattle.std.proofs.Common.{ℕ, ℤ, zero, suc, ◌≡◌, ◌≢◌, ◌^◌, ◌<◌, ◌≤◌, ◌∷◌, ◌++◌, [], List, Option, Some, None, Result, Ok, Err, Bool, true, false, cond, nat_eq, nat_lt, nat_le, length, take, drop, get_or, refl, sym, ap, ◌∙◌, subst, arith, inl, inr, codes}
use Rattle.std.specs.Prelude.{pos, neg_ℤ, ◌==◌, ◌&&◌, not, bytes_eq}
use Rattle.std.specs.Char.{digit_value}
use Rattle.std.specs.Result.{result_ok}
use Rattle.std.proofs.lemmas.List.{take-append-drop}
use Rattle.std.specs.List.{list_all, slice_split, join_with_byte}
use Rattle.std.specs.Int.{Width}
use Rattle.std.specs.Result.{OkIff}
use Rattle.std.specs.Str.{is_utf8, IsAscii}
use Rattle.std.specs.Str.Parse.{AllDigits, IsNumeral, digits_value, ParsesSigned}
use Rattle.std.proofs.lemmas.Str.Parse.{IsNumeralModel, numerals_by_value, tells_digits, parse_signed_minus, parse_signed_plain, digit_from_value}
use Rattle.std.proofs.lemmas.Fmt.{IsAscii-from_digits}
use Rattle.std.proofs.lemmas.Str.{IsUtf8-from_ascii, is_utf8-from_IsUtf8}
use Rattle.std.proofs.lemmas.Bool.{eqb-true}
use Rattle.std.proofs.lemmas.Bool.Decides.{nat_tests}
use Rattle.std.proofs.lemmas.Option.{same_Some}
use Rattle.std.proofs.lemmas.List.Splits.{join_with_byte-slice_split}
use mir.Val.{hbits}
use Rattle.pg_script.specs.declared.token.BareWord.{BareWord}
use Rattle.pg_script.specs.declared.token.BareWord.TheVariants as bare_words
use Rattle.pg_script.specs.declared.argument.Bare.{Bare}
use Rattle.pg_script.specs.declared.argument.Bare.TheVariants as bare
use Rattle.pg_script.specs.Reading.{◌>>=◌}
use Rattle.pg_script.specs.Arguments.{text_in}
use Rattle.pg_script.specs.Words.{bare_spelling, all_bare_words, behind, begun_by, begun, bool_of, signed_text, magnitude, negative, positive, integer_in, integer_of, each_integer, integers_of, bare_with, bare_of, begins_key, digits_after, number_of}
use Rattle.pg_script.specs.Grammar.{IsNumber, IsInteger, AreIntegers, SpellsBare}
use Rattle.pg_script.proofs.Found.{bind_some, utf8_takes}
use Rattle.pg_script.proofs.SpellingLaws.{none_some, unless, bytes_eq-is, digits_take, digits_again, number_of-takes, number_of-again}
use Rattle.pg_options.specs.declared.ssl_mode.PgSslMode.{PgSslMode}
use Rattle.pg_options.specs.SslModes.{ssl_mode_from}
use Rattle.pg_script.proofs.WordLaws.{goes_on, is_one_word}
use Rattle.pg_script.proofs.ModeLaws.{no_mode}
use Rattle.pg_wire.proofs.Tests.{chosen, guarded, both_true, negated}

-- ---- integers, against `parse`

own : IsNumeralModel (AllDigits 10) (digits_value 10)
own = numerals_by_value (AllDigits 10) tells_digits

-- a text of digits has its number
digits_of : (b : ℕ) (bs : List ℕ) → AllDigits 10 (b ∷ bs) → magnitude (b ∷ bs) ≡ Some (digits_value 10 (b ∷ bs))
digits_of b bs h = digits_again (b ∷ bs) 0 h

-- what a limit lets through of a number that digits may say
limited : {E : Type 0} (ds : List ℕ) (o : Option ℕ) (f : ℕ → ℤ) (test : ℕ → Bool) (Fits : ℕ → Type 0) → magnitude ds ≡ o
    → ((n : ℕ) → test n ≡ true → Fits n) → ((n : ℕ) → Fits n → test n ≡ true) → (r : Result ℤ E)
    → OkIff r (AllDigits 10 ds × (0 < length ds) × Fits (digits_value 10 ds)) (f (digits_value 10 ds)) → result_ok r ≡ (magnitude ds >>= λ n. cond (test n) (Some (f n)) None)
limited [] o f test Fits is to from (Ok z) h = absurd (omega (arith, h.0.1))
limited [] o f test Fits is to from (Err e) h = refl
limited (b ∷ bs) o f test Fits is to from (Ok z) h = rw (digits_of b bs h.0.0, from (digits_value 10 (b ∷ bs)) h.0.2) (ap Some h.1)
limited (b ∷ bs) None f test Fits is to from (Err e) h = rw is refl
limited (b ∷ bs) (Some n) f test Fits is to from (Err e) h =
    let t = digits_take (b ∷ bs) 0 n is in
    rw is (by (test n) refl (λ p. h (t.0, omega arith, subst Fits (sym t.1) (to n p))))
  where
    by : (p : Bool) → test n ≡ p → (p ≡ true → ⊥) → None ≡ cond p (Some (f n)) None
    by true q never = absurd (never refl)
    by false q never = refl

pub parse_is : {E : Type 0} (w : Width) (limit : ℕ) (bytes text : List ℕ) (r : Result ℤ E) → 2 ^ hbits w ≡ limit → signed_text bytes ≡ Some text → ParsesSigned w 10 text r → result_ok r ≡ integer_of limit bytes
parse_is {E = E} w limit bytes text r width e h = rw e (by bytes text e h)
  where
    nothing : (r : Result ℤ E) → OkIff r (AllDigits 10 [] × (0 < 0) × (0 < 2 ^ hbits w)) (pos 0) → result_ok r ≡ None
    nothing (Ok z) h = absurd (omega (arith, h.0.1))
    nothing (Err e) h = refl

    no_plus : (b c : ℕ) → nat_eq b 43 ≡ false → b ≡ c → c ≢ 43
    no_plus b c t e = λ f. grind (arith, nat_tests, f)

    signed : (c : ℕ) (cs : List ℕ) (minus : Bool) → nat_eq c 45 ≡ minus → c ≢ 43 → ParsesSigned w 10 (c ∷ cs) r → result_ok r ≡ integer_in limit (c ∷ cs)
    signed c cs true t n h = rw t (limited cs (magnitude cs) (λ n. neg_ℤ (pos n)) (λ n. nat_le n limit) (λ n. n ≤ 2 ^ hbits w) refl (λ n p. grind (arith, nat_tests, width)) (λ n p. grind (arith, nat_tests, width)) r (parse_signed_minus own w (c ∷ cs) r h (eqb-true c 45 t)))
    signed c cs false t n h = rw t (limited (c ∷ cs) (magnitude (c ∷ cs)) (λ n. pos n) (λ n. nat_lt n limit) (λ n. n < 2 ^ hbits w) refl (λ n p. grind (arith, nat_tests, width)) (λ n p. grind (arith, nat_tests, width)) r (parse_signed_plain own w (c ∷ cs) r h n (λ f. grind (arith, nat_tests, f))))

    by : (bytes text : List ℕ) → signed_text bytes ≡ Some text → ParsesSigned w 10 text r → result_ok r ≡ integer_in limit text
    by bytes [] e h = nothing r (parse_signed_plain own w [] r h (omega arith) (omega arith))
    by [] (c ∷ cs) e h = let u = (utf8_takes (is_utf8 []) [] (c ∷ cs) e).1 in absurd cc
    by (b ∷ bs) (c ∷ cs) e h =
        let g = unless (nat_eq b 43) (text_in (b ∷ bs)) (c ∷ cs) e in
        let u = utf8_takes (is_utf8 (b ∷ bs)) (b ∷ bs) (c ∷ cs) g.1 in
        let first : b ≡ c = ap (λ (x : List ℕ). get_or x 0 0) u.1 in
        signed c cs (nat_eq c 45) refl (no_plus b c g.0 first) h

-- ---- integers, against the grammar

minus_take : (limit : ℕ) (ds : List ℕ) (z : ℤ) → (magnitude ds >>= negative limit) ≡ Some z → IsNumeral 10 ds × (digits_value 10 ds ≤ limit) × (z ≡ neg_ℤ (pos (digits_value 10 ds)))
minus_take limit [] z e = absurd cc
minus_take limit (b ∷ bs) z e =
    let n = bind_some (digits_after 0 (b ∷ bs)) (negative limit) z e in
    let g = guarded (nat_le n.0 limit) (Some (neg_ℤ (pos n.0))) z n.2 in
    let t = digits_take (b ∷ bs) 0 n.0 n.1 in
    let few : n.0 ≤ limit = (let p = g.0 in grind (arith, nat_tests, p)) in
    ((omega arith, t.0), subst (λ (m : ℕ). m ≤ limit) (sym t.1) few, sym (same_Some _ z g.1) ∙ ap (λ (m : ℕ). neg_ℤ (pos m)) (sym t.1))

plain_take : (limit : ℕ) (ds : List ℕ) (z : ℤ) → (magnitude ds >>= positive limit) ≡ Some z → IsNumeral 10 ds × (digits_value 10 ds < limit) × (z ≡ pos (digits_value 10 ds))
plain_take limit [] z e = absurd cc
plain_take limit (b ∷ bs) z e =
    let n = bind_some (digits_after 0 (b ∷ bs)) (positive limit) z e in
    let g = guarded (nat_lt n.0 limit) (Some (pos n.0)) z n.2 in
    let t = digits_take (b ∷ bs) 0 n.0 n.1 in
    let few : n.0 < limit = (let p = g.0 in grind (arith, nat_tests, p)) in
    ((omega arith, t.0), subst (λ (m : ℕ). m < limit) (sym t.1) few, sym (same_Some _ z g.1) ∙ ap (λ (m : ℕ). pos m) (sym t.1))

integer_take_in : (limit : ℕ) (a : List ℕ) (z : ℤ) → integer_in limit a ≡ Some z → IsInteger limit z a
integer_take_in limit [] z e = absurd cc
integer_take_in limit (b ∷ bs) z e = elim (chosen (nat_eq b 45) (magnitude bs >>= negative limit) (magnitude (b ∷ bs) >>= positive limit) (Some z) e) [
  | inl c ↦ (let t = minus_take limit bs z c.1 in inr (bs, ap (λ (n : ℕ). n ∷ bs) (eqb-true b 45 c.0), t.0, t.1, t.2))
  | inr c ↦ inl (plain_take limit (b ∷ bs) z c.1)
]

signed_take : (a b : List ℕ) → signed_text a ≡ Some b → a ≡ b
signed_take [] b e = (utf8_takes (is_utf8 []) [] b e).1
signed_take (c ∷ cs) b e = (utf8_takes (is_utf8 (c ∷ cs)) (c ∷ cs) b (unless (nat_eq c 43) (text_in (c ∷ cs)) b e).1).1

pub integer_takes : (limit : ℕ) (a : List ℕ) (z : ℤ) → integer_of limit a ≡ Some z → IsInteger limit z a
integer_takes limit a z e =
    let b = bind_some (signed_text a) (integer_in limit) z e in
    subst (λ (x : List ℕ). IsInteger limit z x) (sym (signed_take a b.0 b.1)) (integer_take_in limit b.0 z b.2)

-- digits, perhaps behind a minus, are a text without a plus
digit_low : (b : ℕ) → digit_value b < 10 → (nat_eq b 43 ≡ false) × (nat_eq b 45 ≡ false) × (nat_eq b 44 ≡ false) × (goes_on b ≡ true)
digit_low b h =
    let r = digit_from_value b h in
    let p = r.0 in
    let q = r.1 in
    let space : nat_eq b 32 ≡ false = grind (arith, nat_tests, p) in
    let quote : nat_eq b 34 ≡ false = grind (arith, nat_tests, p) in
    (grind (arith, nat_tests, p), grind (arith, nat_tests, p), grind (arith, nat_tests, p), rw (space, quote) refl)

before : (b : ℕ) (bs : List ℕ) → b < 128 → IsAscii bs → IsAscii (b ∷ bs)
before b bs lt h zero = lt
before b bs lt h (suc i) = h i

ascii_text : (a : List ℕ) → IsAscii a → text_in a ≡ Some a
ascii_text a h = rw (is_utf8-from_IsUtf8 a (IsUtf8-from_ascii a h)) refl

digits_text : (ds : List ℕ) → IsNumeral 10 ds → signed_text ds ≡ Some ds
digits_text [] h = let none = h.0 in absurd (omega (arith, none))
digits_text (b ∷ bs) h = rw (digit_low b h.1.0).0 (ascii_text (b ∷ bs) (IsAscii-from_digits (b ∷ bs) h.1))

minus_text : (ds : List ℕ) → IsNumeral 10 ds → signed_text (45 ∷ ds) ≡ Some (45 ∷ ds)
minus_text ds h = ascii_text (45 ∷ ds) (before 45 ds (omega arith) (IsAscii-from_digits ds h.1))

plain_again : (limit : ℕ) (ds : List ℕ) (z : ℤ) → IsNumeral 10 ds → digits_value 10 ds < limit → z ≡ pos (digits_value 10 ds) → integer_in limit ds ≡ Some z
plain_again limit [] z h lt e = let none = h.0 in absurd (omega (arith, none))
plain_again limit (b ∷ bs) z h lt e =
    let few : nat_lt (digits_value 10 (b ∷ bs)) limit ≡ true = grind (arith, nat_tests, lt) in
    rw ((digit_low b h.1.0).1, digits_of b bs h.1, few) (ap Some (sym e))

minus_again : (limit : ℕ) (ds : List ℕ) (z : ℤ) → IsNumeral 10 ds → digits_value 10 ds ≤ limit → z ≡ neg_ℤ (pos (digits_value 10 ds)) → integer_in limit (45 ∷ ds) ≡ Some z
minus_again limit [] z h le e = let none = h.0 in absurd (omega (arith, none))
minus_again limit (b ∷ bs) z h le e =
    let few : nat_le (digits_value 10 (b ∷ bs)) limit ≡ true = grind (arith, nat_tests, le) in
    rw (digits_of b bs h.1, few) (ap Some (sym e))

pub integer_again : (limit : ℕ) (a : List ℕ) (z : ℤ) → IsInteger limit z a → integer_of limit a ≡ Some z
integer_again limit a z (inl h) = rw (digits_text a h.0) (plain_again limit a z h.0 h.1 h.2)
integer_again limit a z (inr h) = rw (h.1, minus_text h.0 h.2) (minus_again limit h.0 z h.2 h.3 h.4)

-- ---- what stands in a word of arguments

-- neither a space, a quote nor a comma
abbrev pub part_goes : ℕ → Bool
part_goes b = goes_on b && not (nat_eq b 44)

digits_go : (ds : List ℕ) → AllDigits 10 ds → list_all part_goes ds ≡ true
digits_go [] h = refl
digits_go (b ∷ bs) h = let l = digit_low b h.0 in rw (l.3, l.2) (digits_go bs h.1)

pub integer_goes : (limit : ℕ) (a : List ℕ) (z : ℤ) → IsInteger limit z a → list_all part_goes a ≡ true
integer_goes limit a z (inl h) = digits_go a h.0.1
integer_goes limit a z (inr h) = rw h.1 (digits_go h.0 h.2.1)

part_on : (b : ℕ) (bs : List ℕ) → list_all part_goes (b ∷ bs) ≡ true → (goes_on b ≡ true) × (nat_eq b 44 ≡ false) × (list_all part_goes bs ≡ true)
part_on b bs h =
    let p = both_true (part_goes b) (list_all part_goes bs) h in
    let q = both_true (goes_on b) (not (nat_eq b 44)) p.0 in
    (q.0, negated (nat_eq b 44) q.1, p.1)

pub word_on : (a : List ℕ) → list_all part_goes a ≡ true → list_all goes_on a ≡ true
word_on [] h = refl
word_on (b ∷ bs) h = let p = part_on b bs h in rw p.0 (word_on bs p.2)

pub joined_on : (a rest : List ℕ) → list_all part_goes a ≡ true → list_all goes_on rest ≡ true → list_all goes_on (a ++ 44 ∷ rest) ≡ true
joined_on [] rest h k = k
joined_on (b ∷ bs) rest h k = let p = part_on b bs h in rw p.0 (joined_on bs rest p.2 k)

-- ---- integers between commas

some_more : (q : List ℕ) (ps : List (List ℕ)) → each_integer (q ∷ ps) ≡ Some [] → ⊥
some_more q ps e =
    let y = bind_some (integer_of (2 ^ 31) q) (λ (y : ℤ). each_integer ps >>= λ more. Some (y ∷ more)) [] e in
    let more = bind_some (each_integer ps) (λ (more : List ℤ). Some (y.0 ∷ more)) [] y.2 in
    let clash : y.0 ∷ more.0 ≡ [] = same_Some _ _ more.2 in
    absurd cc

abbrev pub parts : List ℕ → List (List ℕ)
parts a = slice_split (λ c. c == 44) a

pub last_part : (a : List ℕ) → list_all part_goes a ≡ true → parts a ≡ a ∷ []
last_part [] h = refl
last_part (b ∷ bs) h = let p = part_on b bs h in rw (p.1, last_part bs p.2) refl

pub first_part : (a rest : List ℕ) → list_all part_goes a ≡ true → parts (a ++ 44 ∷ rest) ≡ a ∷ parts rest
first_part [] rest h = refl
first_part (b ∷ bs) rest h = let p = part_on b bs h in rw (p.1, first_part bs rest p.2) refl

behind_comma : (p rest : List ℕ) (z : ℤ) (more : List ℤ) (q : List ℕ) (ps : List (List ℕ)) → each_integer (q ∷ ps) ≡ Some more → IsInteger (2 ^ 31) z p → AreIntegers (2 ^ 31) more rest → AreIntegers (2 ^ 31) (z ∷ more) (p ++ 44 ∷ rest)
behind_comma p rest z [] q ps e h k = absurd (some_more q ps e)
behind_comma p rest z (y ∷ more) q ps e h k = (p, rest, h, k, refl)

each_take : (ps : List (List ℕ)) (zs : List ℤ) → each_integer ps ≡ Some zs → AreIntegers (2 ^ 31) zs (join_with_byte 44 ps)
each_take [] zs e = subst (λ (xs : List ℤ). AreIntegers (2 ^ 31) xs []) (same_Some [] zs e) refl
each_take (p ∷ []) zs e =
    let z = bind_some (integer_of (2 ^ 31) p) (λ (z : ℤ). each_integer [] >>= λ more. Some (z ∷ more)) zs e in
    subst (λ (xs : List ℤ). AreIntegers (2 ^ 31) xs p) (same_Some (z.0 ∷ []) zs z.2) (integer_takes (2 ^ 31) p z.0 z.1)
each_take (p ∷ q ∷ ps) zs e =
    let z = bind_some (integer_of (2 ^ 31) p) (λ (z : ℤ). each_integer (q ∷ ps) >>= λ more. Some (z ∷ more)) zs e in
    let more = bind_some (each_integer (q ∷ ps)) (λ (more : List ℤ). Some (z.0 ∷ more)) zs z.2 in
    subst (λ (xs : List ℤ). AreIntegers (2 ^ 31) xs (join_with_byte 44 (p ∷ q ∷ ps))) (same_Some (z.0 ∷ more.0) zs more.2)
    (behind_comma p (join_with_byte 44 (q ∷ ps)) z.0 more.0 q ps more.1 (integer_takes (2 ^ 31) p z.0 z.1) (each_take (q ∷ ps) more.0 more.1))

integers_take : (a : List ℕ) (zs : List ℤ) → integers_of a ≡ Some zs → AreIntegers (2 ^ 31) zs a
integers_take [] zs e = subst (λ (xs : List ℤ). AreIntegers (2 ^ 31) xs []) (same_Some [] zs e) refl
integers_take (b ∷ bs) zs e = subst (AreIntegers (2 ^ 31) zs) (join_with_byte-slice_split 44 (b ∷ bs)) (each_take (parts (b ∷ bs)) zs e)

each_again : (zs : List ℤ) (z : ℤ) (a : List ℕ) → AreIntegers (2 ^ 31) (z ∷ zs) a → (each_integer (parts a) ≡ Some (z ∷ zs)) × (list_all goes_on a ≡ true)
each_again [] z a h =
    let goes = integer_goes (2 ^ 31) a z h in
    (rw (last_part a goes, integer_again (2 ^ 31) a z h) refl, word_on a goes)
each_again (y ∷ zs) z a h =
    let goes = integer_goes (2 ^ 31) h.0 z h.2 in
    let more = each_again zs y h.1 h.3 in
    rw h.4 (rw (first_part h.0 h.1 goes, integer_again (2 ^ 31) h.0 z h.2, more.0) refl, joined_on h.0 h.1 goes more.1)

not_empty : (z : ℤ) (zs : List ℤ) → each_integer (parts []) ≡ Some (z ∷ zs) → ⊥
not_empty z zs e =
    let y = bind_some (integer_of (2 ^ 31) []) (λ (y : ℤ). each_integer [] >>= λ more. Some (y ∷ more)) (z ∷ zs) e in
    let x = (bind_some (signed_text []) (integer_in (2 ^ 31)) y.0 y.1) in
    let none : x.0 ≡ [] = sym (signed_take [] x.0 x.1) in
    let never : None ≡ Some y.0 = ap (integer_in (2 ^ 31)) (sym none) ∙ x.2 in
    none_some y.0 never

integers_again : (a : List ℕ) (zs : List ℤ) → AreIntegers (2 ^ 31) zs a → (integers_of a ≡ Some zs) × (list_all goes_on a ≡ true)
integers_again a [] h = rw h (refl, refl)
integers_again [] (z ∷ zs) h = absurd (not_empty z zs (each_again zs z [] h).0)
integers_again (b ∷ bs) (z ∷ zs) h = each_again zs z (b ∷ bs) h

-- ---- words

behind_takes : (front word rest : List ℕ) → behind front word ≡ Some rest → word ≡ front ++ rest
behind_takes front word rest e =
    let g = guarded (bytes_eq (take (length front) word) front) (Some (drop (length front) word)) rest e in
    let same : take (length front) word ≡ front = bytes_eq-is (take (length front) word) front g.0 in
    sym (take-append-drop (length front) word) ∙ ap (λ (x : List ℕ). x ++ drop (length front) word) same ∙ ap (λ (x : List ℕ). front ++ x) (same_Some _ rest g.1)

begun_next : (k : BareWord) (o : Option (List ℕ)) (others : Option (BareWord × List ℕ)) (w : List ℕ) (x : BareWord × List ℕ) → behind (bare_spelling k) w ≡ o
    → (others ≡ Some x → w ≡ bare_spelling x.0 ++ x.1) → begun_by k o others ≡ Some x → w ≡ bare_spelling x.0 ++ x.1
begun_next k None others w x is h e = h e
begun_next k (Some rest) others w x is h e = subst (λ (y : BareWord × List ℕ). w ≡ bare_spelling y.0 ++ y.1) (same_Some (k, rest) x e) (behind_takes (bare_spelling k) w rest is)

begun_takes : (ks : List BareWord) (w : List ℕ) (x : BareWord × List ℕ) → begun ks w ≡ Some x → w ≡ bare_spelling x.0 ++ x.1
begun_takes [] w x e = absurd cc
begun_takes (k ∷ ks) w x e = begun_next k (behind (bare_spelling k) w) (begun ks w) w x refl (begun_takes ks w x) e

begun_again : (k : BareWord) (d : List ℕ) → begun all_bare_words (bare_spelling k ++ d) ≡ Some (k, d)
begun_again bare_words.Null d = refl
begun_again bare_words.Bool d = refl
begun_again bare_words.Int2 d = refl
begun_again bare_words.Int4 d = refl
begun_again bare_words.Int8 d = refl
begun_again bare_words.Oid d = refl
begun_again bare_words.Int4s d = refl

-- what is read behind a word
found : {A : Type 0} (o : Option A) (make : A → Bare) (w : List ℕ) (b : Bare) → ((x : A) → o ≡ Some x → SpellsBare (make x) w) → (o >>= λ x. Some (make x)) ≡ Some b → SpellsBare b w
found o make w b h e =
    let x = bind_some o (λ x. Some (make x)) b e in
    subst (λ (c : Bare). SpellsBare c w) (same_Some (make x.0) b x.2) (h x.0 x.1)

bool_take : (d : List ℕ) (x : Bool) → bool_of d ≡ Some x → SpellsBare (bare.Bool x) (codes "bool:" ++ d)
bool_take [] x e = absurd cc
bool_take (c ∷ []) x e = elim (chosen (nat_eq c 116) (Some true) _ (Some x) e) [
  | inl p ↦ subst (λ (y : Bool). SpellsBare (bare.Bool y) (codes "bool:" ++ c ∷ [])) (same_Some true x p.1) (ap (λ (n : ℕ). codes "bool:" ++ n ∷ []) (eqb-true c 116 p.0))
  | inr p ↦
      let g = guarded (nat_eq c 102) (Some false) x p.1 in
      subst (λ (y : Bool). SpellsBare (bare.Bool y) (codes "bool:" ++ c ∷ [])) (same_Some false x g.1) (ap (λ (n : ℕ). codes "bool:" ++ n ∷ []) (eqb-true c 102 g.0))
]
bool_take (c ∷ d ∷ more) x e = absurd cc

with_takes : (k : BareWord) (d : List ℕ) (b : Bare) → bare_with k d ≡ Some b → SpellsBare b (bare_spelling k ++ d)
with_takes bare_words.Null d b e = found (number_of d) (λ n. bare.Null n) _ b (λ n h. (d, refl, number_of-takes d n h)) e
with_takes bare_words.Bool d b e = found (bool_of d) (λ x. bare.Bool x) _ b (λ x h. bool_take d x h) e
with_takes bare_words.Int2 d b e = found (integer_of (2 ^ 15) d) (λ z. bare.Int2 z) _ b (λ z h. (d, refl, integer_takes (2 ^ 15) d z h)) e
with_takes bare_words.Int4 d b e = found (integer_of (2 ^ 31) d) (λ z. bare.Int4 z) _ b (λ z h. (d, refl, integer_takes (2 ^ 31) d z h)) e
with_takes bare_words.Int8 d b e = found (integer_of (2 ^ 63) d) (λ z. bare.Int8 z) _ b (λ z h. (d, refl, integer_takes (2 ^ 63) d z h)) e
with_takes bare_words.Oid d b e = found (number_of d) (λ n. bare.Oid n) _ b (λ n h. (d, refl, number_of-takes d n h)) e
with_takes bare_words.Int4s d b e = found (integers_of d) (λ zs. bare.Int4s zs) _ b (λ zs h. (d, refl, integers_take d zs h)) e

pub bare_takes : (w : List ℕ) (b : Bare) → bare_of w ≡ Some b → SpellsBare b w
unfolding bare_of
bare_takes w b e =
    let x = bind_some (begun all_bare_words w) (λ (x : BareWord × List ℕ). bare_with x.0 x.1) b e in
    subst (SpellsBare b) (sym (begun_takes all_bare_words w x.0 x.1)) (with_takes x.0.0 x.0.1 b x.2)

-- ---- and back

-- a word, and what stands behind it
record IsBareWord (b : Bare) (w : List ℕ) : Type 0 where
  pub word : BareWord
  pub rest : List ℕ
  pub is : w ≡ bare_spelling word ++ rest
  pub read : bare_with word rest ≡ Some b
  pub goes : list_all goes_on rest ≡ true

number_goes : (n : ℕ) (d : List ℕ) → IsNumber n d → list_all goes_on d ≡ true
number_goes n d h = word_on d (digits_go d h.0.1)

bare_word : (b : Bare) (w : List ℕ) → SpellsBare b w → IsBareWord b w
bare_word (bare.Null n) w h = record { word = bare_words.Null; rest = h.0; is = h.1; read = rw (number_of-again h.0 n h.2) refl; goes = number_goes n h.0 h.2 }
bare_word (bare.Bool true) w h = record { word = bare_words.Bool; rest = 116 ∷ []; is = h; read = refl; goes = refl }
bare_word (bare.Bool false) w h = record { word = bare_words.Bool; rest = 102 ∷ []; is = h; read = refl; goes = refl }
bare_word (bare.Int2 z) w h = record { word = bare_words.Int2; rest = h.0; is = h.1; read = rw (integer_again (2 ^ 15) h.0 z h.2) refl; goes = word_on h.0 (integer_goes (2 ^ 15) h.0 z h.2) }
bare_word (bare.Int4 z) w h = record { word = bare_words.Int4; rest = h.0; is = h.1; read = rw (integer_again (2 ^ 31) h.0 z h.2) refl; goes = word_on h.0 (integer_goes (2 ^ 31) h.0 z h.2) }
bare_word (bare.Int8 z) w h = record { word = bare_words.Int8; rest = h.0; is = h.1; read = rw (integer_again (2 ^ 63) h.0 z h.2) refl; goes = word_on h.0 (integer_goes (2 ^ 63) h.0 z h.2) }
bare_word (bare.Oid n) w h = record { word = bare_words.Oid; rest = h.0; is = h.1; read = rw (number_of-again h.0 n h.2) refl; goes = number_goes n h.0 h.2 }
bare_word (bare.Int4s zs) w h =
    let i = integers_again h.0 zs h.2 in
    record { word = bare_words.Int4s; rest = h.0; is = h.1; read = rw i.0 refl; goes = i.1 }

pub bare_again : (b : Bare) (w : List ℕ) → SpellsBare b w → bare_of w ≡ Some b
unfolding bare_of
bare_again b w h =
    let f = bare_word b w h in
    ap (λ (x : List ℕ). begun all_bare_words x >>= λ y. bare_with y.0 y.1) f.is ∙ rw (begun_again f.word f.rest) f.read

-- one word, which neither a word of the script nor the name of a mode is
pub bare_is_word : (b : Bare) (w : List ℕ) → SpellsBare b w → is_one_word w ≡ true
bare_is_word b w h = let f = bare_word b w h in rw f.is (by f.word f.rest f.goes)
  where
    by : (k : BareWord) (d : List ℕ) → list_all goes_on d ≡ true → is_one_word (bare_spelling k ++ d) ≡ true
    by bare_words.Null d e = e
    by bare_words.Bool d e = e
    by bare_words.Int2 d e = e
    by bare_words.Int4 d e = e
    by bare_words.Int8 d e = e
    by bare_words.Oid d e = e
    by bare_words.Int4s d e = e

-- nor does it begin as a key
pub bare_begins : (b : Bare) (w : List ℕ) → SpellsBare b w → begins_key w ≡ false
bare_begins b w h = let f = bare_word b w h in rw f.is (by f.word f.rest)
  where
    by : (k : BareWord) (d : List ℕ) → begins_key (bare_spelling k ++ d) ≡ false
    by bare_words.Null d = refl
    by bare_words.Bool d = refl
    by bare_words.Int2 d = refl
    by bare_words.Int4 d = refl
    by bare_words.Int8 d = refl
    by bare_words.Oid d = refl
    by bare_words.Int4s d = refl

pub bare_begun : (b : Bare) (w : List ℕ) → SpellsBare b w → begun all_bare_words w ≡ None → ⊥
bare_begun b w h e =
    let f = bare_word b w h in
    let some : begun all_bare_words w ≡ Some (f.word, f.rest) = ap (begun all_bare_words) f.is ∙ begun_again f.word f.rest in
    none_some (f.word, f.rest) (sym e ∙ some)

pub bare_no_mode : (b : Bare) (w : List ℕ) (m : PgSslMode) → SpellsBare b w → ssl_mode_from w ≡ Some m → ⊥
bare_no_mode b w m h e = let f = bare_word b w h in no_mode f.word f.rest m (ap ssl_mode_from (sym f.is) ∙ e)
