-- What the calls with a query run: the tokens that are read are those of the grammar.
use Rattle.std.proofs.Common.{ℕ, zero, suc, ◌≡◌, ◌+◌, ◌<◌, ◌≤◌, ◌∷◌, ◌++◌, [], List, Option, Some, None, Bool, true, false, length, refl, sym, ap, ◌∙◌, subst, append_assoc, arith}
use Rattle.std.specs.Prelude.{◌&&◌, not}
use Rattle.std.specs.List.{AllByRecursion}
use Rattle.std.specs.Str.{is_utf8}
use Rattle.std.proofs.lemmas.List.{length-append}
use Rattle.std.proofs.lemmas.Option.{same_Some}
use Rattle.pg_request.specs.Queries.{QueryText}
use Rattle.pg_script.specs.declared.argument.Argument.{Argument}
use Rattle.pg_script.specs.declared.argument.Argument.TheVariants as given
use Rattle.pg_script.specs.declared.token.Token.{Token}
use Rattle.pg_script.specs.declared.token.Token.TheVariants.{Space, Word, Bare, Text}
use Rattle.pg_script.specs.declared.token.Keyword.TheVariants as words
use Rattle.pg_script.specs.declared.error.LineError.{LineError}
use Rattle.pg_script.specs.declared.error.LineError.TheVariants as errors
use Rattle.pg_script.specs.Reading.{◌>>=◌, Fails}
use Rattle.pg_script.specs.Arguments.{text_in}
use Rattle.pg_script.specs.Given.{given_query}
use Rattle.pg_script.specs.Asking.{in_front, comma_text, more_texts, texts_at, argument_at, arguments_up_to, arguments_in, given_arg}
use Rattle.pg_script.specs.Grammar.{comma_tokens, text_tokens, argument_tokens, arguments_tokens, IsUnicode, ArgumentFits}
use Rattle.pg_script.proofs.Found.{bind_some, utf8_takes}
use Rattle.pg_script.proofs.Apart.{is_word, apart}

-- ---- texts

abbrev Texts : Type 0
Texts = List (List ℕ) × List Token

pub unicode : (s t : List ℕ) → text_in s ≡ Some t → IsUnicode t × (s ≡ t)
unicode s t e = let u = utf8_takes (is_utf8 s) s t e in (subst IsUnicode u.1 u.0, u.1)

more_take : (ts : List Token) (x : Texts) → more_texts ts ≡ Some x → (ts ≡ comma_tokens x.0 ++ x.1) × AllByRecursion IsUnicode x.0
more_take (Word words.Comma ∷ Text s ∷ rest) x e =
    let t = bind_some (text_in s) (λ (t : List ℕ). in_front (t ∷ []) (more_texts rest)) x e in
    let more = bind_some (more_texts rest) (λ (more : Texts). Some (t.0 ∷ more.0, more.1)) x t.2 in
    let u = unicode s t.0 t.1 in
    let h = more_take rest more.0 more.1 in
    subst (λ (y : Texts). (Word words.Comma ∷ Text s ∷ rest ≡ comma_tokens y.0 ++ y.1) × AllByRecursion IsUnicode y.0) (same_Some (t.0 ∷ more.0.0, more.0.1) x more.2)
    (ap (λ (v : List ℕ). Word words.Comma ∷ Text v ∷ rest) u.1 ∙ ap (λ (us : List Token). Word words.Comma ∷ Text t.0 ∷ us) h.0, (u.0, h.1))
more_take ts x e = subst (λ (y : Texts). (ts ≡ comma_tokens y.0 ++ y.1) × AllByRecursion IsUnicode y.0) (same_Some ([], ts) x e) (refl, tt)

texts_take : (ts : List Token) (x : Texts) → texts_at ts ≡ Some x → (ts ≡ text_tokens x.0 ++ x.1) × AllByRecursion IsUnicode x.0
texts_take (Text s ∷ rest) x e =
    let t = bind_some (text_in s) (λ (t : List ℕ). in_front (t ∷ []) (more_texts rest)) x e in
    let more = bind_some (more_texts rest) (λ (more : Texts). Some (t.0 ∷ more.0, more.1)) x t.2 in
    let u = unicode s t.0 t.1 in
    let h = more_take rest more.0 more.1 in
    subst (λ (y : Texts). (Text s ∷ rest ≡ text_tokens y.0 ++ y.1) × AllByRecursion IsUnicode y.0) (same_Some (t.0 ∷ more.0.0, more.0.1) x more.2)
    (ap (λ (v : List ℕ). Text v ∷ rest) u.1 ∙ ap (λ (us : List Token). Text t.0 ∷ us) h.0, (u.0, h.1))
texts_take ts x e = subst (λ (y : Texts). (ts ≡ text_tokens y.0 ++ y.1) × AllByRecursion IsUnicode y.0) (same_Some ([], ts) x e) (refl, tt)

-- ---- arguments

abbrev Taken : List Token → Argument × List Token → Type 0
Taken ts x = (ts ≡ Space ∷ argument_tokens x.0 ++ x.1) × ArgumentFits x.0

argument_takes : (ts : List Token) (x : Argument × List Token) → argument_at ts ≡ Some x → Taken ts x
argument_takes (Space ∷ Bare b ∷ rest) x e = subst (Taken (Space ∷ Bare b ∷ rest)) (same_Some (given.Bare b, rest) x e) (refl, tt)
argument_takes (Space ∷ Word words.Text ∷ Text s ∷ rest) x e =
    let t = bind_some (text_in s) (λ (t : List ℕ). Some (given.Text t, rest)) x e in
    let u = unicode s t.0 t.1 in
    subst (Taken (Space ∷ Word words.Text ∷ Text s ∷ rest)) (same_Some (given.Text t.0, rest) x t.2) (ap (λ (v : List ℕ). Space ∷ Word words.Text ∷ Text v ∷ rest) u.1, u.0)
argument_takes (Space ∷ Word words.Bytea ∷ Text s ∷ rest) x e = subst (Taken (Space ∷ Word words.Bytea ∷ Text s ∷ rest)) (same_Some (given.Bytea s, rest) x e) (refl, tt)
argument_takes (Space ∷ Word words.Named ∷ Text n ∷ Word words.Colon ∷ Text s ∷ rest) x e =
    let t = bind_some (text_in n) (λ (t : List ℕ). Some (given.Named t s, rest)) x e in
    let u = unicode n t.0 t.1 in
    subst (Taken (Space ∷ Word words.Named ∷ Text n ∷ Word words.Colon ∷ Text s ∷ rest)) (same_Some (given.Named t.0 s, rest) x t.2) (ap (λ (v : List ℕ). Space ∷ Word words.Named ∷ Text v ∷ Word words.Colon ∷ Text s ∷ rest) u.1, u.0)
argument_takes (Space ∷ Word words.Texts ∷ rest) x e =
    let t = bind_some (texts_at rest) (λ (y : Texts). Some (given.Texts y.0, y.1)) x e in
    let h = texts_take rest t.0 t.1 in
    subst (Taken (Space ∷ Word words.Texts ∷ rest)) (same_Some (given.Texts t.0.0, t.0.1) x t.2) (ap (λ (us : List Token). Space ∷ Word words.Texts ∷ us) h.0, h.1)
argument_takes _ x e = absurd cc

arguments_take : (n : ℕ) (ts : List Token) (all : List Argument) → arguments_up_to n ts ≡ Some all → (ts ≡ arguments_tokens all) × AllByRecursion ArgumentFits all
arguments_take n [] all e = subst (λ (xs : List Argument). ([] ≡ arguments_tokens xs) × AllByRecursion ArgumentFits xs) (same_Some [] all e) (refl, tt)
arguments_take zero (t ∷ ts) all e = absurd cc
arguments_take (suc n) (t ∷ ts) all e =
    let first = bind_some (argument_at (t ∷ ts)) (λ (first : Argument × List Token). arguments_up_to n first.1 >>= λ others. Some (first.0 ∷ others)) all e in
    let others = bind_some (arguments_up_to n first.0.1) (λ (others : List Argument). Some (first.0.0 ∷ others)) all first.2 in
    let one = argument_takes (t ∷ ts) first.0 first.1 in
    let more = arguments_take n first.0.1 others.0 others.1 in
    subst (λ (xs : List Argument). (t ∷ ts ≡ arguments_tokens xs) × AllByRecursion ArgumentFits xs) (same_Some (first.0.0 ∷ others.0) all others.2)
    (one.0 ∙ ap (λ (us : List Token). Space ∷ argument_tokens first.0.0 ++ us) more.0, (one.1, more.1))

-- a query with arguments has its tokens
pub record IsGiven (persistent : Bool) (ts : List Token) (q : QueryText) : Type 0 where
  pub sql : List ℕ
  pub arguments : List Argument
  pub is : ts ≡ Space ∷ Text sql ∷ arguments_tokens arguments
  pub unicode : IsUnicode sql
  pub fit : AllByRecursion ArgumentFits arguments
  pub query : given_query persistent sql arguments ≡ Some q

pub given_takes : (persistent : Bool) (ts : List Token) (q : QueryText) → given_arg persistent ts ≡ Some q → IsGiven persistent ts q
given_takes persistent (Space ∷ Text s ∷ rest) q e =
    let sql = bind_some (text_in s) (λ (sql : List ℕ). arguments_in rest >>= λ all. given_query persistent sql all) q e in
    let all = bind_some (arguments_in rest) (λ (all : List Argument). given_query persistent sql.0 all) q sql.2 in
    let u = unicode s sql.0 sql.1 in
    let t = arguments_take (length rest) rest all.0 all.1 in
    record { sql = sql.0; arguments = all.0; is = ap (λ (v : List ℕ). Space ∷ Text v ∷ rest) u.1 ∙ ap (λ (us : List Token). Space ∷ Text sql.0 ∷ us) t.0; unicode = u.0; fit = t.1; query = all.2 }
given_takes persistent _ q e = absurd cc

-- ---- the turns of a loop

in_front_once : (front : List (List ℕ)) (t : List ℕ) (o : Option Texts) → in_front (front ++ t ∷ []) o ≡ in_front front (in_front (t ∷ []) o)
in_front_once front t None = refl
in_front_once front t (Some x) = ap (λ (ts : List (List ℕ)). Some (ts, x.1)) (append_assoc front (t ∷ []) x.0)

pub texts_next : (front : List (List ℕ)) (ts : List Token) (x : List ℕ × List Token) (t : List ℕ) (total : Option Texts) → comma_text ts ≡ Some x → text_in x.0 ≡ Some t → in_front front (more_texts ts) ≡ total → in_front (front ++ t ∷ []) (more_texts x.1) ≡ total
texts_next front (Word words.Comma ∷ Text s ∷ rest) x t total e u so_far =
    let is : (s, rest) ≡ x = same_Some (s, rest) x e in
    let u' : text_in s ≡ Some t = ap (λ (y : List ℕ × List Token). text_in y.0) is ∙ u in
    ap (λ (y : List ℕ × List Token). in_front (front ++ t ∷ []) (more_texts y.1)) (sym is) ∙ in_front_once front t (more_texts rest) ∙ (rw u' at so_far)
texts_next front _ x t total e u so_far = absurd cc

pub argument_shorter : (ts : List Token) (x : Argument × List Token) → argument_at ts ≡ Some x → length x.1 < length ts
argument_shorter ts x e =
    let t = argument_takes ts x e in
    omega (arith, ap length t.0, length-append (argument_tokens x.0) x.1)

abbrev with_front : List Argument → Option (List Argument) → Option (List Argument)
with_front front o = o >>= λ more. Some (front ++ more)

behind_one : (front : List Argument) (a : Argument) (o : Option (List Argument)) → with_front (front ++ a ∷ []) o ≡ with_front front (o >>= λ others. Some (a ∷ others))
behind_one front a None = refl
behind_one front a (Some more) = ap Some (append_assoc front (a ∷ []) more)

pub arguments_next : (n m : ℕ) (front : List Argument) (ts : List Token) (x : Argument × List Token) (total : Option (List Argument)) → n ≡ m + 1 → argument_at ts ≡ Some x → with_front front (arguments_up_to n ts) ≡ total → with_front (front ++ x.0 ∷ []) (arguments_up_to m x.1) ≡ total
arguments_next n m front [] x total k e so_far = absurd cc
arguments_next n m front (t ∷ ts) x total k e so_far =
    let next : n ≡ suc m = omega (arith, k) in
    let step : arguments_up_to n (t ∷ ts) ≡ (arguments_up_to m x.1 >>= λ others. Some (x.0 ∷ others)) = rw (next, e) refl in
    behind_one front x.0 (arguments_up_to m x.1) ∙ ap (with_front front) (sym step) ∙ so_far

pub arguments_fail : (error : LineError) (n : ℕ) (front : List Argument) (ts : List Token) (total : Option (List Argument)) → 0 < length ts → length ts ≤ n → Fails error (argument_at ts) → with_front front (arguments_up_to n ts) ≡ total → Fails error total
arguments_fail errors.OutOfMemory n front ts total some le f so_far = tt
arguments_fail errors.Bad n front [] total some le f so_far = absurd (omega (arith, some))
arguments_fail errors.Bad zero front (t ∷ ts) total some le f so_far = absurd (omega (arith, le))
arguments_fail errors.Bad (suc n) front (t ∷ ts) total some le f so_far = sym so_far ∙ rw f refl

-- ---- and back

-- nothing, or tokens that begin with a space
abbrev Parted : List Token → Type 0
Parted [] = Unit {0}
Parted (Space ∷ ts) = Unit {0}
Parted _ = ⊥

parted : (all : List Argument) → Parted (arguments_tokens all)
parted [] = tt
parted (a ∷ more) = tt

more_again : (texts : List (List ℕ)) (rest : List Token) → AllByRecursion IsUnicode texts → Parted rest → more_texts (comma_tokens texts ++ rest) ≡ Some (texts, rest)
more_again [] [] f p = refl
more_again [] (Space ∷ rest) f p = refl
more_again [] (t ∷ rest) f p = absurd p
more_again (s ∷ texts) rest f p = rw (f.0, more_again texts rest f.1 p) refl

texts_again : (texts : List (List ℕ)) (rest : List Token) → AllByRecursion IsUnicode texts → Parted rest → texts_at (text_tokens texts ++ rest) ≡ Some (texts, rest)
texts_again [] [] f p = refl
texts_again [] (Space ∷ rest) f p = refl
texts_again [] (t ∷ rest) f p = absurd p
texts_again (s ∷ texts) rest f p = rw (f.0, more_again texts rest f.1 p) refl

argument_again : (a : Argument) (rest : List Token) → ArgumentFits a → Parted rest → argument_at (Space ∷ argument_tokens a ++ rest) ≡ Some (a, rest)
argument_again (given.Bare b) rest f p = refl
argument_again (given.Text s) rest f p = rw f refl
argument_again (given.Bytea s) rest f p = refl
argument_again (given.Named name image) rest f p = rw f refl
argument_again (given.Texts texts) rest f p = rw (texts_again texts rest f p) refl

up_to_again : (n : ℕ) (all : List Argument) → AllByRecursion ArgumentFits all → length all ≤ n → arguments_up_to n (arguments_tokens all) ≡ Some all
up_to_again n [] f le = refl
up_to_again zero (a ∷ more) f le = absurd (omega (arith, le))
up_to_again (suc n) (a ∷ more) f le = rw (argument_again a (arguments_tokens more) f.0 (parted more), up_to_again n more f.1 (omega (arith, le))) refl

as_many : (all : List Argument) → length all ≤ length (arguments_tokens all)
as_many [] = omega arith
as_many (a ∷ more) = omega (arith, as_many more, length-append (argument_tokens a) (arguments_tokens more))

pub given_again : (persistent : Bool) (sql : List ℕ) (all : List Argument) → IsUnicode sql → AllByRecursion ArgumentFits all → given_arg persistent (Space ∷ Text sql ∷ arguments_tokens all) ≡ given_query persistent sql all
given_again persistent sql all u f = rw (u, up_to_again (length (arguments_tokens all)) all f (as_many all)) refl

-- ---- no two words stand side by side

pub spaced : (b : Bool) (x : Bool) → (not (b && false) && x) ≡ x
spaced true x = refl
spaced false x = refl

texts_apart : (s : List ℕ) (texts : List (List ℕ)) (rest : List Token) → ((t : Token) → apart (t ∷ rest) ≡ true) → apart (Text s ∷ comma_tokens texts ++ rest) ≡ true
texts_apart s [] rest h = h (Text s)
texts_apart s (u ∷ texts) rest h = texts_apart u texts rest h

pub arguments_apart : (t : Token) (all : List Argument) → apart (t ∷ arguments_tokens all) ≡ true
arguments_apart t [] = refl
arguments_apart t (given.Bare b ∷ more) = spaced (is_word t) _ ∙ arguments_apart (Bare b) more
arguments_apart t (given.Text s ∷ more) = spaced (is_word t) _ ∙ arguments_apart (Text s) more
arguments_apart t (given.Bytea s ∷ more) = spaced (is_word t) _ ∙ arguments_apart (Text s) more
arguments_apart t (given.Named name image ∷ more) = spaced (is_word t) _ ∙ arguments_apart (Text image) more
arguments_apart t (given.Texts [] ∷ more) = spaced (is_word t) _ ∙ arguments_apart (Word words.Texts) more
arguments_apart t (given.Texts (s ∷ texts) ∷ more) = spaced (is_word t) _ ∙ texts_apart s texts (arguments_tokens more) (λ u. arguments_apart u more)
