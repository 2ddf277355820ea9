-- Whole scripts: what is read is in the grammar, and what is in the grammar is read.
use Rattle.std.proofs.Common.{ℕ, ◌≡◌, ◌+◌, ◌∷◌, ◌++◌, [], List, Option, Some, None, Result, Ok, Err, Bool, true, false, cond, nat_eq, nat_lt, length, refl, sym, ap, ◌∙◌, subst, arith, inl, inr}
use Rattle.std.specs.Prelude.{pos, negsuc}
use Rattle.std.specs.Str.{is_utf8}
use Rattle.std.proofs.lemmas.Bool.{eqb-true}
use Rattle.std.proofs.lemmas.Bool.Decides.{nat_tests}
use Rattle.pg_script.specs.declared.token.Token.{Token}
use Rattle.pg_script.specs.declared.token.Token.TheVariants.{Word}
use Rattle.pg_script.specs.declared.token.Keyword.{Keyword}
use Rattle.pg_script.specs.declared.line.Line.{Line}
use Rattle.pg_script.specs.declared.line.Line.TheVariants as lines
use Rattle.pg_script.specs.declared.kind.Kind.{Kind}
use Rattle.pg_script.specs.declared.script.Script.{Script}
use Rattle.pg_script.specs.declared.error.ReadError.{ReadError}
use Rattle.pg_script.specs.declared.error.ReadError.TheVariants as errors
use Rattle.pg_script.specs.Reading.{◌>>=◌}
use Rattle.pg_script.specs.Words.{spelling_of}
use Rattle.pg_script.specs.Lexing.{tokens_in}
use Rattle.pg_script.specs.Lines.{line_from, line_in}
use Rattle.pg_script.specs.Scripts.{add_allowed, add_line, empty_script, lines_of, read_from, read_next, read_text, ReadsAs}
use Rattle.pg_script.specs.Grammar.{Asked, tokens_of, LineFits, SpellsAll, SpellsLine, AreLines, Adds, FirstBad, IsScript, IsBadLine, SaysOf, ReadsOf, RefusesOf}
use Rattle.pg_script.proofs.Apart.{apart}
use Rattle.pg_script.proofs.WordLaws.{word_law}
use Rattle.pg_script.proofs.GrammarLaws.{call_again, from_takes, from_again}
use Rattle.pg_script.proofs.Found.{bind_some}
use Rattle.pg_script.proofs.SpellingLaws.{none_some}
use Rattle.pg_script.proofs.LexerTakes.{lexer_takes}
use Rattle.pg_script.proofs.LexerAgain.{HasHead, word_head, lexer_again}
use Rattle.pg_script.proofs.LineLaws.{lines_are, lines_again}
use Rattle.pg_wire.proofs.Tests.{chosen}
use Rattle.std.proofs.lemmas.Option.{same_Some}

-- ---- one line

spells : (asked : Asked) (l : Line) (a : List ℕ) → LineFits asked l → SpellsAll (tokens_of asked l) a → SpellsLine l a
spells asked lines.Blank a f s = absurd f
spells asked l a f s = (asked, f, s)

tokens_take : (a : List ℕ) (l : Line) → (tokens_in a >>= line_from) ≡ Some l → SpellsLine l a
tokens_take a l e =
    let b = bind_some (tokens_in a) line_from l e in
    let t = from_takes b.0 l b.2 in
    spells t.0 l a t.2 (subst (λ (ts : List Token). SpellsAll ts a) t.1 (lexer_takes a b.0 b.1))

pub line_takes : (a : List ℕ) (l : Line) → line_in a ≡ Some l → SpellsLine l a
line_takes [] l e = subst (λ (m : Line). SpellsLine m []) (same_Some lines.Blank l e) (inl refl)
line_takes (b ∷ bs) l e = elim (chosen (nat_eq b 35) _ _ (Some l) e) [
  | inl c ↦ elim (chosen (is_utf8 (b ∷ bs)) _ _ (Some l) c.1) [
    | inl d ↦ subst (λ (m : Line). SpellsLine m (b ∷ bs)) (same_Some lines.Blank l d.1) (inr (bs, ap (λ (n : ℕ). n ∷ bs) (eqb-true b 35 c.0), d.0))
    | inr d ↦ absurd (none_some l d.1)
  ]
  | inr c ↦ tokens_take (b ∷ bs) l c.1
]

begins_in : (w y : List ℕ) → HasHead w → line_in (w ++ y) ≡ (tokens_in (w ++ y) >>= line_from)
begins_in w y h = rw h.is (rw h.no_comment refl)

begins : (k : Keyword) (y : List ℕ) → line_in (spelling_of k ++ y) ≡ (tokens_in (spelling_of k ++ y) >>= line_from)
begins k y = begins_in (spelling_of k) y (word_head (spelling_of k) (word_law k).shape)

word_again : (asked : Asked) (l : Line) (k : Keyword) (ts : List Token) (a : List ℕ) → tokens_of asked l ≡ Word k ∷ ts → LineFits asked l → apart (tokens_of asked l) ≡ true → SpellsAll (tokens_of asked l) a → line_in a ≡ Some l
word_again asked l k ts a e f p s =
    let s' : SpellsAll (Word k ∷ ts) a = subst (λ (us : List Token). SpellsAll us a) e s in
    let a-is : a ≡ spelling_of k ++ s'.1 = s'.4 ∙ ap (λ (x : List ℕ). x ++ s'.1) s'.2 in
    let whole : line_in a ≡ (tokens_in a >>= line_from) = subst (λ (x : List ℕ). line_in x ≡ (tokens_in x >>= line_from)) (sym a-is) (begins k s'.1) in
    whole ∙ ap (λ (o : Option (List Token)). o >>= line_from) (lexer_again (tokens_of asked l) a s p) ∙ from_again asked l f

comment : (a rest : List ℕ) → a ≡ 35 ∷ rest → is_utf8 a ≡ true → line_in a ≡ Some lines.Blank
comment a rest e u = let v : is_utf8 (35 ∷ rest) ≡ true = rw e at u in rw (e, v) refl

pub line_again : (l : Line) (a : List ℕ) → SpellsLine l a → line_in a ≡ Some l
line_again lines.Blank a (inl e) = rw e refl
line_again lines.Blank a (inr s) = comment a s.0 s.1 s.2
line_again (lines.Step n None c) a s = word_again s.0 (lines.Step n None c) _ _ a refl s.1 (call_again s.0 c s.1).parts s.2
line_again (lines.Step n (Some m) c) a s = word_again s.0 (lines.Step n (Some m) c) _ _ a refl s.1 (call_again s.0 c s.1).parts s.2
line_again (lines.Digits None) a s = word_again s.0 (lines.Digits None) _ _ a refl s.1 refl s.2
line_again (lines.Digits (Some (pos n))) a s = word_again s.0 (lines.Digits (Some (pos n))) _ _ a refl s.1 refl s.2
line_again (lines.Digits (Some (negsuc n))) a s = absurd s.1
line_again l a s = word_again s.0 l _ _ a refl s.1 refl s.2

-- ---- what is read

added : (kind : Kind) (s u : Script) (a : List ℕ) → add_line kind s a ≡ Some u → (l : Line) × SpellsLine l a × (add_allowed kind s l ≡ Some u)
unfolding add_line
added kind s u a e = let b = bind_some (line_in a) (add_allowed kind s) u e in (b.0, line_takes a b.0 b.1, b.2)

refused : (kind : Kind) (s : Script) (a : List ℕ) → add_line kind s a ≡ None → (l : Line) → SpellsLine l a → add_allowed kind s l ≡ None
unfolding add_line
refused kind s a e l h = let is : line_in a ≡ Some l = line_again l a h in rw is at e

all_next : (kind : Kind) (n : ℕ) (s t : Script) (l : List ℕ) (ls : List (List ℕ)) (o : Option Script) → add_line kind s l ≡ o → read_next n o (λ u. read_from kind (n + 1) u ls) ≡ Ok t
    → ((u : Script) → read_from kind (n + 1) u ls ≡ Ok t → Adds kind u ls t) → Adds kind s (l ∷ ls) t
all_next kind n s t l ls None is e h = absurd cc
all_next kind n s t l ls (Some u) is e h = let a = added kind s u l is in (a.0, u, a.1, a.2, h u e)

push_bad : (kind : Kind) (s u : Script) (l : List ℕ) (ls : List (List ℕ)) (k : ℕ) → add_line kind s l ≡ Some u → FirstBad kind u ls k → FirstBad kind s (l ∷ ls) (k + 1)
push_bad kind s u l ls k is b = let a = added kind s u l is in (l ∷ b.0, b.1, b.2, b.3, ap (λ (x : List (List ℕ)). l ∷ x) b.4, omega (arith, b.5), (a.0, u, a.1, a.2, b.6), b.7)

bad_next : (kind : Kind) (n m : ℕ) (s : Script) (l : List ℕ) (ls : List (List ℕ)) (o : Option Script) → add_line kind s l ≡ o → read_next n o (λ u. read_from kind (n + 1) u ls) ≡ Err m
    → ((u : Script) → read_from kind (n + 1) u ls ≡ Err m → (k : ℕ) × (m ≡ n + 1 + k) × FirstBad kind u ls k) → (k : ℕ) × (m ≡ n + k) × FirstBad kind s (l ∷ ls) k
bad_next kind n m s l ls None is e h = (1, cc, ([], ls, l, s, refl, omega arith, refl, refused kind s l is))
bad_next kind n m s l ls (Some u) is e h = let r = h u e in (r.0 + 1, omega (arith, r.1), push_bad kind s u l ls r.0 is r.2)

reads_all : (kind : Kind) (n : ℕ) (s t : Script) (ls : List (List ℕ)) → read_from kind n s ls ≡ Ok t → Adds kind s ls t
unfolding read_from
reads_all kind n s t [] e = cc
reads_all kind n s t (l ∷ ls) e = all_next kind n s t l ls (add_line kind s l) refl e (λ u h. reads_all kind (n + 1) u t ls h)

first_bad : (kind : Kind) (n m : ℕ) (s : Script) (ls : List (List ℕ)) → read_from kind n s ls ≡ Err m → (k : ℕ) × (m ≡ n + k) × FirstBad kind s ls k
unfolding read_from
first_bad kind n m s [] e = absurd cc
first_bad kind n m s (l ∷ ls) e = bad_next kind n m s l ls (add_line kind s l) refl e (λ u h. first_bad kind (n + 1) m u ls h)

from_zero : (kind : Kind) (n k : ℕ) (s : Script) (ls : List (List ℕ)) → n ≡ 0 + k → FirstBad kind s ls k → FirstBad kind s ls n
from_zero kind n k s ls e b = let e' : k ≡ n = omega (arith, e) in subst (FirstBad kind s ls) e' b

says_read : (kind : Kind) (r : Result Script ReadError) (text : List ℕ) (long : Bool) → nat_lt 67108864 (length text) ≡ long → ReadsAs r (cond long (Err 0) (read_from kind 0 empty_script (lines_of text))) → SaysOf kind r text
says_read kind (Err errors.OutOfMemory) text long is h = tt
says_read kind (Ok s) text true is h = absurd cc
says_read kind (Ok s) text false is h = (grind (arith, nat_tests), (lines_of text, lines_are text, reads_all kind 0 empty_script s (lines_of text) h))
says_read kind (Err (errors.BadLine n)) text true is h = inl (grind (arith, nat_tests), cc)
says_read kind (Err (errors.BadLine n)) text false is h =
    let b = first_bad kind 0 n empty_script (lines_of text) h in
    inr (grind (arith, nat_tests), (lines_of text, lines_are text, from_zero kind n b.0 empty_script (lines_of text) b.1 b.2))

pub says : (kind : Kind) (r : Result Script ReadError) (text : List ℕ) → ReadsAs r (read_text kind text) → SaysOf kind r text
says kind r text h = says_read kind r text (nat_lt 67108864 (length text)) refl h

-- ---- and back

abbrev the_ok : Script → Result Script ℕ
the_ok s = Ok s

abbrev the_err : ℕ → Result Script ℕ
the_err n = Err n

add_again : (kind : Kind) (s u : Script) (a : List ℕ) (l : Line) → SpellsLine l a → add_allowed kind s l ≡ Some u → add_line kind s a ≡ Some u
unfolding add_line
add_again kind s u a l h e = ap (λ (o : Option Line). o >>= add_allowed kind s) (line_again l a h) ∙ e

never_in : (kind : Kind) (s : Script) (a : List ℕ) (o : Option Line) → line_in a ≡ o → ((l : Line) → SpellsLine l a → add_allowed kind s l ≡ None) → (o >>= add_allowed kind s) ≡ None
never_in kind s a None is h = refl
never_in kind s a (Some l) is h = h l (line_takes a l is)

never : (kind : Kind) (s : Script) (a : List ℕ) → ((l : Line) → SpellsLine l a → add_allowed kind s l ≡ None) → add_line kind s a ≡ None
unfolding add_line
never kind s a h = never_in kind s a (line_in a) refl h

goes_on : (kind : Kind) (n : ℕ) (s u : Script) (l : List ℕ) (ls : List (List ℕ)) → add_line kind s l ≡ Some u → read_from kind n s (l ∷ ls) ≡ read_from kind (n + 1) u ls
unfolding read_from
goes_on kind n s u l ls e = ap (λ (o : Option Script). read_next n o (λ t. read_from kind (n + 1) t ls)) e

adds_again : (kind : Kind) (n : ℕ) (s t : Script) (ls : List (List ℕ)) → Adds kind s ls t → read_from kind n s ls ≡ Ok t
unfolding read_from
adds_again kind n s t [] h = ap Ok h
adds_again kind n s t (l ∷ ls) h = goes_on kind n s h.1 l ls (add_again kind s h.1 l h.0 h.2 h.3) ∙ adds_again kind (n + 1) h.1 t ls h.4

stops : (kind : Kind) (n : ℕ) (s u : Script) (bad : List ℕ) (rest : List (List ℕ)) → s ≡ u → add_line kind u bad ≡ None → read_from kind n s (bad ∷ rest) ≡ Err (n + 1)
unfolding read_from
stops kind n s u bad rest e none = ap (λ (v : Script). read_from kind n v (bad ∷ rest)) e ∙ ap (λ (o : Option Script). read_next n o (λ t. read_from kind (n + 1) t rest)) none

bad_again : (kind : Kind) (n : ℕ) (s u : Script) (front : List (List ℕ)) (bad : List ℕ) (rest : List (List ℕ)) → Adds kind s front u → add_line kind u bad ≡ None → read_from kind n s (front ++ bad ∷ rest) ≡ Err (n + (length front + 1))
bad_again kind n s u [] bad rest h none = stops kind n s u bad rest h none
bad_again kind n s u (l ∷ front) bad rest h none =
    let count : n + 1 + (length front + 1) ≡ n + (length (l ∷ front) + 1) = omega arith in
    goes_on kind n s h.1 l (front ++ bad ∷ rest) (add_again kind s h.1 l h.0 h.2 h.3) ∙ bad_again kind (n + 1) h.1 u front bad rest h.4 none ∙ ap Err count

first_again : (kind : Kind) (n : ℕ) (s : Script) (ls : List (List ℕ)) → FirstBad kind s ls n → read_from kind 0 s ls ≡ Err n
first_again kind n s ls b =
    let count : 0 + (length b.0 + 1) ≡ n = omega (arith, b.5) in
    ap (read_from kind 0 s) b.4 ∙ bad_again kind 0 s b.3 b.0 b.2 b.1 b.6 (never kind b.3 b.2 b.7) ∙ ap Err count

not_long : (kind : Kind) (text : List ℕ) (ls : List (List ℕ)) → nat_lt 67108864 (length text) ≡ false → AreLines ls text → read_text kind text ≡ read_from kind 0 empty_script ls
not_long kind text ls short are = rw short (ap (read_from kind 0 empty_script) (lines_again ls text are))

script_again : (kind : Kind) (s : Script) (text : List ℕ) → IsScript kind s text → read_text kind text ≡ Ok s
script_again kind s text h = not_long kind text h.1.0 (grind (arith, nat_tests, h.0)) h.1.1 ∙ adds_again kind 0 empty_script s h.1.0 h.1.2

bad_line_again : (kind : Kind) (n : ℕ) (text : List ℕ) → IsBadLine kind n text → read_text kind text ≡ Err n
bad_line_again kind n text (inl h) =
    let long : nat_lt 67108864 (length text) ≡ true = grind (arith, nat_tests, h.0) in
    rw long (ap Err (sym h.1))
bad_line_again kind n text (inr h) = not_long kind text h.1.0 (grind (arith, nat_tests, h.0)) h.1.1 ∙ first_again kind n empty_script h.1.0 h.1.2

ok_is : (s t : Script) → the_ok s ≡ the_ok t → s ≡ t
ok_is s t e = cc

err_is : (m n : ℕ) → the_err m ≡ the_err n → m ≡ n
err_is m n e = cc

ok_err : (s : Script) (n : ℕ) → the_ok s ≡ the_err n → ⊥
ok_err s n e = cc

pub reads : (kind : Kind) (r : Result Script ReadError) (text : List ℕ) → ReadsAs r (read_text kind text) → ReadsOf kind r text
reads kind (Ok t) text e s h = let f = script_again kind s text h in inl (ap Ok (ok_is t s (sym e ∙ f)))
reads kind (Err (errors.BadLine n)) text e s h = absurd (ok_err s n (sym (script_again kind s text h) ∙ e))
reads kind (Err errors.OutOfMemory) text e s h = inr refl

pub refuses : (kind : Kind) (r : Result Script ReadError) (text : List ℕ) → ReadsAs r (read_text kind text) → RefusesOf kind r text
refuses kind (Ok t) text e n h = absurd (ok_err t n (sym e ∙ bad_line_again kind n text h))
refuses kind (Err (errors.BadLine m)) text e n h = inl (ap (λ (k : ℕ). Err (errors.BadLine k)) (err_is m n (sym e ∙ bad_line_again kind n text h)))
refuses kind (Err errors.OutOfMemory) text e n h = inr refl
