-- What is spelled is read by the lexer.
use Rattle.std.proofs.Common.{ℕ, ◌≡◌, ◌+◌, ◌-◌, ◌*◌, ◌/◌, ◌%◌, ◌^◌, ◌∷◌, ◌++◌, [], List, Option, Some, None, Bool, true, false, cond, nat_eq, nat_lt, length, refl, sym, ap, ◌∙◌, subst, append_assoc, arith, inl, inr}
use Rattle.std.proofs.lemmas.List.{append-nil}
use Rattle.std.proofs.lemmas.Bool.Decides.{nat_tests}
use Rattle.pg_script.specs.declared.token.Token.{Token}
use Rattle.pg_script.specs.declared.token.Token.TheVariants.{Space, Word, Number, SslMode, Bare as Bareword, Key, Text}
use Rattle.pg_script.specs.declared.token.Keyword.{Keyword}
use Rattle.pg_script.specs.declared.argument.Bare.{Bare}
use Rattle.pg_script.specs.Lexing.{Mode as modes}
use Rattle.pg_options.specs.declared.ssl_mode.PgSslMode.{PgSslMode}
use Rattle.pg_options.specs.SslModes.{ssl_mode_from}
use Rattle.pg_script.specs.Reading.{◌>>=◌, run}
use Rattle.pg_script.specs.Words.{spelling_of, number_of, keyword_of, all_words, mode_of, begun, all_bare_words, token_of, digits_after, is_digit}
use Rattle.pg_script.specs.Lexing.{step, finish, tokens_in, at, lexed}
use Rattle.std.specs.Prelude.{◌&&◌, not}
use Rattle.std.specs.List.{list_all}
use Rattle.pg_script.specs.Grammar.{IsCharacter, IsText, IsNumber, IsKey, SpellsBare, SpellsToken, SpellsAll}
use Rattle.pg_script.proofs.Apart.{is_word, apart}
use Rattle.pg_script.proofs.WordLaws.{goes_on, is_one_word, word_law}
use Rattle.pg_script.proofs.LexerTakes.{first_is, mode_is}
use Rattle.pg_script.proofs.BareLaws.{bare_again, bare_is_word, bare_begins, bare_begun, bare_no_mode}
use Rattle.pg_script.proofs.KeyLaws.{key_goes, key_head, key_token}
use Rattle.pg_locks.specs.declared.key.PgAdvisoryLockKey.{PgAdvisoryLockKey}
use Rattle.pg_script.proofs.ModeLaws.{mode_word, mode_utf8}
use Rattle.pg_script.proofs.SpellingLaws.{none_some, unless, number_of-again, ordinary_tests, hex_value-again, byte_halves}
use Rattle.pg_wire.proofs.Tests.{both_true, negated, guarded}
use Rattle.pg_script.proofs.Found.{bind_some}

-- ---- texts

character : (ts : List Token) (held x y : List ℕ) (c : ℕ) → IsCharacter c x → lexed (at ts held modes.Text) (x ++ y) ≡ lexed (at ts (held ++ c ∷ []) modes.Text) y
unfolding run step
character ts held x y c (inl k) = let t = ordinary_tests c k.1 in rw (k.0, t.0, t.1, t.2) refl
character ts held x y c (inr (inl (e, inl f))) = rw (e, f) refl
character ts held x y c (inr (inl (e, inr f))) = rw (e, f) refl
character ts held x y c (inr (inr k)) =
    let b = byte_halves c k.1 in
    rw (k.0, hex_value-again (c / 16) b.0, hex_value-again (c % 16) b.1, b.2) refl

text_runs : (s : List ℕ) (ts : List Token) (held q y : List ℕ) → IsText s q → lexed (at ts held modes.Text) (q ++ y) ≡ lexed (at ts (held ++ s) modes.Text) y
text_runs [] ts held q y h = rw (h, append-nil held) refl
text_runs (c ∷ s) ts held q y h =
    ap (λ (z : List ℕ). lexed (at ts held modes.Text) z) (ap (λ (z : List ℕ). z ++ y) h.4 ∙ append_assoc h.0 h.1 y)
    ∙ character ts held h.0 (h.1 ++ y) c h.2
    ∙ text_runs s ts (held ++ c ∷ []) h.1 y h.3
    ∙ ap (λ (z : List ℕ). lexed (at ts z modes.Text) y) (append_assoc held (c ∷ []) s)

-- a whole text, behind its first quote
quoted_runs : (s : List ℕ) (ts : List Token) (q y : List ℕ) → IsText s q → lexed (at ts [] modes.Text) ((q ++ 34 ∷ []) ++ y) ≡ lexed (at (ts ++ Text s ∷ []) [] modes.Word) y
unfolding run step
quoted_runs s ts q y h = ap (λ (z : List ℕ). lexed (at ts [] modes.Text) z) (append_assoc q (34 ∷ []) y) ∙ text_runs s ts [] q (34 ∷ y) h

-- ---- words and numbers

plain_step : (ts : List Token) (held : List ℕ) (b : ℕ) (y : List ℕ) → nat_eq b 32 ≡ false → nat_eq b 34 ≡ false → lexed (at ts held modes.Word) (b ∷ y) ≡ lexed (at ts (held ++ b ∷ []) modes.Word) y
unfolding run step
plain_step ts held b y h k = rw (h, k) refl

word_runs : (w : List ℕ) (ts : List Token) (held y : List ℕ) → list_all goes_on w ≡ true → lexed (at ts held modes.Word) (w ++ y) ≡ lexed (at ts (held ++ w) modes.Word) y
word_runs [] ts held y e = ap (λ (z : List ℕ). lexed (at ts z modes.Word) y) (sym (append-nil held))
word_runs (b ∷ w) ts held y e =
    let d = both_true (goes_on b) (list_all goes_on w) e in
    let k = both_true (not (nat_eq b 32)) (not (nat_eq b 34)) d.0 in
    plain_step ts held b (w ++ y) (negated (nat_eq b 32) k.0) (negated (nat_eq b 34) k.1) ∙ word_runs w ts (held ++ b ∷ []) y d.1 ∙ ap (λ (z : List ℕ). lexed (at ts z modes.Word) y) (append_assoc held (b ∷ []) w)

-- a word has a first byte, which is no digit and begins no comment
pub record HasHead (w : List ℕ) : Type 0 where
  pub head : ℕ
  pub rest : List ℕ
  pub is : w ≡ head ∷ rest
  pub no_digit : is_digit head ≡ false
  pub no_comment : nat_eq head 35 ≡ false
  pub goes : list_all goes_on w ≡ true

pub word_head : (w : List ℕ) → is_one_word w ≡ true → HasHead w
word_head [] e = absurd cc
word_head (b ∷ bs) e =
    let d = both_true (not (is_digit b)) (not (nat_eq b 35) && list_all goes_on (b ∷ bs)) e in
    let c = both_true (not (nat_eq b 35)) (list_all goes_on (b ∷ bs)) d.1 in
    record { head = b; rest = bs; is = refl; no_digit = negated (is_digit b) d.0; no_comment = negated (nat_eq b 35) c.0; goes = c.1 }

no_number_in : (b : ℕ) (bs : List ℕ) → is_digit b ≡ false → number_of (b ∷ bs) ≡ None
no_number_in b bs e = rw e (elim (nat_lt 9 (length bs)) as (λ (long : Bool). cond {A = Option ℕ} long None None ≡ None) [ true ↦ refl | false ↦ refl ])

no_number : (w : List ℕ) → HasHead w → number_of w ≡ None
no_number w h = ap number_of h.is ∙ no_number_in h.head h.rest h.no_digit

word_token : (k : Keyword) → token_of (spelling_of k) ≡ Some (Word k)
unfolding token_of
word_token k =
    let l = word_law k in
    rw (no_number (spelling_of k) (word_head (spelling_of k) l.shape), l.read) refl

digit_step : (b n : ℕ) (bs : List ℕ) (m : ℕ) → cond (is_digit b) (digits_after n bs) None ≡ Some m → (is_digit b ≡ true) × (digits_after n bs ≡ Some m)
digit_step b n bs m e = guarded (is_digit b) (digits_after n bs) m e

digit_goes : (b : ℕ) → is_digit b ≡ true → goes_on b ≡ true
digit_goes b h =
    let space : nat_eq b 32 ≡ false = grind (arith, nat_tests) in
    let quote : nat_eq b 34 ≡ false = grind (arith, nat_tests) in
    rw (space, quote) refl

digits_go : (w : List ℕ) (n m : ℕ) → digits_after n w ≡ Some m → list_all goes_on w ≡ true
digits_go [] n m e = refl
digits_go (b ∷ w) n m e =
    let d = digit_step b (n * 10 + (b - 48)) w m e in
    rw (digit_goes b d.0) (digits_go w (n * 10 + (b - 48)) m d.1)

number_shape : (w : List ℕ) (n : ℕ) → number_of w ≡ Some n → (b : ℕ) × (bs : List ℕ) × (w ≡ b ∷ bs) × ((m : ℕ) × (digits_after 0 w ≡ Some m))
number_shape [] n e = absurd cc
number_shape (b ∷ bs) n e =
    let g = unless (nat_lt 9 (length bs)) (digits_after 0 (b ∷ bs) >>= λ n. cond (nat_lt n (2 ^ 32)) (Some n) None) n e in
    let d = bind_some (digits_after 0 (b ∷ bs)) (λ n. cond (nat_lt n (2 ^ 32)) (Some n) None) n g.1 in
    (b, bs, refl, (d.0, d.1))

number_token : (w : List ℕ) (n : ℕ) → number_of w ≡ Some n → token_of w ≡ Some (Number n)
unfolding token_of
number_token w n e = rw e refl

no_keyword_in : (w : List ℕ) (m : PgSslMode) (o : Option Keyword) → keyword_of w ≡ o → ssl_mode_from w ≡ Some m → o ≡ None
unfolding keyword_of
no_keyword_in w m None is e = refl
no_keyword_in w m (Some k) is e = absurd (none_some m (sym (ap ssl_mode_from (first_is all_words w k is) ∙ (word_law k).no_mode) ∙ e))

mode_token : (w : List ℕ) (m : PgSslMode) → ssl_mode_from w ≡ Some m → token_of w ≡ Some (SslMode m)
unfolding token_of
mode_token w m e = rw (no_number w (word_head w (mode_word w m e)), no_keyword_in w m (keyword_of w) refl e, mode_utf8 w m e, e) refl

no_word_in : (b : Bare) (w : List ℕ) (o : Option Keyword) → keyword_of w ≡ o → SpellsBare b w → o ≡ None
unfolding keyword_of
no_word_in b w None is h = refl
no_word_in b w (Some k) is h = absurd (bare_begun b w h (ap (begun all_bare_words) (first_is all_words w k is) ∙ (word_law k).no_bare))

no_mode_in : (b : Bare) (w : List ℕ) (o : Option PgSslMode) → mode_of w ≡ o → SpellsBare b w → o ≡ None
no_mode_in b w None is h = refl
no_mode_in b w (Some m) is h = absurd (bare_no_mode b w m h (mode_is w m is))

bare_token : (w : List ℕ) (b : Bare) → SpellsBare b w → token_of w ≡ Some (Bareword b)
unfolding token_of
bare_token w b h = rw (no_number w (word_head w (bare_is_word b w h)), no_word_in b w (keyword_of w) refl h, no_mode_in b w (mode_of w) refl h, bare_begins b w h, bare_again b w h) refl

-- a word, a number, a mode, a key or an argument without quotes at the front of a line
pub record IsFront (t : Token) (w : List ℕ) : Type 0 where
  pub runs : (ts : List Token) (y : List ℕ) → lexed (at ts [] modes.Word) (w ++ y) ≡ lexed (at ts w modes.Word) y
  pub head : ℕ
  pub rest : List ℕ
  pub is : w ≡ head ∷ rest
  pub token : token_of w ≡ Some t

head_front : (t : Token) (w : List ℕ) → HasHead w → token_of w ≡ Some t → IsFront t w
head_front t w h e = record { runs = λ ts y. word_runs w ts [] y h.goes; head = h.head; rest = h.rest; is = h.is; token = e }

number_front : (n : ℕ) (w : List ℕ) → IsNumber n w → IsFront (Number n) w
number_front n w h =
    let e = number_of-again w n h in
    let s = number_shape w n e in
    record { runs = λ ts y. word_runs w ts [] y (digits_go w 0 s.3.0 s.3.1); head = s.0; rest = s.1; is = s.2; token = number_token w n e }

key_front : (k : PgAdvisoryLockKey) (w : List ℕ) → IsKey k w → ((n : ℕ) → IsNumber n w → ⊥) → IsFront (Key k) w
key_front k w h n =
    let f = key_head k w h in
    record { runs = λ ts y. word_runs w ts [] y (key_goes k w h); head = f.0; rest = f.1; is = f.2; token = key_token w k h n }

front : (t : Token) (w : List ℕ) → is_word t ≡ true → SpellsToken t w → IsFront t w
front (Word k) w i h = subst (IsFront (Word k)) (sym h) (head_front (Word k) (spelling_of k) (word_head (spelling_of k) (word_law k).shape) (word_token k))
front (Number n) w i h = number_front n w h
front (SslMode m) w i h = head_front (SslMode m) w (word_head w (mode_word w m h)) (mode_token w m h)
front (Bareword b) w i h = head_front (Bareword b) w (word_head w (bare_is_word b w h)) (bare_token w b h)
front (Key k) w i h = key_front k w h.0 h.1
front _ w i h = absurd cc

-- ---- where a word ends: at the end, a space or a text

ends_line : (ts : List Token) (w : List ℕ) (t : Token) (b : ℕ) (bs : List ℕ) → w ≡ b ∷ bs → token_of w ≡ Some t → lexed (at ts w modes.Word) [] ≡ lexed (at (ts ++ t ∷ []) [] modes.Word) []
unfolding run finish
ends_line ts w t b bs e k = rw e (let k' : token_of (b ∷ bs) ≡ Some t = rw e at k in rw k' refl)

ends_space : (ts : List Token) (w y : List ℕ) (t : Token) (b : ℕ) (bs : List ℕ) → w ≡ b ∷ bs → token_of w ≡ Some t → lexed (at ts w modes.Word) (32 ∷ y) ≡ lexed (at (ts ++ t ∷ []) [] modes.Word) (32 ∷ y)
unfolding run step
ends_space ts w y t b bs e k = rw e (let k' : token_of (b ∷ bs) ≡ Some t = rw e at k in rw k' refl)

ends_quote : (ts : List Token) (w y : List ℕ) (t : Token) (b : ℕ) (bs : List ℕ) → w ≡ b ∷ bs → token_of w ≡ Some t → lexed (at ts w modes.Word) (34 ∷ y) ≡ lexed (at (ts ++ t ∷ []) [] modes.Word) (34 ∷ y)
unfolding run step
ends_quote ts w y t b bs e k = rw e (let k' : token_of (b ∷ bs) ≡ Some t = rw e at k in rw k' refl)

behind_nothing : (ts : List Token) (t : Token) (w y : List ℕ) → IsFront t w → y ≡ [] → lexed (at ts w modes.Word) y ≡ lexed (at (ts ++ t ∷ []) [] modes.Word) y
behind_nothing ts t w y f e = rw e (ends_line ts w t f.head f.rest f.is f.token)

behind_space : (ts : List Token) (t : Token) (w x y z : List ℕ) → IsFront t w → x ≡ 32 ∷ [] → y ≡ x ++ z → lexed (at ts w modes.Word) y ≡ lexed (at (ts ++ t ∷ []) [] modes.Word) y
behind_space ts t w x y z f d e = rw (e, d) (ends_space ts w z t f.head f.rest f.is f.token)

behind_quote : (ts : List Token) (t : Token) (w x y z q : List ℕ) → IsFront t w → x ≡ 34 ∷ q ++ 34 ∷ [] → y ≡ x ++ z → lexed (at ts w modes.Word) y ≡ lexed (at (ts ++ t ∷ []) [] modes.Word) y
behind_quote ts t w x y z q f d e = rw (e, d) (ends_quote ts w ((q ++ 34 ∷ []) ++ z) t f.head f.rest f.is f.token)

-- ---- lines

tail_apart : (t : Token) (ts : List Token) → apart (t ∷ ts) ≡ true → apart ts ≡ true
tail_apart t [] a = refl
tail_apart t (u ∷ ts) a = (both_true (not (is_word t && is_word u)) (apart (u ∷ ts)) a).1

beside : (a b : Bool) → a ≡ true → (not (a && true) && b) ≡ true → ⊥
beside true b i e = cc
beside false b i e = cc

ends : (before us : List Token) (t : Token) (w y : List ℕ) → IsFront t w → is_word t ≡ true → apart (t ∷ us) ≡ true → SpellsAll us y → lexed (at before w modes.Word) y ≡ lexed (at (before ++ t ∷ []) [] modes.Word) y
ends before [] t w y f i a h = behind_nothing before t w y f h
ends before (Space ∷ us) t w y f i a h = behind_space before t w h.0 y h.1 f h.2 h.4
ends before (Text s ∷ us) t w y f i a h = behind_quote before t w h.0 y h.1 h.2.0 f h.2.2 h.4
ends before (u ∷ us) t w y f i a h = absurd (beside (is_word t) (apart (u ∷ us)) i a)

joined : (before ts : List Token) (t : Token) (o : Option (List Token)) → o ≡ Some ((before ++ t ∷ []) ++ ts) → o ≡ Some (before ++ t ∷ ts)
joined before ts t o e = e ∙ ap (λ (z : List Token). Some z) (append_assoc before (t ∷ []) ts)

clear_word : (before ts : List Token) (t : Token) (w y line : List ℕ) → IsFront t w → is_word t ≡ true → apart (t ∷ ts) ≡ true → SpellsAll ts y → line ≡ w ++ y → lexed (at (before ++ t ∷ []) [] modes.Word) y ≡ Some ((before ++ t ∷ []) ++ ts)
    → lexed (at before [] modes.Word) line ≡ Some (before ++ t ∷ ts)
clear_word before ts t w y line f i a h e k = rw e (f.runs before y ∙ ends before ts t w y f i a h ∙ joined before ts t _ k)

clear_text : (before ts : List Token) (s x y z q : List ℕ) → IsText s q → x ≡ 34 ∷ q ++ 34 ∷ [] → y ≡ x ++ z → lexed (at (before ++ Text s ∷ []) [] modes.Word) z ≡ Some ((before ++ Text s ∷ []) ++ ts)
    → lexed (at before [] modes.Word) y ≡ Some (before ++ Text s ∷ ts)
unfolding run step
clear_text before ts s x y z q k d e h = rw (e, d) (quoted_runs s before q z k ∙ joined before ts (Text s) _ h)

clear_space : (before ts : List Token) (x y z : List ℕ) → x ≡ 32 ∷ [] → y ≡ x ++ z → lexed (at (before ++ Space ∷ []) [] modes.Word) z ≡ Some ((before ++ Space ∷ []) ++ ts) → lexed (at before [] modes.Word) y ≡ Some (before ++ Space ∷ ts)
unfolding run step
clear_space before ts x y z d e h = rw (e, d) (joined before ts Space _ h)

clear : (ts before : List Token) (line : List ℕ) → SpellsAll ts line → apart ts ≡ true → lexed (at before [] modes.Word) line ≡ Some (before ++ ts)
unfolding run finish
clear [] before line h a = rw h (ap (λ (us : List Token). Some us) (sym (append-nil before)))
clear (Space ∷ ts) before line h a = clear_space before ts h.0 line h.1 h.2 h.4 (clear ts (before ++ Space ∷ []) h.1 h.3 (tail_apart Space ts a))
clear (Text s ∷ ts) before line h a = clear_text before ts s h.0 line h.1 h.2.0 h.2.1 h.2.2 h.4 (clear ts (before ++ Text s ∷ []) h.1 h.3 (tail_apart (Text s) ts a))
clear (t ∷ ts) before line h a = clear_word before ts t h.0 h.1 line (front t h.0 refl h.2) refl a h.3 h.4 (clear ts (before ++ t ∷ []) h.1 h.3 (tail_apart t ts a))

-- what is spelled so is read
pub lexer_again : (ts : List Token) (line : List ℕ) → SpellsAll ts line → apart ts ≡ true → tokens_in line ≡ Some ts
lexer_again ts line h a = clear ts [] line h a
