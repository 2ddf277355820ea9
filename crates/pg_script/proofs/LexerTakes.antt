-- What the lexer reads is spelling_of so.
use Rattle.std.proofs.Common.{ℕ, ◌≡◌, ◌+◌, ◌*◌, ◌^◌, ◌∷◌, ◌++◌, [], List, Option, Some, None, true, cond, nat_eq, nat_le, refl, sym, ap, ◌∙◌, subst, append_assoc, inl, inr}
use Rattle.std.specs.Prelude.{◌&&◌, bytes_eq}
use Rattle.std.specs.Str.{is_utf8}
use Rattle.std.proofs.lemmas.List.{append-nil}
use Rattle.std.proofs.lemmas.Bool.{eqb-true}
use Rattle.pg_script.specs.declared.token.Token.{Token}
use Rattle.pg_script.specs.declared.token.Token.TheVariants as tokens
use Rattle.pg_script.specs.declared.token.Keyword.{Keyword}
use Rattle.pg_script.specs.declared.argument.Bare.{Bare}
use Rattle.pg_script.specs.Lexing.{Mode}
use Rattle.pg_script.specs.Lexing.{Mode as modes}
use Rattle.pg_options.specs.declared.ssl_mode.PgSslMode.{PgSslMode}
use Rattle.pg_options.specs.SslModes.{ssl_mode_from}
use Rattle.pg_script.specs.Reading.{run}
use Rattle.pg_script.specs.Arguments.{text_in}
use Rattle.pg_script.specs.Words.{spelling_of, number_of, first_of, keyword_of, keyword_among, all_words, mode_of, integer_of, begins_key, key_from, key_of, bare_of, other_of, token_of}
use Rattle.pg_script.specs.Lexing.{LexerState, start_state, hex_value, word_in, with_byte, with_mode, step_word, step_text, step_escape, step_digit, step_in, step, finish_in, finish, tokens_in, at}
use Rattle.pg_script.specs.Grammar.{IsCharacter, IsText, IsKey, SpellsToken, SpellsAll}
use Rattle.pg_script.proofs.SpellingLaws.{none_some, bytes_eq-is, number_of-takes, number_of-again, ordinary_from, hex_pair-takes}
use Rattle.pg_wire.proofs.Tests.{chosen, guarded}
use Rattle.std.proofs.lemmas.Option.{same_Some}
use Rattle.pg_script.proofs.Found.{bind_some}
use Rattle.pg_script.proofs.BareLaws.{parts, bare_takes, integer_takes}
use Rattle.pg_script.specs.Reading.{◌>>=◌}
use Rattle.std.specs.List.{join_with_byte}
use Rattle.std.proofs.lemmas.List.Splits.{join_with_byte-slice_split}
use Rattle.pg_locks.specs.declared.key.PgAdvisoryLockKey.{PgAdvisoryLockKey}
use Rattle.pg_locks.specs.declared.key.PgAdvisoryLockKey.TheVariants.{BigInt, IntPair}

-- ---- words

first_next : (j : Keyword) (ks : List Keyword) (w : List ℕ) (k : Keyword) → (keyword_among ks w ≡ Some k → w ≡ spelling_of k) → cond (bytes_eq w (spelling_of j)) (Some j) (keyword_among ks w) ≡ Some k → w ≡ spelling_of k
first_next j ks w k h e = elim (chosen (bytes_eq w (spelling_of j)) (Some j) (keyword_among ks w) (Some k) e) [
  | inl p ↦ bytes_eq-is w (spelling_of j) p.0 ∙ ap spelling_of (same_Some j k p.1)
  | inr p ↦ h p.1
]

pub first_is : (ks : List Keyword) (w : List ℕ) (k : Keyword) → keyword_among ks w ≡ Some k → w ≡ spelling_of k
first_is [] w k e = absurd cc
first_is (j ∷ ks) w k e = first_next j ks w k (first_is ks w k) e

pub mode_is : (w : List ℕ) (m : PgSslMode) → mode_of w ≡ Some m → ssl_mode_from w ≡ Some m
mode_is w m e =
    let b = bind_some (text_in w) ssl_mode_from m e in
    ap ssl_mode_from (same_Some w b.0 (guarded (is_utf8 w) (Some w) b.0 b.1).1) ∙ b.2

from_takes : (ps : List (List ℕ)) (k : PgAdvisoryLockKey) → key_from ps ≡ Some k → IsKey k (join_with_byte 44 ps)
from_takes [] k e = absurd cc
from_takes (a ∷ []) k e =
    let z = bind_some (integer_of (2 ^ 63) a) (λ z. Some (BigInt z)) k e in
    subst (λ (x : PgAdvisoryLockKey). IsKey x a) (same_Some (BigInt z.0) k z.2) (integer_takes (2 ^ 63) a z.0 z.1)
from_takes (a ∷ b ∷ []) k e =
    let y = bind_some (integer_of (2 ^ 31) a) (λ y. integer_of (2 ^ 31) b >>= λ z. Some (IntPair y z)) k e in
    let z = bind_some (integer_of (2 ^ 31) b) (λ z. Some (IntPair y.0 z)) k y.2 in
    subst (λ (x : PgAdvisoryLockKey). IsKey x (a ++ 44 ∷ b)) (same_Some (IntPair y.0 z.0) k z.2) (a, b, integer_takes (2 ^ 31) a y.0 y.1, integer_takes (2 ^ 31) b z.0 z.1, refl)
from_takes (a ∷ b ∷ c ∷ ps) k e = absurd cc

key_takes : (w : List ℕ) (k : PgAdvisoryLockKey) → key_of w ≡ Some k → IsKey k w
key_takes w k e = subst (IsKey k) (join_with_byte-slice_split 44 w) (from_takes (parts w) k e)

other_is : (w : List ℕ) (t : Token) → number_of w ≡ None → other_of w ≡ Some t → SpellsToken t w
other_is w t none e = elim (chosen (begins_key w) (key_of w >>= λ k. Some (tokens.Key k)) (bare_of w >>= λ b. Some (tokens.Bare b)) (Some t) e) [
  | inl c ↦ (
      let k = bind_some (key_of w) (λ (k : PgAdvisoryLockKey). Some (tokens.Key k)) t c.1 in
      subst (λ (u : Token). SpellsToken u w) (same_Some (tokens.Key k.0) t k.2) (key_takes w k.0 k.1, λ n h. none_some n (sym none ∙ number_of-again w n h))
      )
  | inr c ↦ (
      let b = bind_some (bare_of w) (λ (b : Bare). Some (tokens.Bare b)) t c.1 in
      subst (λ (u : Token). SpellsToken u w) (same_Some (tokens.Bare b.0) t b.2) (bare_takes w b.0 b.1)
      )
]

word_is : (o : Option ℕ) (p : Option Keyword) (q : Option PgSslMode) (w : List ℕ) (t : Token)
    → number_of w ≡ o → keyword_of w ≡ p → mode_of w ≡ q → first_of o p q (other_of w) ≡ Some t → SpellsToken t w
unfolding keyword_of
word_is (Some n) p q w t is also mode e = subst (λ (u : Token). SpellsToken u w) (same_Some (tokens.Number n) t e) (number_of-takes w n is)
word_is None (Some k) q w t is also mode e = subst (λ (u : Token). SpellsToken u w) (same_Some (tokens.Word k) t e) (first_is all_words w k also)
word_is None None (Some m) w t is also mode e = subst (λ (u : Token). SpellsToken u w) (same_Some (tokens.SslMode m) t e) (mode_is w m mode)
word_is None None None w t is also mode e = other_is w t is e

token_is : (w : List ℕ) (t : Token) → token_of w ≡ Some t → SpellsToken t w
unfolding token_of
token_is w t e = word_is (number_of w) (keyword_of w) (mode_of w) w t refl refl refl e

-- ---- one more at the end

more_text : (s a x : List ℕ) (c : ℕ) → IsText s a → IsCharacter c x → IsText (s ++ c ∷ []) (a ++ x)
more_text [] a x c t h = (x, [], h, refl, ap (λ (b : List ℕ). b ++ x) t ∙ sym (append-nil x))
more_text (d ∷ s) a x c t h = (t.0, t.1 ++ x, t.2, more_text s t.1 x c t.3 h, ap (λ (b : List ℕ). b ++ x) t.4 ∙ append_assoc t.0 t.1 x)

more_tokens : (ts : List Token) (a x : List ℕ) (t : Token) → SpellsAll ts a → SpellsToken t x → SpellsAll (ts ++ t ∷ []) (a ++ x)
more_tokens [] a x t h s = (x, [], s, refl, ap (λ (b : List ℕ). b ++ x) h ∙ sym (append-nil x))
more_tokens (u ∷ ts) a x t h s = (h.0, h.1 ++ x, h.2, more_tokens ts h.1 x t h.3 s, ap (λ (b : List ℕ). b ++ x) h.4 ∙ append_assoc h.0 h.1 x)

-- ---- what a state holds

abbrev pub Partial : Mode → List ℕ → List ℕ → Type 0
Partial modes.Word held r = r ≡ held
Partial modes.Text held r = (a : List ℕ) × IsText held a × (r ≡ 34 ∷ a)
Partial modes.Escape held r = (a : List ℕ) × IsText held a × (r ≡ 34 ∷ (a ++ 92 ∷ []))
Partial modes.High held r = (a : List ℕ) × IsText held a × (r ≡ 34 ∷ (a ++ 92 ∷ 120 ∷ []))
Partial (modes.Low x) held r = (a : List ℕ) × (h : ℕ) × IsText held a × (hex_value h ≡ Some x) × (r ≡ 34 ∷ (a ++ 92 ∷ 120 ∷ h ∷ []))

-- the bytes read so far are the tokens, and a part of one
abbrev pub Holds : LexerState → List ℕ → Type 0
Holds s p = (q r : List ℕ) × SpellsAll s.tokens q × Partial s.mode s.held r × (p ≡ q ++ r)

held_word : (ts : List Token) (held p q : List ℕ) (mode : Mode) (t : LexerState) → SpellsAll ts q → p ≡ q ++ held → word_in held (at ts held mode) ≡ Some t
    → (us : List Token) × (at us [] mode ≡ t) × SpellsAll us p
held_word ts [] p q mode t h e w = (ts, same_Some _ t w, subst (SpellsAll ts) (sym (e ∙ append-nil q)) h)
held_word ts (b ∷ bs) p q mode t h e w =
    let d = bind_some (token_of (b ∷ bs)) (λ (u : Token). Some (at (ts ++ u ∷ []) [] mode)) t w in
    (ts ++ d.0 ∷ [], same_Some _ t d.2, subst (SpellsAll (ts ++ d.0 ∷ [])) (sym e) (more_tokens ts q (b ∷ bs) d.0 h (token_is (b ∷ bs) d.0 d.1)))

-- ---- one byte more

pushed : (p q r y : List ℕ) → p ≡ q ++ r → p ++ y ≡ q ++ (r ++ y)
pushed p q r y e = ap (λ (z : List ℕ). z ++ y) e ∙ append_assoc q r y

one : (b n : ℕ) → nat_eq b n ≡ true → b ∷ [] ≡ n ∷ []
one b n e = ap (λ (m : ℕ). m ∷ []) (eqb-true b n e)

keeps_word : (ts : List Token) (held : List ℕ) (t : LexerState) (p : List ℕ) (b : ℕ) (q : List ℕ) → SpellsAll ts q → p ≡ q ++ held → step_word (at ts held modes.Word) b ≡ Some t → Holds t (p ++ b ∷ [])
keeps_word ts held t p b q h e w = elim (chosen (nat_eq b 32) _ _ (Some t) w) [
  | inl c ↦
      let d = bind_some (word_in held (at ts held modes.Word)) (λ (u : LexerState). Some (record u { tokens = u.tokens ++ tokens.Space ∷ [] })) t c.1 in
      let k = held_word ts held p q modes.Word d.0 h e d.1 in
      let is : at (k.0 ++ tokens.Space ∷ []) [] modes.Word ≡ t = ap (λ (u : LexerState). record u { tokens = u.tokens ++ tokens.Space ∷ [] }) k.1 ∙ same_Some _ t d.2 in
      subst (λ (u : LexerState). Holds u (p ++ b ∷ [])) is (p ++ b ∷ [], [], more_tokens k.0 p (b ∷ []) tokens.Space k.2 (one b 32 c.0), refl, sym (append-nil (p ++ b ∷ [])))
  | inr c ↦ elim (chosen (nat_eq b 34) _ _ (Some t) c.1) [
    | inl d ↦
        let f = bind_some (word_in held (at ts held modes.Word)) (λ (u : LexerState). Some (with_mode u modes.Text)) t d.1 in
        let k = held_word ts held p q modes.Word f.0 h e f.1 in
        let is : at k.0 [] modes.Text ≡ t = ap (λ (u : LexerState). with_mode u modes.Text) k.1 ∙ same_Some _ t f.2 in
        subst (λ (u : LexerState). Holds u (p ++ b ∷ [])) is (p, b ∷ [], k.2, ([], refl, one b 34 d.0), refl)
    | inr d ↦ subst (λ (u : LexerState). Holds u (p ++ b ∷ [])) (same_Some (at ts (held ++ b ∷ []) modes.Word) t d.1) (q, held ++ b ∷ [], h, refl, pushed p q held (b ∷ []) e)
  ]
]

keeps_text : (ts : List Token) (held : List ℕ) (t : LexerState) (p : List ℕ) (b : ℕ) (q a : List ℕ) → SpellsAll ts q → IsText held a → p ≡ q ++ 34 ∷ a → step_text (at ts held modes.Text) b ≡ Some t → Holds t (p ++ b ∷ [])
keeps_text ts held t p b q a h x e w = elim (chosen (nat_eq b 34) _ _ (Some t) w) [
  | inl c ↦ subst (λ (u : LexerState). Holds u (p ++ b ∷ [])) (same_Some (at (ts ++ tokens.Text held ∷ []) [] modes.Word) t c.1)
      (q ++ (34 ∷ (a ++ b ∷ [])), [], more_tokens ts q (34 ∷ (a ++ b ∷ [])) (tokens.Text held) h (a, x, ap (λ (z : List ℕ). 34 ∷ (a ++ z)) (one b 34 c.0)), refl, pushed p q (34 ∷ a) (b ∷ []) e ∙ sym (append-nil (q ++ (34 ∷ (a ++ b ∷ [])))))
  | inr c ↦ elim (chosen (nat_eq b 92) _ _ (Some t) c.1) [
    | inl d ↦ subst (λ (u : LexerState). Holds u (p ++ b ∷ [])) (same_Some (at ts held modes.Escape) t d.1)
        (q, 34 ∷ (a ++ b ∷ []), h, (a, x, ap (λ (z : List ℕ). 34 ∷ (a ++ z)) (one b 92 d.0)), pushed p q (34 ∷ a) (b ∷ []) e)
    | inr d ↦ elim (chosen (nat_le 32 b && nat_le b 126) _ _ (Some t) d.1) [
      | inl f ↦ subst (λ (u : LexerState). Holds u (p ++ b ∷ [])) (same_Some (at ts (held ++ b ∷ []) modes.Text) t f.1)
          (q, 34 ∷ (a ++ b ∷ []), h, (a ++ b ∷ [], more_text held a (b ∷ []) b x (inl (refl, ordinary_from b c.0 d.0 f.0)), refl), pushed p q (34 ∷ a) (b ∷ []) e)
      | inr f ↦ absurd (none_some t f.1)
    ]
  ]
]

-- a character that is behind some bytes of its own
behind : (ts : List Token) (held p q a y : List ℕ) (b c : ℕ) → SpellsAll ts q → IsText held a → p ≡ q ++ 34 ∷ (a ++ y) → IsCharacter c (y ++ b ∷ []) → Holds (at ts (held ++ c ∷ []) modes.Text) (p ++ b ∷ [])
behind ts held p q a y b c h x e k = (q, 34 ∷ (a ++ (y ++ b ∷ [])), h, (a ++ (y ++ b ∷ []), more_text held a (y ++ b ∷ []) c x k, refl), pushed p q (34 ∷ (a ++ y)) (b ∷ []) e ∙ ap (λ (z : List ℕ). q ++ 34 ∷ z) (append_assoc a y (b ∷ [])))

keeps_escape : (ts : List Token) (held : List ℕ) (t : LexerState) (p : List ℕ) (b : ℕ) (q a : List ℕ) → SpellsAll ts q → IsText held a → p ≡ q ++ 34 ∷ (a ++ 92 ∷ []) → step_escape (at ts held modes.Escape) b ≡ Some t → Holds t (p ++ b ∷ [])
keeps_escape ts held t p b q a h x e w = elim (chosen (nat_eq b 34) _ _ (Some t) w) [
  | inl c ↦ subst (λ (u : LexerState). Holds u (p ++ b ∷ [])) (same_Some (at ts (held ++ b ∷ []) modes.Text) t c.1) (behind ts held p q a (92 ∷ []) b b h x e (inr (inl (refl, inl (eqb-true b 34 c.0)))))
  | inr c ↦ elim (chosen (nat_eq b 92) _ _ (Some t) c.1) [
    | inl d ↦ subst (λ (u : LexerState). Holds u (p ++ b ∷ [])) (same_Some (at ts (held ++ b ∷ []) modes.Text) t d.1) (behind ts held p q a (92 ∷ []) b b h x e (inr (inl (refl, inr (eqb-true b 92 d.0)))))
    | inr d ↦ elim (chosen (nat_eq b 120) _ _ (Some t) d.1) [
      | inl f ↦ subst (λ (u : LexerState). Holds u (p ++ b ∷ [])) (same_Some (at ts held modes.High) t f.1)
          (q, 34 ∷ (a ++ 92 ∷ b ∷ []), h, (a, x, ap (λ (m : ℕ). 34 ∷ (a ++ 92 ∷ m ∷ [])) (eqb-true b 120 f.0)), pushed p q (34 ∷ (a ++ 92 ∷ [])) (b ∷ []) e ∙ ap (λ (z : List ℕ). q ++ 34 ∷ z) (append_assoc a (92 ∷ []) (b ∷ [])))
      | inr f ↦ absurd (none_some t f.1)
    ]
  ]
]

keeps_high : (ts : List Token) (held : List ℕ) (t : LexerState) (p : List ℕ) (b : ℕ) (q a : List ℕ) → SpellsAll ts q → IsText held a → p ≡ q ++ 34 ∷ (a ++ 92 ∷ 120 ∷ []) → step_digit None (at ts held modes.High) b ≡ Some t → Holds t (p ++ b ∷ [])
keeps_high ts held t p b q a h x e w =
    let d = bind_some (hex_value b) (λ (n : ℕ). Some (with_mode (at ts held modes.High) (modes.Low n))) t w in
    subst (λ (u : LexerState). Holds u (p ++ b ∷ [])) (same_Some (at ts held (modes.Low d.0)) t d.2)
    (q, 34 ∷ (a ++ 92 ∷ 120 ∷ b ∷ []), h, (a, b, x, d.1, refl), pushed p q (34 ∷ (a ++ 92 ∷ 120 ∷ [])) (b ∷ []) e ∙ ap (λ (z : List ℕ). q ++ 34 ∷ z) (append_assoc a (92 ∷ 120 ∷ []) (b ∷ [])))

keeps_low : (ts : List Token) (held : List ℕ) (t : LexerState) (p : List ℕ) (b high n : ℕ) (q a : List ℕ) → SpellsAll ts q → IsText held a → hex_value n ≡ Some high → p ≡ q ++ 34 ∷ (a ++ 92 ∷ 120 ∷ n ∷ []) → step_digit (Some high) (at ts held (modes.Low high)) b ≡ Some t → Holds t (p ++ b ∷ [])
keeps_low ts held t p b high n q a h x k e w =
    let d = bind_some (hex_value b) (λ (m : ℕ). Some (with_byte (at ts held (modes.Low high)) (high * 16 + m))) t w in
    subst (λ (u : LexerState). Holds u (p ++ b ∷ [])) (same_Some (at ts (held ++ (high * 16 + d.0) ∷ []) modes.Text) t d.2)
    (behind ts held p q a (92 ∷ 120 ∷ n ∷ []) b (high * 16 + d.0) h x e (inr (inr (hex_pair-takes n b high d.0 k d.1))))

keeps : (ts : List Token) (held : List ℕ) (mode : Mode) (t : LexerState) (p : List ℕ) (b : ℕ) → Holds (at ts held mode) p → step_in mode (at ts held mode) b ≡ Some t → Holds t (p ++ b ∷ [])
keeps ts held modes.Word t p b h w = keeps_word ts held t p b h.0 h.2 (h.4 ∙ ap (λ (z : List ℕ). h.0 ++ z) h.3) w
keeps ts held modes.Text t p b h w = keeps_text ts held t p b h.0 h.3.0 h.2 h.3.1 (h.4 ∙ ap (λ (z : List ℕ). h.0 ++ z) h.3.2) w
keeps ts held modes.Escape t p b h w = keeps_escape ts held t p b h.0 h.3.0 h.2 h.3.1 (h.4 ∙ ap (λ (z : List ℕ). h.0 ++ z) h.3.2) w
keeps ts held modes.High t p b h w = keeps_high ts held t p b h.0 h.3.0 h.2 h.3.1 (h.4 ∙ ap (λ (z : List ℕ). h.0 ++ z) h.3.2) w
keeps ts held (modes.Low high) t p b h w = keeps_low ts held t p b high h.3.1 h.0 h.3.0 h.2 h.3.2 h.3.3 (h.4 ∙ ap (λ (z : List ℕ). h.0 ++ z) h.3.4) w

ends : (ts : List Token) (held : List ℕ) (mode : Mode) (us : List Token) (p : List ℕ) → Holds (at ts held mode) p → finish_in mode (at ts held mode) ≡ Some us → SpellsAll us p
ends ts held modes.Word us p h w =
    let d = bind_some (word_in held (at ts held modes.Word)) (λ (t : LexerState). Some t.tokens) us w in
    let k = held_word ts held p h.0 modes.Word d.0 h.2 (h.4 ∙ ap (λ (z : List ℕ). h.0 ++ z) h.3) d.1 in
    subst (λ (vs : List Token). SpellsAll vs p) (ap (λ (t : LexerState). t.tokens) k.1 ∙ same_Some d.0.tokens us d.2) k.2
ends ts held _ us p h w = absurd (none_some us w)

runs : (s : LexerState) (bytes p : List ℕ) (us : List Token) → Holds s p → run step finish s bytes ≡ Some us → SpellsAll us (p ++ bytes)
unfolding run step finish
runs s [] p us h w = subst (SpellsAll us) (sym (append-nil p)) (ends s.tokens s.held s.mode us p h w)
runs s (b ∷ bytes) p us h w =
    let d = bind_some (step_in s.mode s b) (λ (t : LexerState). run step finish t bytes) us w in
    subst (SpellsAll us) (append_assoc p (b ∷ []) bytes) (runs d.0 bytes (p ++ b ∷ []) us (keeps s.tokens s.held s.mode d.0 p b h d.1) d.2)

-- what is read from a line is spelling_of so
pub lexer_takes : (line : List ℕ) (ts : List Token) → tokens_in line ≡ Some ts → SpellsAll ts line
lexer_takes line ts e = runs start_state line [] ts ([], [], refl, refl, refl) e
