-- The lexer by whole words and texts.
use Rattle.std.proofs.Common.{ℕ, suc, ◌≡◌, ◌+◌, ◌*◌, ◌<◌, ◌≤◌, ◌∷◌, ◌++◌, [], List, Option, Some, None, Bool, true, false, cond, nat_eq, nat_le, length, take, drop, get_or, refl, sym, ap, ◌∙◌, subst, arith, inl, inr, drop-cons, add-one}
use Rattle.std.specs.Prelude.{◌&&◌, ◌||◌}
use Rattle.std.proofs.Math.Seq.{take-suc}
use Rattle.std.proofs.lemmas.List.{take_all, drop_all}
use Rattle.std.proofs.lemmas.Bool.{eqb-true}
use Rattle.std.proofs.lemmas.Option.{same_Some}
use Rattle.pg_script.specs.declared.token.Token.{Token}
use Rattle.pg_script.specs.declared.token.Token.TheVariants as tokens
use Rattle.pg_script.specs.declared.error.LineError.{LineError}
use Rattle.pg_script.specs.declared.error.LineError.TheVariants as errors
use Rattle.pg_script.specs.Reading.{◌>>=◌, run, Fails}
use Rattle.pg_script.specs.Lexing.{step, finish, hex_value, coded, escaped, character, after, ends_word, at, lexed, after_word, EndsHere, EndsWord}
use Rattle.pg_script.specs.Lexing.{Mode as modes}
use Rattle.pg_script.proofs.Found.{bind_some}
use Rattle.pg_wire.proofs.Tests.{chosen, guarded}

-- ---- one character of a text

-- what is read behind a byte that a text means
abbrev Meant : List Token → List ℕ → ℕ × List ℕ → Option (List Token)
Meant ts held c = lexed (at ts (held ++ c.0 ∷ []) modes.Text) c.1

coded_reads : (ts : List Token) (held y : List ℕ) (h l x z : ℕ) → hex_value h ≡ Some x → hex_value l ≡ Some z → lexed (at ts held modes.High) (h ∷ l ∷ y) ≡ Meant ts held (x * 16 + z, y)
unfolding run step
coded_reads ts held y h l x z i j = rw (i, j) refl

coded_takes : (ts : List Token) (held bytes : List ℕ) (c : ℕ × List ℕ) → coded bytes ≡ Some c → lexed (at ts held modes.High) bytes ≡ Meant ts held c
coded_takes ts held [] c e = absurd cc
coded_takes ts held (h ∷ []) c e = absurd cc
coded_takes ts held (h ∷ l ∷ y) c e =
    let x = bind_some (hex_value h) (λ (x : ℕ). hex_value l >>= λ z. Some (x * 16 + z, y)) c e in
    let z = bind_some (hex_value l) (λ (z : ℕ). Some (x.0 * 16 + z, y)) c x.2 in
    coded_reads ts held y h l x.0 z.0 x.1 z.1 ∙ ap (Meant ts held) (same_Some (x.0 * 16 + z.0, y) c z.2)

one_fails : (ts : List Token) (held : List ℕ) (h : ℕ) (o : Option ℕ) → hex_value h ≡ o → lexed (at ts held modes.High) (h ∷ []) ≡ None
unfolding run step finish
one_fails ts held h None i = rw i refl
one_fails ts held h (Some x) i = rw i refl

abbrev byte_of : Option ℕ → Option ℕ → List ℕ → Option (ℕ × List ℕ)
byte_of o p y = o >>= λ x. p >>= λ z. Some (x * 16 + z, y)

two_fail : (ts : List Token) (held y : List ℕ) (h l : ℕ) (o p : Option ℕ) → hex_value h ≡ o → hex_value l ≡ p → byte_of o p y ≡ None → lexed (at ts held modes.High) (h ∷ l ∷ y) ≡ None
unfolding run step finish
two_fail ts held y h l None p i j e = rw i refl
two_fail ts held y h l (Some x) None i j e = rw (i, j) refl
two_fail ts held y h l (Some x) (Some z) i j e = absurd cc

coded_fails : (ts : List Token) (held bytes : List ℕ) → coded bytes ≡ None → lexed (at ts held modes.High) bytes ≡ None
unfolding run finish
coded_fails ts held [] e = refl
coded_fails ts held (h ∷ []) e = one_fails ts held h (hex_value h) refl
coded_fails ts held (h ∷ l ∷ y) e = two_fail ts held y h l (hex_value h) (hex_value l) refl refl e

-- the byte behind a backslash, in each of its three meanings
is_quote : (ts : List Token) (held y : List ℕ) (b : ℕ) → b ≡ 34 → lexed (at ts held modes.Escape) (b ∷ y) ≡ Meant ts held (34, y)
unfolding run step
is_quote ts held y b e = rw e refl

is_slash : (ts : List Token) (held y : List ℕ) (b : ℕ) → b ≡ 92 → lexed (at ts held modes.Escape) (b ∷ y) ≡ Meant ts held (92, y)
unfolding run step
is_slash ts held y b e = rw e refl

is_code : (ts : List Token) (held y : List ℕ) (b : ℕ) → b ≡ 120 → lexed (at ts held modes.Escape) (b ∷ y) ≡ lexed (at ts held modes.High) y
unfolding run step
is_code ts held y b e = rw e refl

no_escape : (ts : List Token) (held y : List ℕ) (b : ℕ) → nat_eq b 34 ≡ false → nat_eq b 92 ≡ false → nat_eq b 120 ≡ false → lexed (at ts held modes.Escape) (b ∷ y) ≡ None
unfolding run step
no_escape ts held y b d e f = rw (d, e, f) refl

escaped_takes : (ts : List Token) (held bytes : List ℕ) (c : ℕ × List ℕ) → escaped bytes ≡ Some c → lexed (at ts held modes.Escape) bytes ≡ Meant ts held c
escaped_takes ts held [] c e = absurd cc
escaped_takes ts held (b ∷ y) c e = elim (chosen (nat_eq b 120) (coded y) _ (Some c) e) [
  | inl d ↦ is_code ts held y b (eqb-true b 120 d.0) ∙ coded_takes ts held y c d.1
  | inr d ↦ elim (chosen (nat_eq b 34) (Some (34, y)) _ (Some c) d.1) [
    | inl f ↦ is_quote ts held y b (eqb-true b 34 f.0) ∙ ap (Meant ts held) (same_Some (34, y) c f.1)
    | inr f ↦
        let g = guarded (nat_eq b 92) (Some (92, y)) c f.1 in
        is_slash ts held y b (eqb-true b 92 g.0) ∙ ap (Meant ts held) (same_Some (92, y) c g.1)
  ]
]

unpassed : {A : Type 0} (t : Bool) (x : A) → cond t (Some x) None ≡ None → t ≡ false
unpassed true x e = absurd cc
unpassed false x e = refl

some_none : {A : Type 0} (x : A) → Some x ≡ None → ⊥
some_none x e = cc

escaped_fails : (ts : List Token) (held bytes : List ℕ) → escaped bytes ≡ None → lexed (at ts held modes.Escape) bytes ≡ None
unfolding run finish
escaped_fails ts held [] e = refl
escaped_fails ts held (b ∷ y) e = elim (chosen (nat_eq b 120) (coded y) _ None e) [
  | inl d ↦ is_code ts held y b (eqb-true b 120 d.0) ∙ coded_fails ts held y d.1
  | inr d ↦ elim (chosen (nat_eq b 34) (Some (34, y)) _ None d.1) [
    | inl f ↦ absurd (some_none (34, y) f.1)
    | inr f ↦ no_escape ts held y b f.0 (unpassed (nat_eq b 92) (92, y) f.1) d.0
  ]
]

begins_escape : (ts : List Token) (held y : List ℕ) (b : ℕ) → b ≡ 92 → lexed (at ts held modes.Text) (b ∷ y) ≡ lexed (at ts held modes.Escape) y
unfolding run step
begins_escape ts held y b e = rw e refl

plain_text : (ts : List Token) (held y : List ℕ) (b : ℕ) → nat_eq b 34 ≡ false → nat_eq b 92 ≡ false → (nat_le 32 b && nat_le b 126) ≡ true → lexed (at ts held modes.Text) (b ∷ y) ≡ Meant ts held (b, y)
unfolding run step
plain_text ts held y b d e f = rw (d, e, f) refl

no_text : (ts : List Token) (held y : List ℕ) (b : ℕ) → nat_eq b 34 ≡ false → nat_eq b 92 ≡ false → (nat_le 32 b && nat_le b 126) ≡ false → lexed (at ts held modes.Text) (b ∷ y) ≡ None
unfolding run step
no_text ts held y b d e f = rw (d, e, f) refl

pub character_takes : (ts : List Token) (held bytes : List ℕ) (c : ℕ × List ℕ) → after 34 bytes ≡ None → character bytes ≡ Some c → lexed (at ts held modes.Text) bytes ≡ lexed (at ts (held ++ c.0 ∷ []) modes.Text) c.1
character_takes ts held [] c n e = absurd cc
character_takes ts held (b ∷ y) c n e = elim (chosen (nat_eq b 92) (escaped y) _ (Some c) e) [
  | inl d ↦ begins_escape ts held y b (eqb-true b 92 d.0) ∙ escaped_takes ts held y c d.1
  | inr d ↦
      let g = guarded (nat_le 32 b && nat_le b 126) (Some (b, y)) c d.1 in
      plain_text ts held y b (unpassed (nat_eq b 34) y n) d.0 g.0 ∙ ap (Meant ts held) (same_Some (b, y) c g.1)
]

pub character_fails : (ts : List Token) (held bytes : List ℕ) → after 34 bytes ≡ None → character bytes ≡ None → lexed (at ts held modes.Text) bytes ≡ None
unfolding run finish
character_fails ts held [] n e = refl
character_fails ts held (b ∷ y) n e = elim (chosen (nat_eq b 92) (escaped y) _ None e) [
  | inl d ↦ begins_escape ts held y b (eqb-true b 92 d.0) ∙ escaped_fails ts held y d.1
  | inr d ↦ no_text ts held y b (unpassed (nat_eq b 34) y n) d.0 (unpassed (nat_le 32 b && nat_le b 126) (b, y) d.1)
]

-- a quote ends a text
text_last : (ts : List Token) (held y : List ℕ) (b : ℕ) → b ≡ 34 → lexed (at ts held modes.Text) (b ∷ y) ≡ lexed (at (ts ++ tokens.Text held ∷ []) [] modes.Word) y
unfolding run step
text_last ts held y b e = rw e refl

pub text_ends : (ts : List Token) (held bytes rest : List ℕ) → after 34 bytes ≡ Some rest → lexed (at ts held modes.Text) bytes ≡ lexed (at (ts ++ tokens.Text held ∷ []) [] modes.Word) rest
text_ends ts held [] rest e = absurd cc
text_ends ts held (b ∷ y) rest e =
    let g = guarded (nat_eq b 34) (Some y) rest e in
    text_last ts held y b (eqb-true b 34 g.0) ∙ ap (λ (z : List ℕ). lexed (at (ts ++ tokens.Text held ∷ []) [] modes.Word) z) (same_Some y rest g.1)

pub after_shorter : (first : ℕ) (bytes rest : List ℕ) → after first bytes ≡ Some rest → length rest < length bytes
after_shorter first [] rest e = absurd cc
after_shorter first (b ∷ y) rest e =
    let g = guarded (nat_eq b first) (Some y) rest e in
    subst (λ (z : List ℕ). length z < length (b ∷ y)) (same_Some y rest g.1) (omega arith)

-- what stands behind a character is shorter
coded_shorter : (bytes : List ℕ) (c : ℕ × List ℕ) → coded bytes ≡ Some c → length c.1 < length bytes
coded_shorter [] c e = absurd cc
coded_shorter (h ∷ []) c e = absurd cc
coded_shorter (h ∷ l ∷ y) c e =
    let x = bind_some (hex_value h) (λ (x : ℕ). hex_value l >>= λ z. Some (x * 16 + z, y)) c e in
    let z = bind_some (hex_value l) (λ (z : ℕ). Some (x.0 * 16 + z, y)) c x.2 in
    subst (λ (d : ℕ × List ℕ). length d.1 < length (h ∷ l ∷ y)) (same_Some (x.0 * 16 + z.0, y) c z.2) (omega arith)

escaped_shorter : (bytes : List ℕ) (c : ℕ × List ℕ) → escaped bytes ≡ Some c → length c.1 < length bytes
escaped_shorter [] c e = absurd cc
escaped_shorter (b ∷ y) c e = elim (chosen (nat_eq b 120) (coded y) _ (Some c) e) [
  | inl d ↦ let s = coded_shorter y c d.1 in omega (arith, s)
  | inr d ↦ elim (chosen (nat_eq b 34) (Some (34, y)) _ (Some c) d.1) [
    | inl f ↦ subst (λ (d : ℕ × List ℕ). length d.1 < length (b ∷ y)) (same_Some (34, y) c f.1) (omega arith)
    | inr f ↦
        let g = guarded (nat_eq b 92) (Some (92, y)) c f.1 in
        subst (λ (d : ℕ × List ℕ). length d.1 < length (b ∷ y)) (same_Some (92, y) c g.1) (omega arith)
  ]
]

pub character_shorter : (bytes : List ℕ) (c : ℕ × List ℕ) → character bytes ≡ Some c → length c.1 < length bytes
character_shorter [] c e = absurd cc
character_shorter (b ∷ y) c e = elim (chosen (nat_eq b 92) (escaped y) _ (Some c) e) [
  | inl d ↦ let s = escaped_shorter y c d.1 in omega (arith, s)
  | inr d ↦
      let g = guarded (nat_le 32 b && nat_le b 126) (Some (b, y)) c d.1 in
      subst (λ (d : ℕ × List ℕ). length d.1 < length (b ∷ y)) (same_Some (b, y) c g.1) (omega arith)
]

-- ---- words

plain_in : (ts : List Token) (held y : List ℕ) (b : ℕ) (space : Bool) → nat_eq b 32 ≡ space → (space || nat_eq b 34) ≡ false → lexed (at ts held modes.Word) (b ∷ y) ≡ lexed (at ts (held ++ b ∷ []) modes.Word) y
unfolding run step
plain_in ts held y b true i h = absurd cc
plain_in ts held y b false i h = rw (i, h) refl

word_goes : (ts : List Token) (bytes : List ℕ) (i : ℕ) → i < length bytes → ends_word (get_or bytes i 0) ≡ false
    → lexed (at ts (take i bytes) modes.Word) (drop i bytes) ≡ lexed (at ts (take (i + 1) bytes) modes.Word) (drop (i + 1) bytes)
word_goes ts bytes i lt e =
    rw (add-one, take-suc bytes i 0 lt, drop-cons bytes i 0 lt) (plain_in ts (take i bytes) (drop (suc i) bytes) (get_or bytes i 0) (nat_eq (get_or bytes i 0) 32) refl e)

ends_at : (bytes : List ℕ) (i : ℕ) → i < length bytes → ends_word (get_or bytes i 0) ≡ true → EndsHere (drop i bytes)
ends_at bytes i lt e = rw (drop-cons bytes i 0 lt) e

-- what the loop over a word keeps
abbrev pub WordSoFar : List ℕ → ℕ → Type 0
WordSoFar bytes i = (ts : List Token) → lexed (at ts [] modes.Word) bytes ≡ lexed (at ts (take i bytes) modes.Word) (drop i bytes)

pub word_more : (bytes : List ℕ) (i : ℕ) → WordSoFar bytes i → i < length bytes → ends_word (get_or bytes i 0) ≡ false → WordSoFar bytes (i + 1)
word_more bytes i h lt e = λ ts. h ts ∙ word_goes ts bytes i lt e

pub word_ends : (bytes : List ℕ) (i : ℕ) → WordSoFar bytes i → i < length bytes → ends_word (get_or bytes i 0) ≡ true → EndsWord bytes (take i bytes) (drop i bytes)
word_ends bytes i h lt e = record { ends = ends_at bytes i lt e; read = h }

no_end : (rest : List ℕ) → rest ≡ [] → EndsHere rest
no_end rest e = rw e tt

pub word_whole : (bytes : List ℕ) (i : ℕ) → WordSoFar bytes i → length bytes ≤ i → EndsWord bytes (take (length bytes) bytes) (drop (length bytes) bytes)
word_whole bytes i h le =
    let front : take i bytes ≡ take (length bytes) bytes = take_all i bytes le ∙ sym (take_all (length bytes) bytes (omega arith)) in
    let back : drop i bytes ≡ drop (length bytes) bytes = drop_all i bytes le ∙ sym (drop_all (length bytes) bytes (omega arith)) in
    record {
      ends = no_end (drop (length bytes) bytes) (drop_all (length bytes) bytes (omega arith));
      read = λ ts. h ts ∙ ap (λ (w : List ℕ). lexed (at ts w modes.Word) (drop i bytes)) front ∙ ap (λ (z : List ℕ). lexed (at ts (take (length bytes) bytes) modes.Word) z) back;
    }

-- ---- behind a word

no_word_in : (ts : List Token) (w y : List ℕ) (b : ℕ) (space : Bool) → nat_eq b 32 ≡ space → (space || nat_eq b 34) ≡ true → after_word (at ts w modes.Word) ≡ None → lexed (at ts w modes.Word) (b ∷ y) ≡ None
unfolding run step
no_word_in ts w y b true i h e = rw (i, e) refl
no_word_in ts w y b false i h e = rw (i, h, e) refl

no_word : (ts : List Token) (w rest : List ℕ) → EndsHere rest → after_word (at ts w modes.Word) ≡ None → lexed (at ts w modes.Word) rest ≡ None
unfolding run finish
no_word ts w [] h e = rw e refl
no_word ts w (b ∷ y) h e = no_word_in ts w y b (nat_eq b 32) refl h e

word_space : (ts us : List Token) (w y : List ℕ) (b : ℕ) → b ≡ 32 → after_word (at ts w modes.Word) ≡ Some (at us [] modes.Word) → lexed (at ts w modes.Word) (b ∷ y) ≡ lexed (at (us ++ tokens.Space ∷ []) [] modes.Word) y
unfolding run step
word_space ts us w y b i e = rw (i, e) refl

word_quote : (ts us : List Token) (w y : List ℕ) (b : ℕ) → b ≡ 34 → after_word (at ts w modes.Word) ≡ Some (at us [] modes.Word) → lexed (at ts w modes.Word) (b ∷ y) ≡ lexed (at us [] modes.Text) y
unfolding run step
word_quote ts us w y b i e = rw (i, e) refl

word_last : (ts us : List Token) (w : List ℕ) → after_word (at ts w modes.Word) ≡ Some (at us [] modes.Word) → lexed (at ts w modes.Word) [] ≡ Some us
unfolding run finish
word_last ts us w e = rw e refl

behind_space : (ts us : List Token) (w behind rest : List ℕ) → after_word (at ts w modes.Word) ≡ Some (at us [] modes.Word) → after 32 behind ≡ Some rest → lexed (at ts w modes.Word) behind ≡ lexed (at (us ++ tokens.Space ∷ []) [] modes.Word) rest
behind_space ts us w [] rest e a = absurd cc
behind_space ts us w (b ∷ y) rest e a =
    let g = guarded (nat_eq b 32) (Some y) rest a in
    word_space ts us w y b (eqb-true b 32 g.0) e ∙ ap (λ (z : List ℕ). lexed (at (us ++ tokens.Space ∷ []) [] modes.Word) z) (same_Some y rest g.1)

behind_quote : (ts us : List Token) (w behind rest : List ℕ) → after_word (at ts w modes.Word) ≡ Some (at us [] modes.Word) → after 34 behind ≡ Some rest → lexed (at ts w modes.Word) behind ≡ lexed (at us [] modes.Text) rest
behind_quote ts us w [] rest e a = absurd cc
behind_quote ts us w (b ∷ y) rest e a =
    let g = guarded (nat_eq b 34) (Some y) rest a in
    word_quote ts us w y b (eqb-true b 34 g.0) e ∙ ap (λ (z : List ℕ). lexed (at us [] modes.Text) z) (same_Some y rest g.1)

neither : (space quote : Bool) → (space || quote) ≡ true → space ≡ false → quote ≡ false → ⊥
neither true quote h e f = cc
neither false true h e f = cc
neither false false h e f = cc

behind_nothing : (ts us : List Token) (w behind : List ℕ) → after_word (at ts w modes.Word) ≡ Some (at us [] modes.Word) → EndsHere behind → after 32 behind ≡ None → after 34 behind ≡ None → lexed (at ts w modes.Word) behind ≡ Some us
behind_nothing ts us w [] e h a c = word_last ts us w e
behind_nothing ts us w (b ∷ y) e h a c = absurd (neither (nat_eq b 32) (nat_eq b 34) h (unpassed (nat_eq b 32) y a) (unpassed (nat_eq b 34) y c))

-- ---- the turns of the loop over a line

pub word_fails : (error : LineError) (ts : List Token) (bytes w behind : List ℕ) (total : Option (List Token)) → EndsWord bytes w behind → Fails error (after_word (at ts w modes.Word)) → lexed (at ts [] modes.Word) bytes ≡ total → Fails error total
word_fails errors.OutOfMemory ts bytes w behind total h e so_far = tt
word_fails errors.Bad ts bytes w behind total h e so_far = sym so_far ∙ h.read ts ∙ no_word ts w behind h.ends e

pub line_ends : (ts us : List Token) (bytes w behind : List ℕ) (total : Option (List Token)) → EndsWord bytes w behind → after_word (at ts w modes.Word) ≡ Some (at us [] modes.Word) → after 32 behind ≡ None → after 34 behind ≡ None → lexed (at ts [] modes.Word) bytes ≡ total → total ≡ Some us
line_ends ts us bytes w behind total h e a c so_far = sym so_far ∙ h.read ts ∙ behind_nothing ts us w behind e h.ends a c

pub space_read : (ts us : List Token) (bytes w behind rest : List ℕ) (total : Option (List Token)) → EndsWord bytes w behind → after_word (at ts w modes.Word) ≡ Some (at us [] modes.Word) → after 32 behind ≡ Some rest → lexed (at ts [] modes.Word) bytes ≡ total
    → lexed (at (us ++ tokens.Space ∷ []) [] modes.Word) rest ≡ total
space_read ts us bytes w behind rest total h e a so_far = sym (sym so_far ∙ h.read ts ∙ behind_space ts us w behind rest e a)

pub quote_read : (ts us : List Token) (bytes w behind text : List ℕ) (total : Option (List Token)) → EndsWord bytes w behind → after_word (at ts w modes.Word) ≡ Some (at us [] modes.Word) → after 34 behind ≡ Some text → lexed (at ts [] modes.Word) bytes ≡ total
    → lexed (at us [] modes.Text) text ≡ total
quote_read ts us bytes w behind text total h e a so_far = sym (sym so_far ∙ h.read ts ∙ behind_quote ts us w behind text e a)

pub fails_as : (error : LineError) (o total : Option (List Token)) → o ≡ total → Fails error o → Fails error total
fails_as error o total e f = subst (Fails error) e f
