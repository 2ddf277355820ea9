-- A copy from the client: the tokens that are read are those of the grammar.
use Rattle.std.proofs.Common.{ℕ, ◌≡◌, ◌<◌, ◌∷◌, ◌++◌, [], List, Option, Some, true, length, refl, sym, ap, ◌∙◌, subst, arith}
use Rattle.std.specs.Str.{is_utf8}
use Rattle.std.proofs.lemmas.Option.{same_Some}
use Rattle.pg_script.specs.declared.step.Copying.{Copying}
use Rattle.pg_script.specs.declared.step.CopyEnd.{CopyEnd}
use Rattle.pg_script.specs.declared.step.CopyEnd.TheVariants as copy_ends
use Rattle.pg_script.specs.declared.token.Token.{Token}
use Rattle.pg_script.specs.declared.token.Token.TheVariants.{Space, Word, Text}
use Rattle.pg_script.specs.declared.token.Keyword.TheVariants as words
use Rattle.pg_script.specs.declared.error.LineError.{LineError}
use Rattle.pg_script.specs.declared.error.LineError.TheVariants as errors
use Rattle.pg_script.specs.Reading.{◌>>=◌, Fails}
use Rattle.pg_script.specs.Arguments.{text_in}
use Rattle.pg_script.specs.Asking.{copy_end_at, copying_arg, piece_arg, pieces_in}
use Rattle.pg_script.specs.Grammar.{copying_tokens, end_tokens, piece_tokens, CopyFits, EndFits, IsUnicode}
use Rattle.pg_script.proofs.Found.{bind_some, utf8_takes}
use Rattle.pg_script.proofs.Apart.{is_word, apart}
use Rattle.pg_script.proofs.AskedLaws.{spaced}
use Rattle.pg_script.proofs.PrepareLaws.{with_front, behind_one}

piece_takes : (ts : List Token) (x : List ℕ × List Token) → piece_arg ts ≡ Some x → ts ≡ Space ∷ Text x.0 ∷ x.1
piece_takes (Space ∷ Text s ∷ rest) x e =
    let p : (s, rest) ≡ x = cc in
    ap (λ (y : List ℕ × List Token). Space ∷ Text y.0 ∷ y.1) p
piece_takes _ x e = absurd cc

pieces_take : (ts : List Token) (pieces : List (List ℕ)) → pieces_in ts ≡ Some pieces → ts ≡ piece_tokens pieces
pieces_take [] pieces e = ap piece_tokens (same_Some [] pieces e)
pieces_take (Space ∷ Text s ∷ rest) pieces e =
    let b = bind_some (pieces_in rest) (λ (others : List (List ℕ)). Some (s ∷ others)) pieces e in
    ap (λ (ts : List Token). Space ∷ Text s ∷ ts) (pieces_take rest b.0 b.1) ∙ ap piece_tokens (same_Some (s ∷ b.0) pieces b.2)
pieces_take _ pieces e = absurd cc

abbrev copying : List ℕ → List (List ℕ) → CopyEnd → Copying
copying sql pieces end = record { sql = sql; pieces = pieces; end = end }

end_takes : (ts : List Token) (x : CopyEnd × List Token) → copy_end_at ts ≡ Some x → (ts ≡ end_tokens x.0 x.1) × EndFits x.0
end_takes (Word words.Finish ∷ rest) x e =
    let p : (copy_ends.Finish, rest) ≡ x = cc in
    subst (λ (y : CopyEnd × List Token). (Word words.Finish ∷ rest ≡ end_tokens y.0 y.1) × EndFits y.0) p (refl, tt)
end_takes (Word words.Leave ∷ rest) x e =
    let p : (copy_ends.Leave, rest) ≡ x = cc in
    subst (λ (y : CopyEnd × List Token). (Word words.Leave ∷ rest ≡ end_tokens y.0 y.1) × EndFits y.0) p (refl, tt)
end_takes (Word words.Abort ∷ Space ∷ Text s ∷ rest) x e =
    let message = bind_some (text_in s) (λ (message : List ℕ). Some (copy_ends.Abort message, rest)) x e in
    let u = utf8_takes (is_utf8 s) s message.0 message.1 in
    subst (λ (y : CopyEnd × List Token). (Word words.Abort ∷ Space ∷ Text s ∷ rest ≡ end_tokens y.0 y.1) × EndFits y.0) (same_Some (copy_ends.Abort message.0, rest) x message.2) (ap (λ (v : List ℕ). Word words.Abort ∷ Space ∷ Text v ∷ rest) u.1, subst IsUnicode u.1 u.0)
end_takes _ x e = absurd cc

pub copying_takes : (ts : List Token) (c : Copying) → copying_arg ts ≡ Some c → (ts ≡ copying_tokens c) × CopyFits c
copying_takes (Space ∷ Text s ∷ Space ∷ rest) c e =
    let sql = bind_some (text_in s) (λ (sql : List ℕ). copy_end_at rest >>= λ end. pieces_in end.1 >>= λ pieces. Some (copying sql pieces end.0)) c e in
    let end = bind_some (copy_end_at rest) (λ (end : CopyEnd × List Token). pieces_in end.1 >>= λ pieces. Some (copying sql.0 pieces end.0)) c sql.2 in
    let pieces = bind_some (pieces_in end.0.1) (λ (pieces : List (List ℕ)). Some (copying sql.0 pieces end.0.0)) c end.2 in
    let u = utf8_takes (is_utf8 s) s sql.0 sql.1 in
    let fits = end_takes rest end.0 end.1 in
    let tokens = ap (λ (v : List ℕ). Space ∷ Text v ∷ Space ∷ rest) u.1 ∙ ap (λ (ts : List Token). Space ∷ Text sql.0 ∷ Space ∷ ts) fits.0 ∙ ap (λ (ts : List Token). Space ∷ Text sql.0 ∷ Space ∷ end_tokens end.0.0 ts) (pieces_take end.0.1 pieces.0 pieces.1) in
    subst (λ (q : Copying). (Space ∷ Text s ∷ Space ∷ rest ≡ copying_tokens q) × CopyFits q) (same_Some (copying sql.0 pieces.0 end.0.0) c pieces.2) (tokens, (subst IsUnicode u.1 u.0, fits.1))
copying_takes _ c e = absurd cc

-- ---- the turns of the loop

pub pieces_next : (front : List (List ℕ)) (ts : List Token) (x : List ℕ × List Token) (total : Option (List (List ℕ))) → piece_arg ts ≡ Some x → with_front front (pieces_in ts) ≡ total → with_front (front ++ x.0 ∷ []) (pieces_in x.1) ≡ total
pieces_next front ts x total e so_far = behind_one front x.0 (pieces_in x.1) ∙ ap (λ (us : List Token). with_front front (pieces_in us)) (sym (piece_takes ts x e)) ∙ so_far

pub pieces_shorter : (ts : List Token) (x : List ℕ × List Token) → piece_arg ts ≡ Some x → length x.1 < length ts
pieces_shorter ts x e = omega (arith, ap length (piece_takes ts x e))

pub pieces_fail : (error : LineError) (front : List (List ℕ)) (ts : List Token) (total : Option (List (List ℕ))) → 0 < length ts → Fails error (piece_arg ts) → with_front front (pieces_in ts) ≡ total → Fails error total
pieces_fail errors.OutOfMemory front ts total some f so_far = tt
pieces_fail errors.Bad front [] total some f so_far = absurd (omega (arith, some))
pieces_fail errors.Bad front (Space ∷ Text s ∷ rest) total some f so_far = absurd cc
pieces_fail errors.Bad front _ total some f so_far = sym so_far

-- ---- and back

pieces_again : (pieces : List (List ℕ)) → pieces_in (piece_tokens pieces) ≡ Some pieces
pieces_again [] = refl
pieces_again (p ∷ more) = rw (pieces_again more) refl

pub copying_again : (c : Copying) → CopyFits c → copying_arg (copying_tokens c) ≡ Some c
copying_again c u = by c.end u.1
  where
    by : (end : CopyEnd) → EndFits end → copying_arg (copying_tokens (record c { end = end })) ≡ Some (record c { end = end })
    by copy_ends.Finish f = rw (u.0, pieces_again c.pieces) refl
    by copy_ends.Leave f = rw (u.0, pieces_again c.pieces) refl
    by (copy_ends.Abort message) f = rw (u.0, f, pieces_again c.pieces) refl

-- no two words stand side by side
pub pieces_apart : (t : Token) (pieces : List (List ℕ)) → apart (t ∷ piece_tokens pieces) ≡ true
pieces_apart t [] = refl
pieces_apart t (p ∷ more) = spaced (is_word t) _ ∙ pieces_apart (Text p) more

pub copying_apart : (c : Copying) → apart (copying_tokens c) ≡ true
copying_apart c = by c.end
  where
    by : (end : CopyEnd) → apart (Space ∷ Text c.sql ∷ Space ∷ end_tokens end (piece_tokens c.pieces)) ≡ true
    by copy_ends.Finish = pieces_apart (Word words.Finish) c.pieces
    by copy_ends.Leave = pieces_apart (Word words.Leave) c.pieces
    by (copy_ends.Abort message) = pieces_apart (Text message) c.pieces
