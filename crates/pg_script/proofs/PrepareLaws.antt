-- What a prepare is to be of: the tokens that are read are those of the grammar.
use Rattle.std.proofs.Common.{ℕ, ◌≡◌, ◌<◌, ◌∷◌, ◌++◌, [], List, Option, Some, None, true, length, refl, sym, ap, ◌∙◌, subst, append_assoc, arith}
use Rattle.std.specs.List.{AllByRecursion}
use Rattle.std.proofs.lemmas.Option.{same_Some}
use Rattle.pg_request.specs.declared.naming.Declared.{Declared}
use Rattle.pg_request.specs.declared.naming.Declared.TheVariants as declared
use Rattle.pg_request.specs.declared.preparation.Preparation.{Preparation}
use Rattle.pg_script.specs.declared.token.Token.{Token}
use Rattle.pg_script.specs.declared.token.Token.TheVariants.{Space, Word, Number, Text}
use Rattle.pg_script.specs.declared.token.Keyword.TheVariants as words
use Rattle.pg_script.specs.declared.error.LineError.{LineError}
use Rattle.pg_script.specs.declared.error.LineError.TheVariants as errors
use Rattle.pg_script.specs.Reading.{◌>>=◌, Fails}
use Rattle.pg_script.specs.Arguments.{text_in, number_arg}
use Rattle.pg_script.specs.Asking.{prepare_arg, type_at, types_in}
use Rattle.pg_script.specs.Grammar.{PreparationFits, TypeFits, preparation_tokens, types_tokens}
use Rattle.pg_script.proofs.Found.{bind_some}
use Rattle.pg_script.proofs.Apart.{is_word, apart}
use Rattle.pg_script.proofs.AskedLaws.{spaced, unicode}

pub number_takes : (ts : List Token) (x : ℕ × List Token) → number_arg ts ≡ Some x → ts ≡ Space ∷ Number x.0 ∷ x.1
number_takes (Space ∷ Number n ∷ rest) x e =
    let p : (n, rest) ≡ x = cc in
    ap (λ (y : ℕ × List Token). Space ∷ Number y.0 ∷ y.1) p
number_takes _ x e = absurd cc

-- ---- types

types_take : (ts : List Token) (types : List Declared) → types_in ts ≡ Some types → (ts ≡ types_tokens types) × AllByRecursion TypeFits types
types_take [] types e = subst (λ (ds : List Declared). ([] ≡ types_tokens ds) × AllByRecursion TypeFits ds) (same_Some [] types e) (refl, tt)
types_take (Space ∷ Number n ∷ rest) types e =
    let b = bind_some (types_in rest) (λ (others : List Declared). Some (declared.Number n ∷ others)) types e in
    let h = types_take rest b.0 b.1 in
    subst (λ (ds : List Declared). (Space ∷ Number n ∷ rest ≡ types_tokens ds) × AllByRecursion TypeFits ds) (same_Some (declared.Number n ∷ b.0) types b.2) (ap (λ (us : List Token). Space ∷ Number n ∷ us) h.0, (tt, h.1))
types_take (Space ∷ Word words.Name ∷ Text s ∷ rest) types e =
    let t = bind_some (text_in s) (λ (name : List ℕ). types_in rest >>= λ others. Some (declared.Name name ∷ others)) types e in
    let b = bind_some (types_in rest) (λ (others : List Declared). Some (declared.Name t.0 ∷ others)) types t.2 in
    let u = unicode s t.0 t.1 in
    let h = types_take rest b.0 b.1 in
    subst (λ (ds : List Declared). (Space ∷ Word words.Name ∷ Text s ∷ rest ≡ types_tokens ds) × AllByRecursion TypeFits ds) (same_Some (declared.Name t.0 ∷ b.0) types b.2)
    (ap (λ (v : List ℕ). Space ∷ Word words.Name ∷ Text v ∷ rest) u.1 ∙ ap (λ (us : List Token). Space ∷ Word words.Name ∷ Text t.0 ∷ us) h.0, (u.0, h.1))
types_take (Space ∷ Word words.Array ∷ Text s ∷ rest) types e =
    let t = bind_some (text_in s) (λ (name : List ℕ). types_in rest >>= λ others. Some (declared.ArrayOf name ∷ others)) types e in
    let b = bind_some (types_in rest) (λ (others : List Declared). Some (declared.ArrayOf t.0 ∷ others)) types t.2 in
    let u = unicode s t.0 t.1 in
    let h = types_take rest b.0 b.1 in
    subst (λ (ds : List Declared). (Space ∷ Word words.Array ∷ Text s ∷ rest ≡ types_tokens ds) × AllByRecursion TypeFits ds) (same_Some (declared.ArrayOf t.0 ∷ b.0) types b.2)
    (ap (λ (v : List ℕ). Space ∷ Word words.Array ∷ Text v ∷ rest) u.1 ∙ ap (λ (us : List Token). Space ∷ Word words.Array ∷ Text t.0 ∷ us) h.0, (u.0, h.1))
types_take _ types e = absurd cc

abbrev preparation : List ℕ → List Declared → Preparation
preparation sql types = record { sql = sql; types = types }

pub prepare_takes : (ts : List Token) (p : Preparation) → prepare_arg ts ≡ Some p → (ts ≡ preparation_tokens p) × PreparationFits p
prepare_takes (Space ∷ Text s ∷ rest) p e =
    let sql = bind_some (text_in s) (λ (sql : List ℕ). types_in rest >>= λ types. Some (preparation sql types)) p e in
    let types = bind_some (types_in rest) (λ (types : List Declared). Some (preparation sql.0 types)) p sql.2 in
    let u = unicode s sql.0 sql.1 in
    let h = types_take rest types.0 types.1 in
    let tokens = ap (λ (v : List ℕ). Space ∷ Text v ∷ rest) u.1 ∙ ap (λ (ts : List Token). Space ∷ Text sql.0 ∷ ts) h.0 in
    subst (λ (q : Preparation). (Space ∷ Text s ∷ rest ≡ preparation_tokens q) × PreparationFits q) (same_Some (preparation sql.0 types.0) p types.2) (tokens, (u.0, h.1))
prepare_takes _ p e = absurd cc

-- ---- the turns of the loop

abbrev pub with_front : {A : Type 0} → List A → Option (List A) → Option (List A)
with_front front o = o >>= λ more. Some (front ++ more)

pub behind_one : {A : Type 0} (front : List A) (n : A) (o : Option (List A)) → with_front (front ++ n ∷ []) o ≡ with_front front (o >>= λ others. Some (n ∷ others))
behind_one front n None = refl
behind_one front n (Some more) = ap Some (append_assoc front (n ∷ []) more)

-- what one type and those behind it come to
type_then : (ts : List Token) (x : Declared × List Token) → type_at ts ≡ Some x → (types_in ts ≡ (types_in x.1 >>= λ others. Some (x.0 ∷ others))) × (length x.1 < length ts)
type_then (Space ∷ Number n ∷ rest) x e = subst (λ (y : Declared × List Token). (types_in (Space ∷ Number n ∷ rest) ≡ (types_in y.1 >>= λ others. Some (y.0 ∷ others))) × (length y.1 < length (Space ∷ Number n ∷ rest))) (same_Some (declared.Number n, rest) x e) (refl, omega arith)
type_then (Space ∷ Word words.Name ∷ Text s ∷ rest) x e =
    let t = bind_some (text_in s) (λ (name : List ℕ). Some (declared.Name name, rest)) x e in
    subst (λ (y : Declared × List Token). (types_in (Space ∷ Word words.Name ∷ Text s ∷ rest) ≡ (types_in y.1 >>= λ others. Some (y.0 ∷ others))) × (length y.1 < length (Space ∷ Word words.Name ∷ Text s ∷ rest))) (same_Some (declared.Name t.0, rest) x t.2)
    (ap (λ (o : Option (List ℕ)). o >>= λ name. types_in rest >>= λ others. Some (declared.Name name ∷ others)) t.1, omega arith)
type_then (Space ∷ Word words.Array ∷ Text s ∷ rest) x e =
    let t = bind_some (text_in s) (λ (name : List ℕ). Some (declared.ArrayOf name, rest)) x e in
    subst (λ (y : Declared × List Token). (types_in (Space ∷ Word words.Array ∷ Text s ∷ rest) ≡ (types_in y.1 >>= λ others. Some (y.0 ∷ others))) × (length y.1 < length (Space ∷ Word words.Array ∷ Text s ∷ rest))) (same_Some (declared.ArrayOf t.0, rest) x t.2)
    (ap (λ (o : Option (List ℕ)). o >>= λ name. types_in rest >>= λ others. Some (declared.ArrayOf name ∷ others)) t.1, omega arith)
type_then _ x e = absurd cc

pub types_next : (front : List Declared) (ts : List Token) (x : Declared × List Token) (total : Option (List Declared)) → type_at ts ≡ Some x → with_front front (types_in ts) ≡ total → with_front (front ++ x.0 ∷ []) (types_in x.1) ≡ total
types_next front ts x total e so_far = behind_one front x.0 (types_in x.1) ∙ ap (λ (o : Option (List Declared)). with_front front o) (sym (type_then ts x e).0) ∙ so_far

pub types_shorter : (ts : List Token) (x : Declared × List Token) → type_at ts ≡ Some x → length x.1 < length ts
types_shorter ts x e = (type_then ts x e).1

pub types_fail : (error : LineError) (front : List Declared) (ts : List Token) (total : Option (List Declared)) → 0 < length ts → Fails error (type_at ts) → with_front front (types_in ts) ≡ total → Fails error total
types_fail errors.OutOfMemory front ts total some f so_far = tt
types_fail errors.Bad front [] total some f so_far = absurd (omega (arith, some))
types_fail errors.Bad front (Space ∷ Number n ∷ rest) total some f so_far = absurd cc
types_fail errors.Bad front (Space ∷ Word words.Name ∷ Text s ∷ rest) total some f so_far = by (text_in s) refl f
  where
    by : (o : Option (List ℕ)) → text_in s ≡ o → Fails {Y = Declared × List Token} errors.Bad (o >>= λ name. Some (declared.Name name, rest)) → Fails errors.Bad total
    by None e g = sym so_far ∙ ap (λ (o : Option (List ℕ)). with_front front (o >>= λ name. types_in rest >>= λ others. Some (declared.Name name ∷ others))) e
    by (Some name) e g = absurd cc
types_fail errors.Bad front (Space ∷ Word words.Array ∷ Text s ∷ rest) total some f so_far = by (text_in s) refl f
  where
    by : (o : Option (List ℕ)) → text_in s ≡ o → Fails {Y = Declared × List Token} errors.Bad (o >>= λ name. Some (declared.ArrayOf name, rest)) → Fails errors.Bad total
    by None e g = sym so_far ∙ ap (λ (o : Option (List ℕ)). with_front front (o >>= λ name. types_in rest >>= λ others. Some (declared.ArrayOf name ∷ others))) e
    by (Some name) e g = absurd cc
types_fail errors.Bad front _ total some f so_far = sym so_far

-- ---- and back

types_again : (types : List Declared) → AllByRecursion TypeFits types → types_in (types_tokens types) ≡ Some types
types_again [] f = refl
types_again (declared.Number n ∷ more) f = rw (types_again more f.1) refl
types_again (declared.Name name ∷ more) f = rw (f.0, types_again more f.1) refl
types_again (declared.ArrayOf element ∷ more) f = rw (f.0, types_again more f.1) refl

pub prepare_again : (p : Preparation) → PreparationFits p → prepare_arg (preparation_tokens p) ≡ Some p
prepare_again p f = rw (f.0, types_again p.types f.1) refl

-- no two words stand side by side
pub types_apart : (t : Token) (types : List Declared) → apart (t ∷ types_tokens types) ≡ true
types_apart t [] = refl
types_apart t (declared.Number n ∷ more) = spaced (is_word t) _ ∙ types_apart (Number n) more
types_apart t (declared.Name name ∷ more) = spaced (is_word t) _ ∙ types_apart (Text name) more
types_apart t (declared.ArrayOf element ∷ more) = spaced (is_word t) _ ∙ types_apart (Text element) more
