-- The arguments that a script gives, as those of a call.
use Rattle.std.proofs.Common.{◌≡◌, ℕ, ◌∷◌, ◌++◌, [], List, Option, Some, None, Bool, true, false, cond, nat_eq, nat_lt, length, map, refl, sym, ap, ◌∙◌, subst, inl, inr}
use Rattle.std.specs.Prelude.{unwrap_or}
use Rattle.std.specs.List.{AllByRecursion}
use Rattle.std.proofs.lemmas.Bool.{eqb-true}
use Rattle.std.proofs.lemmas.Option.{same_Some}
use Rattle.pg_request.specs.Queries.{QueryText}
use Rattle.pg_request.specs.Asked.{names_in, oids_in, sent_as, HasBytesOf, AsksWith, kept_query}
use Rattle.pg_arguments.specs.Types.{TypeParts, oid_of, numbered_type}
use Rattle.pg_arguments.specs.Builtin.{Builtin, builtin_types, builtin_type, first_under, or_else, type_under, under, single_of}
use Rattle.pg_arguments.specs.Encoded.{Encoded, plain, joined, wires}
use Rattle.pg_arguments.specs.Encoding.{Encoding, Refused, Image, value_of}
use Rattle.pg_arguments.specs.Images.{bool_image, signed16_image, signed32_image, signed64_image, oid_image}
use Rattle.pg_arguments.specs.Arrays.{array_head, elements, more_elements, array_encoding}
use Rattle.pg_arguments.specs.Arguments.{Arguments, AddsArgument, AddsToValues}
use Rattle.pg_arguments.proofs.ElementLaws.{elements_push}
use Rattle.pg_script.specs.declared.argument.Bare.{Bare}
use Rattle.pg_script.specs.declared.argument.Bare.TheVariants as bare
use Rattle.pg_script.specs.declared.argument.Argument.{Argument}
use Rattle.pg_script.specs.declared.argument.Argument.TheVariants as given
use Rattle.pg_script.specs.declared.error.LineError.{LineError}
use Rattle.pg_script.specs.declared.error.LineError.TheVariants as errors
use Rattle.pg_script.specs.Reading.{Fails}
use Rattle.pg_script.specs.Given.{bare_oid, bare_encoding, argument_oid, argument_type, argument_encoding, given_query, AreEncoded}
use Rattle.pg_script.proofs.SpellingLaws.{none_some, unless}
use Rattle.pg_wire.proofs.Tests.{chosen, guarded}

-- ---- their types have OIDs

under_oid : (n : ℕ) (b : Builtin) (t : TypeParts) → under n b ≡ Some t → oid_of t ≡ Some n
under_oid n b t e = elim (chosen (nat_eq b.oid n) (Some (single_of b)) _ (Some t) e) [
  | inl p ↦ subst (λ (x : TypeParts). oid_of x ≡ Some n) (same_Some (single_of b) t p.1) (ap Some (eqb-true b.oid n p.0))
  | inr p ↦ (let g = guarded (nat_eq b.array n) _ t p.1 in subst (λ (x : TypeParts). oid_of x ≡ Some n) (same_Some _ t g.1) refl)
]

first_oid : (n : ℕ) (rows : List Builtin) (t : TypeParts) → first_under n rows ≡ Some t → oid_of t ≡ Some n
first_oid n [] t e = absurd (none_some t e)
first_oid n (b ∷ rows) t e = by (under n b) refl (first_oid n rows t) e
  where
    by : (o : Option TypeParts) → under n b ≡ o → (first_under n rows ≡ Some t → oid_of t ≡ Some n) → or_else o (first_under n rows) ≡ Some t → oid_of t ≡ Some n
    by None is more e = more e
    by (Some x) is more e = subst (λ (y : TypeParts). oid_of y ≡ Some n) (same_Some x t e) (under_oid n b x is)

type_oid : (n : ℕ) → oid_of (type_under n) ≡ Some n
type_oid n = by (builtin_type n) refl
  where
    by : (o : Option TypeParts) → builtin_type n ≡ o → oid_of (unwrap_or o (numbered_type n)) ≡ Some n
    by None is = refl
    by (Some t) is = first_oid n builtin_types t (unless (nat_eq n 0) (first_under n builtin_types) t is).1

oid_given : (a : Argument) → unwrap_or (oid_of (argument_type a)) 0 ≡ argument_oid a
oid_given (given.Named name image) = refl
oid_given (given.Bare b) = ap (λ (o : Option ℕ). unwrap_or o 0) (type_oid (bare_oid b))
oid_given (given.Text s) = ap (λ (o : Option ℕ). unwrap_or o 0) (type_oid 25)
oid_given (given.Bytea s) = ap (λ (o : Option ℕ). unwrap_or o 0) (type_oid 17)
oid_given (given.Texts ss) = ap (λ (o : Option ℕ). unwrap_or o 0) (type_oid 1009)

all_oids : (given : List Argument) → oids_in (map argument_type given) ≡ map argument_oid given
all_oids [] = refl
all_oids (a ∷ more) = ap (λ (n : ℕ). n ∷ oids_in (map argument_type more)) (oid_given a) ∙ ap (λ (ns : List ℕ). argument_oid a ∷ ns) (all_oids more)

-- ---- and no OID is open in their values

abbrev Closed : Option Encoded → Type 0
Closed None = Unit {0}
Closed (Some e) = e.holes ≡ []

wires_closed : (values : List (Option Encoded)) → AllByRecursion Closed values → (wires values).holes ≡ []
wires_closed [] h = refl
wires_closed (None ∷ vs) h = rw (wires_closed vs h.1) refl
wires_closed (Some e ∷ vs) h = rw (h.0, wires_closed vs h.1) refl

image_closed : (e : Encoded) (v : Option Encoded) → e.holes ≡ [] → value_of (Image e) ≡ Some v → Closed v
image_closed e v h is = subst Closed (same_Some (Some e) v (unless (nat_lt 2147483647 (length e.bytes)) (Some (Some e)) v is).1) h

elements_closed : {X : Type 0} (encoding : X → Encoding) → ((x : X) (v : Option Encoded) → value_of (encoding x) ≡ Some v → Closed v) → (xs : List X) (vs : List (Option Encoded)) → elements encoding xs ≡ Some vs → AllByRecursion Closed vs
elements_closed encoding closed [] vs e = subst (AllByRecursion Closed) (same_Some [] vs e) tt
elements_closed {X} encoding closed (x ∷ xs) vs e = by (value_of (encoding x)) (elements encoding xs) refl (elements_closed encoding closed xs) e
  where
    by : (v : Option (Option Encoded)) (rest : Option (List (Option Encoded))) → value_of (encoding x) ≡ v → ((us : List (Option Encoded)) → rest ≡ Some us → AllByRecursion Closed us) → more_elements v rest ≡ Some vs → AllByRecursion Closed vs
    by None rest is h e = absurd (none_some vs e)
    by (Some v) None is h e = absurd (none_some vs e)
    by (Some v) (Some us) is h e = subst (AllByRecursion Closed) (same_Some (v ∷ us) vs e) (closed x v is, h us refl)

head_closed : (n count : ℕ) → (array_head (type_under n) count).holes ≡ []
head_closed n count = rw (type_oid n) refl

array_closed : (n : ℕ) (values : Option (List (Option Encoded))) (v : Option Encoded) → ((us : List (Option Encoded)) → values ≡ Some us → AllByRecursion Closed us) → value_of (array_encoding (type_under n) values) ≡ Some v → Closed v
array_closed n None v h e = absurd (none_some v e)
array_closed n (Some vs) v h e = by (nat_lt 2147483647 (length vs)) e
  where
    open_none : (joined (array_head (type_under n) (length vs)) (wires vs)).holes ≡ []
    open_none = rw (head_closed n (length vs), wires_closed vs (h vs refl)) refl

    by : (long : Bool) → value_of (cond long Refused (Image (joined (array_head (type_under n) (length vs)) (wires vs)))) ≡ Some v → Closed v
    by true e = absurd (none_some v e)
    by false e = image_closed (joined (array_head (type_under n) (length vs)) (wires vs)) v open_none e

bare_closed : (b : Bare) (v : Option Encoded) → value_of (bare_encoding b) ≡ Some v → Closed v
bare_closed (bare.Null oid) v e = subst Closed (same_Some None v e) tt
bare_closed (bare.Int4s zs) v e = array_closed 23 (elements (λ z. Image (signed32_image z)) zs) v (elements_closed (λ z. Image (signed32_image z)) (λ z w. image_closed (signed32_image z) w refl) zs) e
bare_closed (bare.Bool b) v e = image_closed (bool_image b) v refl e
bare_closed (bare.Int2 z) v e = image_closed (signed16_image z) v refl e
bare_closed (bare.Int4 z) v e = image_closed (signed32_image z) v refl e
bare_closed (bare.Int8 z) v e = image_closed (signed64_image z) v refl e
bare_closed (bare.Oid n) v e = image_closed (oid_image n) v refl e

argument_closed : (a : Argument) (v : Option Encoded) → value_of (argument_encoding a) ≡ Some v → Closed v
argument_closed (given.Bare b) v e = bare_closed b v e
argument_closed (given.Text s) v e = image_closed (plain s) v refl e
argument_closed (given.Bytea s) v e = image_closed (plain s) v refl e
argument_closed (given.Named name image) v e = image_closed (plain image) v refl e
argument_closed (given.Texts ss) v e = array_closed 25 (elements (λ s. Image (plain s)) ss) v (elements_closed (λ s. Image (plain s)) (λ s w. image_closed (plain s) w refl) ss) e

-- ---- arguments one after the other

pub none_given : (a : Arguments) → a.types ≡ [] → a.encoded ≡ plain [] → AreEncoded [] a
none_given a t e = record { values = []; encoded = refl; types = t; made = (rw t refl, tt, e) }

map_push : (given : List Argument) (x : Argument) → map argument_type (given ++ x ∷ []) ≡ map argument_type given ++ argument_type x ∷ []
map_push [] x = refl
map_push (a ∷ more) x = ap (λ (ts : List TypeParts). argument_type a ∷ ts) (map_push more x)

pub one_more_given : (given : List Argument) (x : Argument) (old new : Arguments) → AreEncoded given old → AddsArgument (argument_type x) (value_of (argument_encoding x)) old new → AddsToValues (value_of (argument_encoding x)) old new → AreEncoded (given ++ x ∷ []) new
one_more_given given x old new h a v = by (value_of (argument_encoding x)) refl a v
  where
    by : (o : Option (Option Encoded)) → value_of (argument_encoding x) ≡ o → AddsArgument (argument_type x) o old new → AddsToValues o old new → AreEncoded (given ++ x ∷ []) new
    by None is a v = absurd a
    by (Some e) is a v = record {
      values = h.values ++ e ∷ [];
      encoded = elements_push argument_encoding given x ∙ rw (h.encoded, is) refl;
      types = a.0 ∙ ap (λ (ts : List TypeParts). ts ++ argument_type x ∷ []) h.types ∙ sym (map_push given x);
      made = v h.values h.made;
    }

none_more : (a : Option (Option Encoded)) → more_elements a None ≡ None
none_more None = refl
none_more (Some a) = refl

refused_behind : (xs : List Argument) (x : Argument) (ys : List Argument) → value_of (argument_encoding x) ≡ None → elements argument_encoding (xs ++ x ∷ ys) ≡ None
refused_behind [] x ys e = rw e refl
refused_behind (y ∷ xs) x ys e = ap (more_elements (value_of (argument_encoding y))) (refused_behind xs x ys e) ∙ none_more (value_of (argument_encoding y))

pub fails_given : (error : LineError) (given done behind : List Argument) (x : Argument) → given ≡ done ++ x ∷ behind → Fails error (value_of (argument_encoding x)) → Fails error (elements argument_encoding given)
fails_given errors.OutOfMemory given done behind x e f = tt
fails_given errors.Bad given done behind x e f = rw e (refused_behind done x behind f)

-- ---- the query

none_open : (given : List Argument) (a : Arguments) → AreEncoded given a → a.encoded.holes ≡ []
none_open given a h = ap (λ (e : Encoded). e.holes) h.made.2 ∙ wires_closed h.values (elements_closed argument_encoding argument_closed given h.values h.encoded)

pub given_is : (persistent : Bool) (sql : List ℕ) (given : List Argument) (a : Arguments) (q : QueryText) → AreEncoded given a → AsksWith a q.arguments → q ≡ kept_query sql (sent_as a) → given_query persistent sql given ≡ Some (record q { persistent = persistent })
given_is persistent sql given a q h v e =
    let types : oids_in a.types ≡ map argument_oid given = ap oids_in h.types ∙ all_oids given in
    let values : HasBytesOf a (sent_as a) = subst (λ (x : QueryText). AsksWith a x.arguments) e v in
    let names : names_in a.types ≡ names_in (map argument_type given) = ap names_in h.types in
    rw (e, types, names, values h.values h.made, none_open given a h, h.encoded) refl
