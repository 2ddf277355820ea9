-- The arguments of statements, as a caller adds them and as the server gets them.
use Rattle.std.proofs.Common.{◌≡◌, ℕ, zero, suc, ◌∷◌, ◌++◌, [], List, Option, Some, None, Bool, true, false, cond, nat_lt, length, map, refl, sym, ap, ◌∙◌, subst, Result, Ok, Err, to_z, of_z}
use Rattle.std.proofs.lemmas.Int.{to_z-of_z}
use Rattle.std.specs.Int.{w64}
use Rattle.std.specs.Prelude.{ℤ, FitsSigned, slice_get}
use Rattle.std.proofs.lemmas.List.{map-append, length-map}
use Rattle.std.proofs.lemmas.Bool.{ltb-true}
use Rattle.pg_wire.specs.declared.error.Error.{Error}
use Rattle.pg_wire.specs.declared.error.Error.TheVariants as errors
use Rattle.pg_request.specs.Queries.{QueryText}
use Rattle.pg_request.specs.Asked.{are_numbered, names_in, oids_in, sent_as, bytes_of, HasBytesOf, AsksWith, kept_query}
use Rattle.pg_arguments.specs.Types.{TypeParts, oid_of}
use Rattle.pg_arguments.specs.Builtin.{builtin_types, type_under}
use Rattle.pg_arguments.specs.Encoded.{Encoded, plain, wires}
use Rattle.pg_arguments.specs.Images.{signed64_bytes}
use Rattle.pg_arguments.specs.Encoding.{Image, value_of, RefusesArgument}
use Rattle.pg_arguments.specs.Arguments.{Arguments, AddsArgument, AddsToValues}
use Rattle.pg_call.specs.declared.kind.How.{How}
use Rattle.pg_call.specs.declared.request.Request.{Request}
use Rattle.pg_migrate.specs.Orders.{Bound, Int8, Words, Bytes, Prepared}
use Rattle.pg_migrating.specs.Requests.{AreBound, RefusesBounds, RefusesStatement, IsRequestOf, IsTooLong, arguments_of, bound_bytes, bound_oid, bound_type, bound_value}

-- ---- their types have OIDs, and none is open in their values

has_oid : (b : Bound) → oid_of (bound_type b) ≡ Some (bound_oid b)
unfolding builtin_types
has_oid (Int8 z) = refl
has_oid (Words text) = refl
has_oid (Bytes bytes) = refl

all_numbered : (bounds : List Bound) → are_numbered (map bound_type bounds) ≡ true
all_numbered [] = refl
all_numbered (b ∷ more) = rw (has_oid b) (all_numbered more)

none_named : (bounds : List Bound) → names_in (map bound_type bounds) ≡ []
none_named bounds = rw (all_numbered bounds) refl

all_oids : (bounds : List Bound) → oids_in (map bound_type bounds) ≡ map bound_oid bounds
all_oids [] = refl
all_oids (b ∷ more) = rw (has_oid b) (ap (λ (ns : List ℕ). bound_oid b ∷ ns) (all_oids more))

none_open : (bounds : List Bound) → (wires (map bound_value bounds)).holes ≡ []
none_open [] = refl
none_open (b ∷ more) = rw (none_open more) refl

all_bytes : (bounds : List Bound) → bytes_of (map bound_value bounds) ≡ map (λ (b : Bound). Some (bound_bytes b)) bounds
all_bytes [] = refl
all_bytes (b ∷ more) = ap (λ (vs : List (Option (List ℕ))). Some (bound_bytes b) ∷ vs) (all_bytes more)

holes_sent : (bounds : List Bound) (a : Arguments) → AreBound bounds a → a.encoded.holes ≡ []
holes_sent bounds a h = ap (λ (e : Encoded). e.holes) h.values.2 ∙ none_open bounds

-- ---- the query

pub query_is : (bounds : List Bound) (sql : List ℕ) (a : Arguments) (q : QueryText) → AreBound bounds a → AsksWith a q.arguments → q ≡ kept_query sql (sent_as a) → q ≡ kept_query sql (arguments_of bounds)
query_is bounds sql a q h v e =
    let types : oids_in a.types ≡ map bound_oid bounds = ap oids_in h.types ∙ all_oids bounds in
    let values : HasBytesOf a (sent_as a) = subst (λ (x : QueryText). AsksWith a x.arguments) e v in
    let names : names_in a.types ≡ [] = ap names_in h.types ∙ none_named bounds in
    rw (e, types, names, values (map bound_value bounds) h.values, all_bytes bounds, holes_sent bounds a h) refl

-- ---- one after the other

pub none_bound : (a : Arguments) → a.types ≡ [] → a.encoded ≡ plain [] → AreBound [] a
none_bound a t e = record { types = t; values = (rw t refl, tt, e) }

one_more : (before : List Bound) (b : Bound) (old new : Arguments) → AreBound before old → AddsArgument (bound_type b) (value_of (Image (plain (bound_bytes b)))) old new → AddsToValues (value_of (Image (plain (bound_bytes b)))) old new → AreBound (before ++ b ∷ []) new
one_more before b old new h = by (nat_lt 2147483647 (length (bound_bytes b)))
  where
    by : (long : Bool) → AddsArgument (bound_type b) (cond long None (Some (bound_value b))) old new → AddsToValues (cond long None (Some (bound_value b))) old new → AreBound (before ++ b ∷ []) new
    by true a v = absurd a
    by false a v = record {
      types = a.0 ∙ ap (λ (ts : List TypeParts). ts ++ bound_type b ∷ []) h.types ∙ sym (map-append bound_type before (b ∷ []));
      values = rw (map-append bound_value before (b ∷ [])) (v (map bound_value before) h.values);
    }

too_long : (b : Bound) → value_of (Image (plain (bound_bytes b))) ≡ None → IsTooLong b
too_long b = by (nat_lt 2147483647 (length (bound_bytes b))) refl
  where
    by : (long : Bool) → nat_lt 2147483647 (length (bound_bytes b)) ≡ long → ◌≡◌ {A = Option (Option Encoded)} (cond long None (Some (bound_value b))) None → IsTooLong b
    by true is e = ltb-true 2147483647 (length (bound_bytes b)) is
    by false is e = absurd cc

-- so many have stood before it
bound_length : (bounds : List Bound) (a : Arguments) → AreBound bounds a → length a.types ≡ length bounds
bound_length bounds a h = rw h.types (length-map bounds bound_type)

-- what was refused before is refused
get_before : (bounds : List Bound) (b : Bound) (place : ℕ) (found : Bound) → slice_get bounds place ≡ Some found → slice_get (bounds ++ b ∷ []) place ≡ Some found
get_before [] b place found e = absurd cc
get_before (first ∷ more) b zero found e = e
get_before (first ∷ more) b (suc place) found e = get_before more b place found e

pub refuses_more : (before : List Bound) (b : Bound) (e : Error) → RefusesBounds before e → RefusesBounds (before ++ b ∷ []) e
refuses_more before b errors.OutOfMemory r = tt
refuses_more before b (errors.Encode index) r = (r.0, get_before before b index r.0 r.1, r.2)
refuses_more before b e r = absurd r

-- or the one that is added
get_last : (bounds : List Bound) (b : Bound) → slice_get (bounds ++ b ∷ []) (length bounds) ≡ Some b
get_last [] b = refl
get_last (first ∷ more) b = get_last more b

refuses_last : (before : List Bound) (b : Bound) (a : Arguments) (e : Error) → AreBound before a → RefusesArgument (length a.types) (value_of (Image (plain (bound_bytes b)))) e → RefusesBounds (before ++ b ∷ []) e
refuses_last before b a errors.OutOfMemory h r = tt
refuses_last before b a (errors.Encode index) h r = (b, rw (r.0 ∙ bound_length before a h) (get_last before b), too_long b r.1)
refuses_last before b a e h r = absurd r

-- an argument as it is added: by its type and its bytes
pub adds : (before : List Bound) (b : Bound) (oid : ℕ) (image : List ℕ) (of : TypeParts) (old new : Arguments) → bound_oid b ≡ oid → bound_bytes b ≡ image → of ≡ type_under oid → AreBound before old → AddsArgument of (value_of (Image (plain image))) old new → AddsToValues (value_of (Image (plain image))) old new → AreBound (before ++ b ∷ []) new
adds before b oid image of old new o i t h a v =
    let of_its_type : AddsArgument (bound_type b) (value_of (Image (plain image))) old new = subst (λ (x : TypeParts). AddsArgument x (value_of (Image (plain image))) old new) (t ∙ sym (ap type_under o)) a in
    one_more before b old new h (subst (λ (x : List ℕ). AddsArgument (bound_type b) (value_of (Image (plain x))) old new) (sym i) of_its_type) (subst (λ (x : List ℕ). AddsToValues (value_of (Image (plain x))) old new) (sym i) v)

pub refuses_added : (before : List Bound) (b : Bound) (image : List ℕ) (a : Arguments) (e : Error) → bound_bytes b ≡ image → AreBound before a → RefusesArgument (length a.types) (value_of (Image (plain image))) e → RefusesBounds (before ++ b ∷ []) e
refuses_added before b image a e i h r = refuses_last before b a e h (subst (λ (x : List ℕ). RefusesArgument (length a.types) (value_of (Image (plain x))) e) (sym i) r)

-- an int8 that was handed to a call is the same
pub int8_image : (image : List ℕ) (z : ℤ) → FitsSigned w64 z → image ≡ signed64_bytes (to_z w64 (of_z w64 z)) → signed64_bytes z ≡ image
int8_image image z fits e = subst (λ (x : ℤ). signed64_bytes x ≡ image) (to_z-of_z w64 z fits) (sym e)

-- ---- the request

pub refuses_bounds : (sql : List ℕ) (bounds : List Bound) (e : Error) → RefusesBounds bounds e → RefusesStatement (Prepared sql bounds) e
refuses_bounds sql bounds errors.OutOfMemory r = tt
refuses_bounds sql bounds (errors.Encode index) r = r
refuses_bounds sql bounds e r = absurd r

pub refuses_query : (sql : List ℕ) (bounds : List Bound) (e : Error) → e ≡ errors.OutOfMemory → RefusesStatement (Prepared sql bounds) e
refuses_query sql bounds e memory = rw memory tt

-- by another name of its text
pub asks_text : (how : How) (sql given : List ℕ) (bounds : List Bound) (result : Result Request Error) → given ≡ sql → IsRequestOf how 0 (Prepared given bounds) result → IsRequestOf how 0 (Prepared sql bounds) result
asks_text how sql given bounds result e h = subst (λ (text : List ℕ). IsRequestOf how 0 (Prepared text bounds) result) e h

-- so many transactions are open at a statement that opens and ends none
pub at_depth : (how : How) (depth : ℕ) (sql : List ℕ) (bounds : List Bound) (result : Result Request Error) → IsRequestOf how 0 (Prepared sql bounds) result → IsRequestOf how depth (Prepared sql bounds) result
at_depth how depth sql bounds (Ok r) h = h
at_depth how depth sql bounds (Err e) h = h

-- a number that was handed to a call is the same
pub kept_int8 : (P : ℤ → Type 0) (z : ℤ) → FitsSigned w64 z → P (to_z w64 (of_z w64 z)) → P z
kept_int8 P z fits h = subst P (to_z-of_z w64 z fits) h
