-- The values that arguments are made of.
use Rattle.std.proofs.Common.{◌≡◌, ℕ, ◌<◌, List, [], ◌∷◌, ◌++◌, length, Option, Some, None, refl, sym, ap, ◌∙◌, arith}
use Rattle.std.specs.Prelude.{Result, Ok, Err, OnOk, OnErr}
use Rattle.std.specs.List.{AllByRecursion}
use Rattle.std.proofs.lemmas.List.{length-append}
use Rattle.std.proofs.Math.Logic.{∥∥₁_map, ∥∥₁_elim}
use Rattle.std.proofs.Math.Nat.{ℕ_set}
use Rattle.pg_arguments.specs.Types.{TypeParts}
use Rattle.pg_arguments.specs.Encoded.{Encoded, joined, wire, wires, FitsWire, patched}
use Rattle.pg_arguments.specs.Encoding.{AddsValue}
use Rattle.pg_arguments.specs.Arguments.{Arguments, AreMadeOf, AddsToValues, AsIfKnown, open_in, known_in}
use Rattle.pg_wire.specs.Bytes.{number32}
use Rattle.pg_arguments.proofs.JoinLaws.{joined-assoc, joined_nil, joined_first}
use Rattle.pg_arguments.proofs.PatchLaws.{patch_values, known_there, fits_there, as_long}

pub wires-push : (values : List (Option Encoded)) (v : Option Encoded) → wires (values ++ v ∷ []) ≡ joined (wires values) (wire v)
wires-push [] v = joined_nil (wire v) ∙ sym (joined_first (wire v))
wires-push (x ∷ xs) v = ap (joined (wire x)) (wires-push xs v) ∙ sym (joined-assoc (wire x) (wires xs) (wire v))

fits_push : (values : List (Option Encoded)) (v : Option Encoded) → AllByRecursion FitsWire values → FitsWire v → AllByRecursion FitsWire (values ++ v ∷ [])
fits_push [] v h f = (f, tt)
fits_push (x ∷ xs) v h f = (h.0, fits_push xs v h.1 f)

pub made_of_next : (types : List TypeParts) (of : TypeParts) (old new : Encoded) (v : Option Encoded) (values : List (Option Encoded)) → new ≡ joined old (wire v) → FitsWire v
    → AreMadeOf types old values → AreMadeOf (types ++ of ∷ []) new (values ++ v ∷ [])
made_of_next types of old new v values e f m =
    (omega (arith, m.0, length-append values (v ∷ []), length-append types (of ∷ [])), fits_push values v m.1 f, e ∙ ap (λ (x : Encoded). joined x (wire v)) m.2 ∙ sym (wires-push values v))

pub still_made_of : {T E : Type 0} (r : Result T E) (types after : List TypeParts) (one : TypeParts) (old new : Encoded) (value : Option (Option Encoded))
    → OnOk r (after ≡ types ++ one ∷ []) → OnOk r (AddsValue value old new) → OnErr r (after ≡ types) → OnErr r (new ≡ old)
    → ∥ ((values : List (Option Encoded)) × AreMadeOf types old values) ∥₁ → ∥ ((values : List (Option Encoded)) × AreMadeOf after new values) ∥₁
still_made_of (Ok x) types after one old new None t a s b h = absurd a
still_made_of (Ok x) types after one old new (Some v) t a s b h = rw t (∥∥₁_map h (λ m. (m.0 ++ v ∷ [], made_of_next types one old new v m.0 a.0 a.1 m.1)))
still_made_of (Err e) types after one old new value t a s b h = rw (s, b) h

pub adds_to_values : {T E : Type 0} (r : Result T E) (one : TypeParts) (old new : Arguments) (value : Option (Option Encoded))
    → OnOk r (new.types ≡ old.types ++ one ∷ []) → OnOk r (AddsValue value old.encoded new.encoded) → OnOk r (AddsToValues value old new)
adds_to_values (Ok x) one old new None t a = absurd a
adds_to_values (Ok x) one old new (Some v) t a = λ values m. rw t (made_of_next old.types one old.encoded new.encoded v values a.0 a.1 m)
adds_to_values (Err e) one old new value t a = tt

count_wires : (values : List (Option Encoded)) → (wires values).values ≡ length values
count_wires [] = refl
count_wires (None ∷ vs) = omega (arith, count_wires vs)
count_wires (Some e ∷ vs) = omega (arith, count_wires vs)

pub one_each : (types : List TypeParts) (e : Encoded) → ∥ ((values : List (Option Encoded)) × AreMadeOf types e values) ∥₁ → e.values ≡ length types
one_each types e h = ∥∥₁_elim h (ℕ_set e.values (length types)) (λ m. ap (λ (x : Encoded). x.values) m.1.2 ∙ count_wires m.0 ∙ m.1.0)

pub patched_values : (types : List TypeParts) (old new : Encoded) (k oid : ℕ) → k < length old.holes → new ≡ patched k oid old
    → ∥ ((values : List (Option Encoded)) × AreMadeOf types old values) ∥₁ → ∥ ((values : List (Option Encoded)) × AreMadeOf types new values) ∥₁
patched_values types old new k oid lt e h =
    ∥∥₁_map h (λ m.
    let below : k < length (wires m.0).holes = omega (arith, lt, ap (λ (x : Encoded). length x.holes) m.1.2) in
    let p = patch_values (number32 oid) refl m.0 k m.1.1 below in
    (p.0, (p.1 ∙ m.1.0, p.2, e ∙ ap (patched k oid) m.1.2 ∙ p.3)))

pub patched_as_if_known : (old new : Arguments) (k oid : ℕ) → new.types ≡ old.types → new.encoded ≡ patched k oid old.encoded → AsIfKnown k oid old new
patched_as_if_known old new k oid t e before after front back of m at =
    rw t (
      as_long before after (known_in front oid back) (open_in front of back) ∙ m.0,
      fits_there (number32 oid) refl before after front back of m.1,
      e ∙ ap (patched k oid) m.2 ∙ known_there (number32 oid) refl before after front back of k at,
    )
