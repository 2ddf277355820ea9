-- Values that stand behind each other are read back.
use Rattle.std.proofs.Common.{◌≡◌, ℕ, suc, List, [], ◌∷◌, ◌++◌, length, flat_map, Option, Some, None, refl, sym, ap, ap₂, ◌∙◌, append_assoc, append-nil, arith}
use Rattle.std.specs.Option.{option_map}
use Rattle.std.specs.List.{AllByRecursion}
use Rattle.std.specs.Coded.{coded_ℕ, coded_list}
use base.Stored.{Coded-set}
use mathlib.Core.HLevel.{×_prop}
use Rattle.std.proofs.Math.Logic.{∥∥₁_elim}
use Rattle.std.proofs.Math.Nat.{ℕ_set}
use Rattle.pg_wire.specs.Bytes.{value}
use Rattle.pg_wire.specs.Frontend.{FitsValue}
use Rattle.pg_wire.specs.Reading.{value_at, many_at}
use Rattle.pg_wire.proofs.ListLaws.{value_exact}
use Rattle.pg_arguments.specs.Encoded.{Encoded, wire, wires, FitsWire}
use Rattle.pg_arguments.specs.Arguments.{Arguments, HasValues}
use Rattle.pg_request.specs.declared.naming.Declared.{Declared}
use Rattle.pg_arguments.specs.declared.hole.Hole.{Hole}
use Rattle.pg_request.specs.declared.unresolved.Open.{Open}
use Rattle.pg_request.specs.Queries.{ArgumentsSeen, values_in, those_in, AreValues, nothing_open}
use Rattle.pg_request.specs.Asked.{bytes_of, declared_arguments, declared_names, filled, filled_by, numbers_in, patched_all, patched_first, typed_arguments}

-- as many values as there are, with some bytes behind them
values_again : (values : List (Option (List ℕ))) (rest : List ℕ) → AllByRecursion FitsValue values → many_at value_at (length values) (flat_map value values ++ rest) ≡ Some (values, rest)
unfolding many_at
values_again [] rest h = refl
values_again (v ∷ vs) rest h =
    ap (many_at value_at (suc (length vs))) (append_assoc (value v) (flat_map value vs) rest)
    ∙ rw (value_exact.again v (flat_map value vs ++ rest) h.0, values_again vs rest h.1) refl

-- and alone
values_read : (values : List (Option (List ℕ))) → AllByRecursion FitsValue values → values_in (length values) (flat_map value values) ≡ values
values_read values h = ap (λ (bytes : List ℕ). values_in (length values) bytes) (sym (append-nil (flat_map value values))) ∙ ap those_in (values_again values [] h)

-- ---- the values of arguments

wire_bytes : (v : Option Encoded) → (wire v).bytes ≡ value (option_map (λ (e : Encoded). e.bytes) v)
wire_bytes None = refl
wire_bytes (Some e) = refl

wires_bytes : (values : List (Option Encoded)) → (wires values).bytes ≡ flat_map value (bytes_of values)
wires_bytes [] = refl
wires_bytes (v ∷ vs) = ap (λ (x : List ℕ). x ++ (wires vs).bytes) (wire_bytes v) ∙ ap (λ (x : List ℕ). value (option_map (λ (e : Encoded). e.bytes) v) ++ x) (wires_bytes vs)

fits : (v : Option Encoded) → FitsWire v → FitsValue (option_map (λ (e : Encoded). e.bytes) v)
fits None h = tt
fits (Some e) h = omega (arith, h.0)

all_fit : (values : List (Option Encoded)) → AllByRecursion FitsWire values → AllByRecursion FitsValue (bytes_of values)
all_fit [] h = tt
all_fit (v ∷ vs) h = (fits v h.0, all_fit vs h.1)

as_many : (values : List (Option Encoded)) → length (bytes_of values) ≡ length values
as_many [] = refl
as_many (v ∷ vs) = ap suc (as_many vs)

values_sent : (a : Arguments) (values : List (Option Encoded)) → HasValues a values → values_in (length a.types) a.encoded.bytes ≡ bytes_of values
values_sent a values h =
    let count : length a.types ≡ length (bytes_of values) = sym h.0 ∙ sym (as_many values) in
    let bytes : a.encoded.bytes ≡ flat_map value (bytes_of values) = ap (λ (e : Encoded). e.bytes) h.2 ∙ wires_bytes values in
    ap (λ (n : ℕ). values_in n a.encoded.bytes) count ∙ ap (values_in (length (bytes_of values))) bytes ∙ values_read (bytes_of values) (all_fit values h.1)

are_sent : (a : Arguments) (values : List (Option Encoded)) → HasValues a values → AreValues (length a.types) a.encoded.bytes
are_sent a values h =
    let read = values_sent a values h in
    let bytes : a.encoded.bytes ≡ flat_map value (bytes_of values) = ap (λ (e : Encoded). e.bytes) h.2 ∙ wires_bytes values in
    (ap length read ∙ as_many values ∙ h.0, ap (flat_map value) read ∙ sym bytes)

bytes_set : IsSet (List ℕ)
bytes_set = Coded-set (coded_list coded_ℕ)

are_values_prop : (n : ℕ) (bytes : List ℕ) → IsProp (AreValues n bytes)
are_values_prop n bytes = ×_prop (ℕ_set (length (values_in n bytes)) n) (bytes_set (flat_map value (values_in n bytes)) bytes)

are_values : (a : Arguments) → ∥ ((values : List (Option Encoded)) × HasValues a values) ∥₁ → AreValues (length a.types) a.encoded.bytes
are_values a h = ∥∥₁_elim h (are_values_prop (length a.types) a.encoded.bytes) (λ m. are_sent a m.0 m.1)

-- the same of a number and bytes that are these
pub values_sent_as : (a : Arguments) (count : ℕ) (bytes : List ℕ) → count ≡ length a.types → bytes ≡ a.encoded.bytes → (values : List (Option Encoded)) → HasValues a values → values_in count bytes ≡ bytes_of values
values_sent_as a count bytes n e values h = rw (n, e) (values_sent a values h)

pub are_values_as : (a : Arguments) (count : ℕ) (bytes : List ℕ) → count ≡ length a.types → bytes ≡ a.encoded.bytes → ∥ ((values : List (Option Encoded)) × HasValues a values) ∥₁ → AreValues count bytes
are_values_as a count bytes n e h = rw (n, e) (are_values a h)

-- ---- no values

pub none_are_values : (bytes : List ℕ) → bytes ≡ [] → AreValues 0 bytes
unfolding many_at
none_are_values bytes e = rw e (refl, refl)

pub no_values : (types bytes : List ℕ) (open_ : Open) → open_ ≡ nothing_open → record { types = types; values = values_in 0 bytes; names = open_.names; holes = open_.holes; open_in = open_.given } ≡ typed_arguments types
unfolding many_at
no_values types bytes open_ e = rw e refl

pub no_values_but : (ds : List Declared) (types bytes : List ℕ) (names holes : List Declared) (open_ : Open) → types ≡ numbers_in ds → names ≡ declared_names ds → holes ≡ [] → open_ ≡ record { names = names; holes = holes; given = None }
    → record { types = types; values = values_in 0 bytes; names = open_.names; holes = open_.holes; open_in = open_.given } ≡ declared_arguments ds
unfolding many_at
no_values_but ds types bytes names holes open_ e n h o = rw (o, e, n, h) refl

-- ---- open OIDs that are known at last

first_types : (oid : ℕ) (holes : List Hole) (a : Arguments) → (patched_first oid holes a).types ≡ a.types
first_types oid [] a = refl
first_types oid (h ∷ hs) a = refl

all_types : (oids : List ℕ) (a : Arguments) → (patched_all oids a).types ≡ a.types
all_types [] a = refl
all_types (oid ∷ oids) a = all_types oids (patched_first oid a.encoded.holes a) ∙ first_types oid a.encoded.holes a

-- the values are those of the arguments with the OIDs in their places
pub filled_is : (oids : List ℕ) (seen : ArgumentsSeen) (a new : Arguments) (count : ℕ) (bytes : List ℕ) (holes : List Declared) (open_ : Open) → seen.open_in ≡ Some a → new ≡ patched_all oids a → count ≡ length new.types → bytes ≡ new.encoded.bytes → holes ≡ []
    → open_ ≡ record { names = seen.names; holes = holes; given = None }
    → record { types = seen.types; values = values_in count bytes; names = open_.names; holes = open_.holes; open_in = open_.given } ≡ filled oids seen
filled_is oids seen a new count bytes holes open_ o n c b none left =
    let size : count ≡ length a.types = c ∙ ap (λ (x : Arguments). length x.types) n ∙ ap length (all_types oids a) in
    let same : bytes ≡ (patched_all oids a).encoded.bytes = b ∙ ap (λ (x : Arguments). x.encoded.bytes) n in
    ap (λ (x : Open). record { types = seen.types; values = values_in count bytes; names = x.names; holes = x.holes; open_in = x.given }) left
    ∙ ap (λ (hs : List Declared). record { types = seen.types; values = values_in count bytes; names = seen.names; holes = hs; open_in = None }) none
    ∙ ap₂ (λ (k : ℕ) (bs : List ℕ). record { types = seen.types; values = values_in k bs; names = seen.names; holes = []; open_in = None }) size same ∙ sym (ap (λ (x : Option Arguments). filled_by oids x seen) o)

pub unfilled_is : (oids : List ℕ) (seen : ArgumentsSeen) (holes : List Declared) (open_ : Open) → seen.open_in ≡ None → holes ≡ [] → open_ ≡ record { names = seen.names; holes = holes; given = None }
    → record { types = seen.types; values = seen.values; names = open_.names; holes = open_.holes; open_in = open_.given } ≡ filled oids seen
unfilled_is oids seen holes open_ o none left =
    ap (λ (x : Open). record { types = seen.types; values = seen.values; names = x.names; holes = x.holes; open_in = x.given }) left
    ∙ ap (λ (hs : List Declared). record { types = seen.types; values = seen.values; names = seen.names; holes = hs; open_in = None }) none
    ∙ ap (λ (x : Option Arguments). record { types = seen.types; values = seen.values; names = seen.names; holes = []; open_in = x }) (sym o) ∙ sym (ap (λ (x : Option Arguments). filled_by oids x seen) o)
