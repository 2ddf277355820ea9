-- What becomes of the arguments of a caller.
use Rattle.std.specs.Prelude.{◌≡◌, ◌&&◌, ℕ, Bool, true, List, [], ◌∷◌, length, map, Option, Some, None, is_some, unwrap_or, if◌then◌else◌}
use Rattle.std.specs.Option.{option_map}
use Rattle.pg_wire.specs.declared.error.Error.{Error}
use Rattle.pg_wire.specs.declared.error.Error.TheVariants as errors
use Rattle.pg_arguments.specs.Types.{TypeParts, PartKind, Array, Simple, oid_of, name_of}
use Rattle.pg_arguments.specs.Encoded.{Encoded, patched}
use Rattle.pg_arguments.specs.Arguments.{Arguments, HasValues}
use Rattle.pg_arguments.specs.declared.hole.Hole.{Hole}
use Rattle.pg_request.specs.declared.naming.Declared.{Declared}
use Rattle.pg_request.specs.declared.naming.Declared.TheVariants as declared
use Rattle.pg_request.specs.Queries.{ArgumentsSeen, QueryText, values_in}

-- the OIDs of these types, and 0 in the place of one that isn't known
abbrev pub oids_in : List TypeParts → List ℕ
oids_in [] = []
oids_in (t ∷ ts) = unwrap_or (oid_of t) 0 ∷ oids_in ts

-- ---- types that are known by their names alone

abbrev pub kind_of : TypeParts → PartKind
kind_of [] = Simple
kind_of (p ∷ parts) = p.kind

abbrev pub element_name : TypeParts → List ℕ
element_name [] = []
element_name (p ∷ parts) = name_of parts

-- an array is asked for by the name of its elements
abbrev pub named_as : PartKind → TypeParts → Declared
named_as Array t = declared.ArrayOf (element_name t)
named_as _ t = declared.Name (name_of t)

abbrev pub declared_by_name : TypeParts → Declared
declared_by_name t = named_as (kind_of t) t

abbrev pub declared_by : Option ℕ → TypeParts → Declared
declared_by (Some oid) t = declared.Number oid
declared_by None t = declared_by_name t

abbrev pub declared_as : TypeParts → Declared
declared_as t = declared_by (oid_of t) t

abbrev pub are_numbered : List TypeParts → Bool
are_numbered [] = true
are_numbered (t ∷ ts) = is_some (oid_of t) && are_numbered ts

-- the types as they are declared, where one of them has no OID
abbrev pub names_in : List TypeParts → List Declared
names_in ts = if are_numbered ts then [] else map declared_as ts

-- ---- types as a caller declares them for a statement to prepare

abbrev pub number_of : Declared → Option ℕ
number_of (declared.Number oid) = Some oid
number_of _ = None

-- their OIDs, and 0 in the place of one that isn't known
abbrev pub numbers_in : List Declared → List ℕ
numbers_in [] = []
numbers_in (d ∷ ds) = unwrap_or (number_of d) 0 ∷ numbers_in ds

abbrev pub all_numbers : List Declared → Bool
all_numbers [] = true
all_numbers (d ∷ ds) = is_some (number_of d) && all_numbers ds

-- the types as they are declared, where one of them has no OID
abbrev pub declared_names : List Declared → List Declared
declared_names ds = if all_numbers ds then [] else ds

-- no values, but types as they are declared
abbrev pub declared_arguments : List Declared → ArgumentsSeen
declared_arguments ds = record { types = numbers_in ds; values = []; names = declared_names ds; holes = []; open_in = None }

-- ---- OIDs that are open within values

-- the arguments themselves, where an OID is open
abbrev pub open_by : List Hole → Arguments → Option Arguments
open_by [] a = None
open_by (h ∷ hs) a = Some a

abbrev pub where_open : Arguments → Option Arguments
where_open a = open_by a.encoded.holes a

-- the types whose OIDs are open, in the order of their places
abbrev pub types_of_holes : List Hole → List Declared
types_of_holes holes = map (λ h. declared_as h.of) holes

-- the OID is written in the place of the first that is open, where one is
abbrev pub patched_first : ℕ → List Hole → Arguments → Arguments
patched_first oid [] a = a
patched_first oid (h ∷ hs) a = record a { encoded = patched 0 oid a.encoded }

-- and so is one after another
abbrev pub patched_all : List ℕ → Arguments → Arguments
patched_all [] a = a
patched_all (oid ∷ oids) a = patched_all oids (patched_first oid a.encoded.holes a)

abbrev pub filled_by : List ℕ → Option Arguments → ArgumentsSeen → ArgumentsSeen
filled_by oids None seen = record seen { holes = [] }
filled_by oids (Some a) seen = record seen { values = values_in (length a.types) (patched_all oids a).encoded.bytes; holes = []; open_in = None }

-- the arguments once the open OIDs are known
abbrev pub filled : List ℕ → ArgumentsSeen → ArgumentsSeen
filled oids seen = filled_by oids seen.open_in seen

-- only a type that has to be looked up is refused, but for want of memory
abbrev pub RefusesType : Option (List ℕ) → Error → Type 0
RefusesType missing errors.OutOfMemory = Unit {0}
RefusesType missing (errors.TypeNotFound name) = missing ≡ Some name
RefusesType missing _ = ⊥

abbrev pub bytes_of : List (Option Encoded) → List (Option (List ℕ))
bytes_of values = map (option_map (λ (e : Encoded). e.bytes)) values

-- arguments as the server gets them
abbrev pub sent_as : Arguments → ArgumentsSeen
sent_as a = record { types = oids_in a.types; values = values_in (length a.types) a.encoded.bytes; names = names_in a.types; holes = types_of_holes a.encoded.holes; open_in = where_open a }

-- the values that they were made of
abbrev pub HasBytesOf : Arguments → ArgumentsSeen → Type 0
HasBytesOf a seen = (values : List (Option Encoded)) → HasValues a values → seen.values ≡ bytes_of values

-- types alone
abbrev pub typed_arguments : List ℕ → ArgumentsSeen
typed_arguments types = record { types = types; values = []; names = []; holes = []; open_in = None }

-- the OID of each type is known
abbrev pub numbered : List ℕ → ArgumentsSeen → ArgumentsSeen
numbered types a = record a { types = types; names = [] }

abbrev pub no_arguments : ArgumentsSeen
no_arguments = typed_arguments []

-- a query of the extended kind, whose statement is kept
abbrev pub kept_query : List ℕ → ArgumentsSeen → QueryText
kept_query sql arguments = record { sql = sql; arguments = Some arguments; persistent = true }

-- the query has arguments with the bytes of these values
abbrev pub AsksWith : Arguments → Option ArgumentsSeen → Type 0
AsksWith a None = ⊥
AsksWith a (Some seen) = HasBytesOf a seen
