-- Types that arguments are declared to have by their names, and their OIDs as they were learnt.
use Rattle.std.specs.Prelude.{ℕ, is_some, List, [], ◌∷◌, ◌++◌, codes, Option, Some, None, option_and_then, unwrap_or, if◌then◌else◌}
use Rattle.std.specs.Option.{option_or}
use Rattle.pg_request.specs.declared.naming.Declared.{Declared}
use Rattle.pg_request.specs.declared.naming.Declared.TheVariants as declared
use Rattle.pg_resolve.specs.declared.entry.Entry.{Entry}
use Rattle.pg_resolve.specs.declared.entry.Wanted.TheVariants as wanted
use Rattle.pg_resolve.specs.Cached.{CacheSeen, array_over, oid_named}
use Rattle.pg_resolve.specs.Resolving.{no_rows}
use Rattle.pg_learning.specs.declared.learnt.Learnt.{Learnt}
use Rattle.pg_learning.specs.declared.learnt.Seeking.TheVariants as seekings

-- the name of the arrays over a type
abbrev pub array_name : List ℕ → List ℕ
array_name element = element ++ codes "[]"

abbrev pub name_of : Declared → List ℕ
name_of (declared.Number oid) = []
name_of (declared.Name name) = name
name_of (declared.ArrayOf element) = array_name element

-- the OID of a type: an array has it under its own name, or else through its element
abbrev pub oid_under : CacheSeen → Declared → Option ℕ
oid_under c (declared.Number oid) = Some oid
oid_under c (declared.Name name) = oid_named c name
oid_under c (declared.ArrayOf element) = option_or (oid_named c (array_name element)) (option_and_then (array_over c) (oid_named c element))

-- ---- what is asked

abbrev pub by_name : List ℕ → Entry
by_name name = record { original = Some name; wanted = wanted.Name name }

abbrev pub by_element : List ℕ → Entry
by_element name = record { original = Some name; wanted = wanted.Element name }

-- the element of an array comes first
abbrev pub entries_of : Declared → List Entry
entries_of (declared.Number oid) = []
entries_of (declared.Name name) = by_name name ∷ []
entries_of (declared.ArrayOf element) = by_element element ∷ by_name (array_name element) ∷ []

-- a type whose OID is known isn't asked for
abbrev pub unnumbered_one : CacheSeen → Declared → List Entry
unnumbered_one c d = if is_some (oid_under c d) then [] else entries_of d

-- all others are, in order, equal ones again
abbrev pub unnumbered : CacheSeen → List Declared → List Entry
unnumbered c [] = []
unnumbered c (d ∷ ds) = unnumbered_one c d ++ unnumbered c ds

-- they are to be looked up where they aren't known
abbrev pub begun_names : List Declared → Learnt → Learnt
begun_names names a = record a { seeking = seekings.Types (record no_rows { pushed = unnumbered a.types names }) }

-- ---- what was found

-- the OIDs of all, and 0 in the place of one that isn't known
abbrev pub oids_under : CacheSeen → List Declared → List ℕ
oids_under c [] = []
oids_under c (d ∷ ds) = unwrap_or (oid_under c d) 0 ∷ oids_under c ds

-- the name of the first that isn't known
abbrev pub unknown_name : CacheSeen → List Declared → Option (List ℕ)
unknown_name c [] = None
unknown_name c (d ∷ ds) = if is_some (oid_under c d) then unknown_name c ds else Some (name_of d)
