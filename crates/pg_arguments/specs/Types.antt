-- A type as contracts see it (PostgreSQL manual, "pg_type", and "Array Types", "Composite Types", "Domain Types", "Enumerated
-- Types", "Range Types").
use Rattle.std.specs.Prelude.{ℕ, List, [], ◌∷◌, ◌++◌, Option, Some, None, max, codes}

-- what a type is, without the types that it is made of; a composite type has the names of its attributes
pub data PartKind : Type 0 where
  Simple : PartKind
  Pseudo : PartKind
  Domain : PartKind
  Composite : (names : List (List ℕ)) → PartKind
  Array : PartKind
  Enum : (labels : List (List ℕ)) → PartKind
  Range : PartKind

-- one of the types that a type is made of; a type without an OID is only declared, by its name; levels counts the custom types
-- that stand in each other here, itself among them
pub record TypePart : Type 0 where
  pub oid : Option ℕ
  pub name : List ℕ
  pub levels : ℕ
  pub kind : PartKind

-- a type: itself, and then, each whole, the types that it is made of
abbrev pub TypeParts : Type 0
TypeParts = List TypePart

abbrev pub oid_of : TypeParts → Option ℕ
oid_of [] = None
oid_of (p ∷ _) = p.oid

abbrev pub name_of : TypeParts → List ℕ
name_of [] = []
name_of (p ∷ _) = p.name

abbrev pub levels_of : TypeParts → ℕ
levels_of [] = 0
levels_of (p ∷ _) = p.levels

-- the most custom types that stand in each other somewhere in these
abbrev pub most_levels : TypeParts → ℕ
most_levels [] = 0
most_levels (p ∷ ps) = max p.levels (most_levels ps)

-- a type that isn't made of others
abbrev pub single : Option ℕ → List ℕ → PartKind → TypeParts
single oid name kind = record { oid = oid; name = name; levels = 0; kind = kind } ∷ []

-- an array of elements of a type
abbrev pub array_over : Option ℕ → TypeParts → TypeParts
array_over oid element = record { oid = oid; name = name_of element ++ codes "[]"; levels = 0; kind = Array } ∷ element

-- types as a caller declares them: by a name, by an OID, and as the array of a name
abbrev pub named_type : List ℕ → TypeParts
named_type name = single None name Simple

abbrev pub numbered_type : ℕ → TypeParts
numbered_type oid = single (Some oid) (codes "?") Simple

abbrev pub array_of_named : List ℕ → TypeParts
array_of_named element = array_over None (named_type element)
