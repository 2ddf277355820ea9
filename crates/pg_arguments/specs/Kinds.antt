-- How a type's kind tells the types that it is made of.
use Rattle.std.specs.Prelude.{ℕ, ◌+◌, List, [], ◌∷◌, ◌++◌, Option, Some}
use Rattle.pg_arguments.specs.Types.{TypeParts, TypePart, PartKind, most_levels}
use Rattle.pg_arguments.specs.Types as parts
use Rattle.pg_arguments.specs.declared.type_info.PgTypeKind.{PgTypeKind}
use Rattle.pg_arguments.specs.declared.type_info.PgTypeKind.TheVariants as kinds

abbrev pub attribute_types : List (List ℕ × TypeParts) → TypeParts
attribute_types [] = []
attribute_types (a ∷ rest) = a.1 ++ attribute_types rest

abbrev pub attribute_names : List (List ℕ × TypeParts) → List (List ℕ)
attribute_names [] = []
attribute_names (a ∷ rest) = a.0 ∷ attribute_names rest

-- the types that a kind is made of, each whole
abbrev pub made_of : PgTypeKind → TypeParts
made_of kinds.Simple = []
made_of kinds.Pseudo = []
made_of (kinds.Domain base) = base
made_of (kinds.Composite attributes) = attribute_types attributes.items
made_of (kinds.Array element) = element
made_of (kinds.Enum labels) = []
made_of (kinds.Range bound) = bound

abbrev pub part_kind : PgTypeKind → PartKind
part_kind kinds.Simple = parts.Simple
part_kind kinds.Pseudo = parts.Pseudo
part_kind (kinds.Domain base) = parts.Domain
part_kind (kinds.Composite attributes) = parts.Composite (attribute_names attributes.items)
part_kind (kinds.Array element) = parts.Array
part_kind (kinds.Enum labels) = parts.Enum labels
part_kind (kinds.Range bound) = parts.Range

-- a type of this kind
abbrev pub of_kind : Option ℕ → List ℕ → ℕ → PgTypeKind → TypeParts
of_kind oid name levels kind = record { oid = oid; name = name; levels = levels; kind = part_kind kind } ∷ made_of kind

-- the custom types that stand in each other in a custom type of this kind
abbrev pub custom_levels : PgTypeKind → ℕ
custom_levels kind = most_levels (made_of kind) + 1

-- a type of the database's own: one that its catalog has described
abbrev pub custom : ℕ → List ℕ → PgTypeKind → TypeParts
custom oid name kind = of_kind (Some oid) name (custom_levels kind) kind
