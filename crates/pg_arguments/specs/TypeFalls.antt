-- A type has more parts than each type that it is made of.
use Rattle.std.specs.Prelude.{ℕ, ◌+◌, ◌≤◌, suc, List, [], ◌∷◌, length}
use Rattle.std.proofs.Common.{arith, length-append}
use denote.Param.Weighed.{most}
use Rattle.pg_arguments.specs.declared.type_info.PgTypeKind.{PgTypeKind}
use Rattle.pg_arguments.specs.declared.type_info.PgTypeKind.TheVariants.{Simple, Pseudo, Domain, Composite, Array, Enum, Range}
use Rattle.pg_arguments.specs.declared.type_info.PgTypeInfo.{PgTypeInfo}
use Rattle.pg_arguments.specs.declared.type_info.PgTypeInfo.TheView.{size}
use Rattle.pg_arguments.specs.declared.type_info.PgTypeInfo.TheShapes.{weighed-PgTypeKind-Composite-0-at-2}
use Rattle.pg_arguments.specs.declared.type_info.PgTypeInfo.TheDeep.{deep-PgTypeKind}
use Rattle.pg_arguments.specs.Types.{TypeParts}
use Rattle.pg_arguments.specs.Kinds.{made_of, attribute_types}

-- no attribute has more parts than all together
pub most_le-attribute_types : (weight : List ℕ × TypeParts → ℕ) → ((a : List ℕ × TypeParts) → weight a ≤ length a.1 + 1) → (attributes : List (List ℕ × TypeParts)) → most weight attributes ≤ suc (length (attribute_types attributes))
most_le-attribute_types weight w [] = omega arith
most_le-attribute_types weight w (a ∷ rest) = omega (arith, w a, most_le-attribute_types weight w rest, length-append a.1 (attribute_types rest))

pub kind_falls : (kind : PgTypeKind) → deep-PgTypeKind kind ≤ suc (length (made_of kind))
kind_falls Simple = omega arith
kind_falls Pseudo = omega arith
kind_falls (Domain t) = omega arith
kind_falls (Composite attributes) =
    omega (arith, most_le-attribute_types (weighed-PgTypeKind-Composite-0-at-2.weight PgTypeInfo (λ y. size y + 1)) (λ a. omega arith) attributes.items)
kind_falls (Array t) = omega arith
kind_falls (Enum labels) = omega arith
kind_falls (Range t) = omega arith
