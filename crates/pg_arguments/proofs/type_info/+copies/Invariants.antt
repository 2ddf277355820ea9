use Rattle.std.proofs.Common.{◌≡◌, ◌+◌, ◌*◌, take, length}
use Rattle.pg_arguments.specs.Kinds.{made_of, attribute_types}
use Rattle.pg_arguments.proofs.type_info.+copies.Given as goal

-- a type has one part more than what it is made of
abbrev pub decreases-PgTypeInfo::to_copy : goal.decreases-PgTypeInfo::to_copy
decreases-PgTypeInfo::to_copy l = 3 * length l.self.now

abbrev pub decreases-PgTypeKind::to_copy : goal.decreases-PgTypeKind::to_copy
decreases-PgTypeKind::to_copy l = 3 * length (made_of l.self.now) + 2

abbrev pub decreases-copied_attributes : goal.decreases-copied_attributes
decreases-copied_attributes l = 3 * length (attribute_types l.attributes.now) + 1

abbrev pub invariant-copied_attributes-loop-attribute : goal.invariant-copied_attributes-loop-attribute
invariant-copied_attributes-loop-attribute l = l.copies.items ≡ take l.attribute-index l.attributes
