use Rattle.std.proofs.Common.{◌≡◌, ◌≤◌, take}
use Rattle.pg_arguments.specs.Types.{most_levels}
use Rattle.pg_arguments.specs.Kinds.{attribute_types}
use Rattle.pg_arguments.proofs.type_info.attribute_levels.Given as goal

abbrev pub invariant-loop-attribute : goal.invariant-loop-attribute
invariant-loop-attribute l = record {
  value : l.most ≡ most_levels (attribute_types (take l.attribute-index l.attributes));
  bound : l.most ≤ 64;
}
