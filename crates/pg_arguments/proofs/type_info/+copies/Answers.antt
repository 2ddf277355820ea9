use Rattle.std.proofs.Common.{arith, ◌≤◌, length}
use Rattle.pg_arguments.specs.Kinds.{attribute_types}
use Rattle.pg_arguments.proofs.LevelLaws.{attribute_falls}
use Rattle.pg_arguments.proofs.type_info.+copies.Goals as goal

pub copied_attributes-to_copy-requires-in-loop-attribute : goal.copied_attributes-to_copy-requires-in-loop-attribute
copied_attributes-to_copy-requires-in-loop-attribute t c =
    let falls = attribute_falls c.args.attributes.now c.loop-attribute.attribute-index c.attribute-item.result c.loop-attribute-test.true c.attribute-item.is in
    (omega (arith, falls, c.decreases), tt)
