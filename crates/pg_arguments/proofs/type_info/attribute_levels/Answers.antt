use Rattle.std.proofs.Common.{arith}
use Rattle.pg_arguments.proofs.LevelLaws.{levels_next}
use Rattle.pg_arguments.proofs.type_info.attribute_levels.Goals as goal

pub loop-attribute-preserved : goal.loop-attribute-preserved
loop-attribute-preserved c =
    let next = levels_next c.args.attributes.now c.loop-attribute.attribute-index c.attribute-item.result c.loop-attribute-test.true c.attribute-item.is in
    record { value = omega (arith, next, c.loop-attribute.invariant.value, c.levels.ensures.most, c.max-most.ensures); bound = omega (arith, c.loop-attribute.invariant.bound, c.levels.ensures.bound, c.max-most.ensures) }
