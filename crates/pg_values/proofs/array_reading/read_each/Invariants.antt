use Rattle.std.proofs.Common.{take}
use Rattle.pg_values.specs.Arrays.{ReadsEach}
use Rattle.pg_values.specs.declared.format.PgValueFormat.TheVariants as formats
use Rattle.pg_values.proofs.array_reading.read_each.Given as goal

abbrev pub invariant-loop-element : goal.invariant-loop-element
invariant-loop-element g l = ReadsEach (g.T.Decode.reads l.type_info formats.Text) (take l.element-index l.elements) l.items.items
