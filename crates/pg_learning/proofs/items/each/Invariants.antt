use Rattle.std.proofs.Common.{take}
use Rattle.pg_values.specs.Arrays.{ReadsEach}
use Rattle.pg_learning.specs.Texts.{Given}
use Rattle.pg_learning.proofs.items.each.Given as goal

abbrev pub invariant-loop-element : goal.invariant-loop-element
invariant-loop-element g l = ReadsEach (Given g.T.FromText.means) (take l.element-index l.elements) l.items
