use Rattle.std.proofs.lemmas.Result.{err_from_is_err_and}
use Rattle.pg_values.proofs.ReadLaws.{reads_next}
use Rattle.pg_learning.specs.Texts.{Given}
use Rattle.pg_learning.proofs.ReadLaws.{bad_element}
use Rattle.pg_learning.proofs.items.each.Goals as goal

pub returns-in_err-given-clause-cause : goal.returns-in_err-given-clause-cause
returns-in_err-given-clause-cause g c =
    let p = err_from_is_err_and c.from_residual.result c.from_residual.ensures.1 in
    let bad = rw c.bytes_of.ensures at c.in_err-given.ensures.cause in
    rw (p.1, p.2) (bad_element (Given g.T.FromText.means) c.args.elements.now c.loop-element.element-index c.element-item.result _ c.loop-element-test.true c.element-item.is bad)

pub loop-element-preserved : goal.loop-element-preserved
loop-element-preserved g c =
    let good = rw c.bytes_of.ensures at c.in_ok-given.ensures.value in
    rw c.in_ok-push.ensures.ok (reads_next (Given g.T.FromText.means) c.args.elements.now c.loop-element.element-index c.loop-element.items c.element-item.result c.in_ok-given.field-0 c.loop-element-test.true c.element-item.is c.loop-element.invariant good)
