use Rattle.pg_values.proofs.ReadLaws.{on_err}
use Rattle.pg_learning.proofs.ReadLaws.{no_items}
use Rattle.pg_learning.proofs.items.SequenceFromText.from_text.Goals as goal

pub returns-clause-cause : goal.returns-clause-cause
returns-clause-cause g c =
    let array = rw c.in-Ok.ensures.cases.0 at c.in_ok-elements.ensures.value in
    let bad = rw c.deref.ensures.value at c.each.ensures.cause in
    on_err c.each.result _ _ (λ e. no_items g.T.FromText.means c.args.bytes.now c.in_ok-elements.elements.items e array) bad
