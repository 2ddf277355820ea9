use Rattle.std.proofs.lemmas.Result.{err_from_is_err_and}
use Rattle.pg_values.proofs.ReadLaws.{on_err}
use Rattle.pg_learning.proofs.ReadLaws.{no_pair, no_record}
use Rattle.pg_learning.proofs.pairs.Tuple2FromText.from_text.Goals as goal

pub returns-in_err-fields-clause-cause : goal.returns-in_err-fields-clause-cause
returns-in_err-fields-clause-cause g c =
    let p = err_from_is_err_and c.from_residual.result c.from_residual.ensures.1 in
    let bad = rw c.in-Ok.ensures.cases.0 at c.in_err-fields.ensures.cause in
    rw (p.1, p.2) (no_record g.A.FromText.means g.B.FromText.means c.args.bytes.now _ bad)

pub returns-clause-cause : goal.returns-clause-cause
returns-clause-cause g c =
    let text = rw c.in-Ok.ensures.cases.0 at c.in_ok-fields.ensures.value in
    let bad = rw c.deref.ensures.value at c.two.ensures.cause in
    on_err c.two.result _ _ (λ e. no_pair g.A.FromText.means g.B.FromText.means c.args.bytes.now c.in_ok-fields.fields.items e text) bad
