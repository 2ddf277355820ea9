use Rattle.std.proofs.lemmas.Result.{err_from_is_err_and}
use Rattle.pg_learning.proofs.ReadLaws.{no_first, no_second}
use Rattle.pg_learning.proofs.pairs.two.Goals as goal

pub returns-in_err-first-in-len2-clause-cause : goal.returns-in_err-first-in-len2-clause-cause
returns-in_err-first-in-len2-clause-cause g c =
    let p = err_from_is_err_and c.from_residual.result c.from_residual.ensures.1 in
    let bad = rw c.bytes_of.ensures at c.in_err-first-in-len2.ensures.cause in
    rw (p.1, p.2) (no_first g.A.FromText.means g.B.FromText.means c.args.fields.now c.first-item.result _ c.first-item.is bad)

pub returns-in_err-second-in-len2-clause-cause : goal.returns-in_err-second-in-len2-clause-cause
returns-in_err-second-in-len2-clause-cause g c =
    let p = err_from_is_err_and c.from_residual-in_err-second-in-len2.result c.from_residual-in_err-second-in-len2.ensures.1 in
    let bad = rw c.bytes_of-in-len2.ensures at c.in_err-second-in-len2.ensures.cause in
    rw (p.1, p.2) (no_second g.A.FromText.means g.B.FromText.means c.args.fields.now c.second-item.result _ c.second-item.is bad)
