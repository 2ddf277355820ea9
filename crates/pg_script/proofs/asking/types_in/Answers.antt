use Rattle.std.proofs.Common.{rules, tests}
use Rattle.std.proofs.lemmas.Result.{err_from_is_err_and}
use Rattle.pg_script.proofs.PrepareLaws.{types_next, types_shorter, types_fail}
use Rattle.pg_script.proofs.asking.types_in.Goals as goal

pub returns-in_err-of : goal.returns-in_err-of
returns-in_err-of c =
    let p = err_from_is_err_and c.from_residual.result c.from_residual.ensures.1 in
    rw (p.1, p.2) (types_fail c.in_err-of.field-0.0 c.loop-rest.types c.loop-rest.rest.now _ (search (rules, tests)) c.in_err-of.ensures c.loop-rest.invariant)

pub loop-rest-smaller : goal.loop-rest-smaller
loop-rest-smaller c = types_shorter c.loop-rest.rest.now (c.in_ok-of.of, c.in_ok-of.behind.now) c.in_ok-of.ensures

pub loop-rest-preserved : goal.loop-rest-preserved
loop-rest-preserved c = rw c.in_ok-push.ensures.ok (types_next c.loop-rest.types c.loop-rest.rest.now (c.in_ok-of.of, c.in_ok-of.behind.now) _ c.in_ok-of.ensures c.loop-rest.invariant)
