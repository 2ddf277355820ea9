use Rattle.std.proofs.Common.{rules, tests}
use Rattle.std.proofs.lemmas.Result.{err_from_is_err_and}
use Rattle.pg_script.proofs.CopyingLaws.{pieces_next, pieces_shorter, pieces_fail}
use Rattle.pg_script.proofs.asking.pieces_in.Goals as goal

pub returns-in_err-bytes : goal.returns-in_err-bytes
returns-in_err-bytes c =
    let p = err_from_is_err_and c.from_residual.result c.from_residual.ensures.1 in
    rw (p.1, p.2) (pieces_fail c.in_err-bytes.field-0.0 c.loop-rest.pieces c.loop-rest.rest.now _ (search (rules, tests)) c.in_err-bytes.ensures c.loop-rest.invariant)

pub loop-rest-smaller : goal.loop-rest-smaller
loop-rest-smaller c = pieces_shorter c.loop-rest.rest.now (c.in_ok-bytes.bytes.now, c.in_ok-bytes.behind.now) c.in_ok-bytes.ensures

pub loop-rest-preserved : goal.loop-rest-preserved
loop-rest-preserved c = rw (c.in_ok-push.ensures.ok, c.in_ok-piece.ensures) (pieces_next c.loop-rest.pieces c.loop-rest.rest.now (c.in_ok-bytes.bytes.now, c.in_ok-bytes.behind.now) _ c.in_ok-bytes.ensures c.loop-rest.invariant)
