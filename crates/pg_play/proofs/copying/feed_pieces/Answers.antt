use Rattle.std.proofs.Common.{◌+◌, drop, flat_map, ap}
use Rattle.std.proofs.lemmas.List.{drop_all}
use Rattle.std.proofs.lemmas.Result.{err_from_is_err_and}
use Rattle.std.specs.Prelude.{Err, Ok}
use Rattle.pg_play.specs.Feeding.{cut}
use Rattle.pg_play.proofs.CutLaws.{feeds_fewer, feeds_none, feeds_then, pieces_from}
use Rattle.pg_play.proofs.copying.feed_pieces.Goals as goal

pub loop-piece-preserved : goal.loop-piece-preserved
loop-piece-preserved g c next result fed =
    let parts = pieces_from c.args.pieces.now c.loop-piece.piece-index c.piece-item.result c.loop-piece-test.true c.piece-item.is in
    let others = flat_map cut (drop (c.loop-piece.piece-index + 1) c.args.pieces.now) in
    c.loop-piece.invariant next result (rw parts (feeds_then c.loop-piece.conn c.feed_bytes.new.conn next (cut c.piece-item.result) others result (rw c.as_bytes.ensures at c.in_ok-feed_bytes.ensures) fed))

pub returns-in_err-feed_bytes : goal.returns-in_err-feed_bytes
returns-in_err-feed_bytes g c =
    let parts = pieces_from c.args.pieces.now c.loop-piece.piece-index c.piece-item.result c.loop-piece-test.true c.piece-item.is in
    let fails = feeds_fewer c.loop-piece.conn c.feed_bytes.new.conn (cut c.piece-item.result) (flat_map cut (drop (c.loop-piece.piece-index + 1) c.args.pieces.now)) c.in_err-feed_bytes.field-0.0 (rw c.as_bytes.ensures at c.in_err-feed_bytes.ensures) in
    let failed = err_from_is_err_and c.from_residual.result c.from_residual.ensures.1 in
    rw (failed.1, failed.2) (c.loop-piece.invariant c.feed_bytes.new.conn (Err c.in_err-feed_bytes.field-0.0) (rw parts fails))

pub returns : goal.returns
returns g c =
    let done = drop_all c.loop-piece.piece-index c.args.pieces.now c.loop-piece-test.false in
    c.loop-piece.invariant c.loop-piece.conn (Ok tt) (feeds_none c.loop-piece.conn (flat_map cut (drop c.loop-piece.piece-index c.args.pieces.now)) (ap (flat_map cut) done))
