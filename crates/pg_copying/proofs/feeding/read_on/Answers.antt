use Rattle.std.proofs.Common.{arith}
use Rattle.pg_conn.specs.Connections.{seen_by}
use Rattle.pg_copying.proofs.FeedLaws.{reads_end, reads_fail, reads_full, reads_more, reads_none, reads_not, reads_sent, reads_wait}
use Rattle.pg_copying.proofs.feeding.read_on.Goals as goal

pub loop-e-init : goal.loop-e-init
loop-e-init g c = record { reads = reads_none (seen_by g.L.Link.seen c.args.conn.now) (g.S.Source.seen c.args.source.now); most = omega arith }

pub loop-e-preserved : goal.loop-e-preserved
loop-e-preserved g c =
    let seen = g.L.Link.seen in
    let source = g.S.Source.seen in
    let i = c.loop-e.invariant in
    let whole = reads_sent (seen_by seen c.args.conn.now) (seen_by seen c.loop-e.conn) (seen_by seen c.poll_fed_more.new.self) (source c.args.source.now) (source c.loop-e.source) c.loop-e.pieces tt i.reads (rw c.in-Ready-Ok.field-0-is at c.in-Ready-Ok.ensures) in
    record {
      reads = reads_more seen (seen_by seen c.args.conn.now) c.poll_fed_more.new.self c.read_piece.new.conn (source c.args.source.now) (source c.loop-e.source) (source c.read_piece.new.source) c.loop-e.pieces whole (rw c.in-Ok-true.field-0-test at c.in-Ok-true.ensures);
      most = omega (arith, i.most, c.if-pieces-eq-MOST_PIECES.false);
    }

pub returns-in-Ready-Err : goal.returns-in-Ready-Err
returns-in-Ready-Err g c =
    let seen = g.L.Link.seen in
    let source = g.S.Source.seen in
    let i = c.loop-e.invariant in
    reads_fail (seen_by seen c.args.conn.now) (seen_by seen c.loop-e.conn) (seen_by seen c.poll_fed_more.new.self) (source c.args.source.now) (source c.loop-e.source) c.loop-e.pieces c.in-Ready-Err.e i.most i.reads (rw c.in-Ready-Err.field-0-is at c.in-Ready-Err.ensures)

pub returns-in-Pending : goal.returns-in-Pending
returns-in-Pending g c =
    let seen = g.L.Link.seen in
    let source = g.S.Source.seen in
    let i = c.loop-e.invariant in
    reads_wait (seen_by seen c.args.conn.now) (seen_by seen c.loop-e.conn) (seen_by seen c.poll_fed_more.new.self) (source c.args.source.now) (source c.loop-e.source) c.loop-e.pieces i.most i.reads c.in-Pending.ensures

pub returns-then-pieces-eq-MOST_PIECES : goal.returns-then-pieces-eq-MOST_PIECES
returns-then-pieces-eq-MOST_PIECES g c =
    let seen = g.L.Link.seen in
    let source = g.S.Source.seen in
    let i = c.loop-e.invariant in
    let whole = reads_sent (seen_by seen c.args.conn.now) (seen_by seen c.loop-e.conn) (seen_by seen c.poll_fed_more.new.self) (source c.args.source.now) (source c.loop-e.source) c.loop-e.pieces tt i.reads (rw c.in-Ready-Ok.field-0-is at c.in-Ready-Ok.ensures) in
    reads_full (seen_by seen c.args.conn.now) (seen_by seen c.poll_fed_more.new.self) (source c.args.source.now) (source c.loop-e.source) c.loop-e.pieces c.if-pieces-eq-MOST_PIECES.true whole

pub returns-in-Ok-false : goal.returns-in-Ok-false
returns-in-Ok-false g c =
    let seen = g.L.Link.seen in
    let source = g.S.Source.seen in
    let i = c.loop-e.invariant in
    let whole = reads_sent (seen_by seen c.args.conn.now) (seen_by seen c.loop-e.conn) (seen_by seen c.poll_fed_more.new.self) (source c.args.source.now) (source c.loop-e.source) c.loop-e.pieces tt i.reads (rw c.in-Ready-Ok.field-0-is at c.in-Ready-Ok.ensures) in
    reads_end seen (seen_by seen c.args.conn.now) c.poll_fed_more.new.self c.read_piece.new.conn (source c.args.source.now) (source c.loop-e.source) (source c.read_piece.new.source) c.loop-e.pieces tt i.most whole (rw c.in-Ok-false.field-0-test at c.in-Ok-false.ensures)

pub returns-in-Err : goal.returns-in-Err
returns-in-Err g c =
    let seen = g.L.Link.seen in
    let source = g.S.Source.seen in
    let i = c.loop-e.invariant in
    let whole = reads_sent (seen_by seen c.args.conn.now) (seen_by seen c.loop-e.conn) (seen_by seen c.poll_fed_more.new.self) (source c.args.source.now) (source c.loop-e.source) c.loop-e.pieces tt i.reads (rw c.in-Ready-Ok.field-0-is at c.in-Ready-Ok.ensures) in
    reads_not seen (seen_by seen c.args.conn.now) c.poll_fed_more.new.self c.read_piece.new.conn (source c.args.source.now) (source c.loop-e.source) (source c.read_piece.new.source) c.loop-e.pieces c.in-Err.e i.most whole c.in-Err.ensures
