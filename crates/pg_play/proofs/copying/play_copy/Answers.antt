use Rattle.std.proofs.Common.{ap, false, [], refl, ◌∙◌}
use Rattle.pg_conn.specs.Connections.{ConnSeen, seen_by}
use Rattle.pg_play.specs.Calls.{IsCallPlaying, first_conn}
use Rattle.pg_play.specs.Feeding.{parts_of}
use Rattle.pg_play.specs.Opened.{IsOpenWith, asked_of_fed, fed_of, of_step}
use Rattle.pg_conn.proofs.ViewLaws.{seen_left, seen_started}
use Rattle.pg_play.proofs.ThroughLaws.{call_starts}
use Rattle.pg_play.proofs.PartingLaws.{ends_unfed, ends_unopened, opens_with, shows_some}
use Rattle.pg_play.proofs.copying.play_copy.Goals as goal

pub poll_on-requires-clause-playing : goal.poll_on-requires-clause-playing
poll_on-requires-clause-playing g c =
    let old : ConnSeen = seen_by g.L.Link.seen c.args.conn.now in
    let asked = asked_of_fed (fed_of c.args.copying.now [] false) in
    let begun : IsCallPlaying (of_step c.args.step.now) (first_conn asked old) (seen_by g.L.Link.seen c.start.new.self) asked c.new-tally.result.waits c.new-tally.result.items.items = rw (c.start.ensures, c.new.ensures, c.requires.query, seen_started g.L.Link.seen asked c.args.conn.now, c.new-tally.ensures.items, c.new-tally.ensures.waits) (call_starts (of_step c.args.step.now) old asked (shows_some c.args.step.now c.requires.polled.some) tt refl) in
    (first_conn asked old, asked, rw c.limits_of.ensures begun)

pub end_copy-requires-clause-fed : goal.end_copy-requires-clause-fed
end_copy-requires-clause-fed g c =
    let old : ConnSeen = seen_by g.L.Link.seen c.args.conn.now in
    let asked = asked_of_fed (fed_of c.args.copying.now [] false) in
    let begun : IsCallPlaying (of_step c.args.step.now) (first_conn asked old) (seen_by g.L.Link.seen c.start.new.self) asked c.new-tally.result.waits c.new-tally.result.items.items = rw (c.start.ensures, c.new.ensures, c.requires.query, seen_started g.L.Link.seen asked c.args.conn.now, c.new-tally.ensures.items, c.new-tally.ensures.waits) (call_starts (of_step c.args.step.now) old asked (shows_some c.args.step.now c.requires.polled.some) tt refl) in
    let opened = (rw c.limits_of.ensures at c.in-Opened.ensures.pauses) (first_conn asked old) asked begun in
    (c.args.copying.now, old, opens_with (of_step c.args.step.now) c.args.copying.now (parts_of c.args.copying.now) old (seen_by g.L.Link.seen c.poll_on.new.conn) (seen_by g.L.Link.seen c.feed_pieces.new.conn) c.poll_on.new.tally.waits c.poll_on.new.tally.items.items opened (ap (seen_by g.L.Link.seen) (rw c.as_slice.ensures at c.in-Ok.ensures)))

pub returns-in-Ended : goal.returns-in-Ended
returns-in-Ended g c =
    let old : ConnSeen = seen_by g.L.Link.seen c.args.conn.now in
    let asked = asked_of_fed (fed_of c.args.copying.now [] false) in
    let begun : IsCallPlaying (of_step c.args.step.now) (first_conn asked old) (seen_by g.L.Link.seen c.start.new.self) asked c.new-tally.result.waits c.new-tally.result.items.items = rw (c.start.ensures, c.new.ensures, c.requires.query, seen_started g.L.Link.seen asked c.args.conn.now, c.new-tally.ensures.items, c.new-tally.ensures.waits) (call_starts (of_step c.args.step.now) old asked (shows_some c.args.step.now c.requires.polled.some) tt refl) in
    ends_unopened c.args.step.now c.args.copying.now old (seen_by g.L.Link.seen c.poll_on.new.conn) (seen_by g.L.Link.seen c.stop.new.conn) c.poll_on.new.tally.waits c.poll_on.new.tally.items.items c.in-Ended.end c.stop.result c.requires.polled
    ((rw c.limits_of.ensures at c.in-Ended.ensures.pauses) (first_conn asked old) asked begun) (ap (seen_by g.L.Link.seen) c.stop.ensures.left ∙ seen_left g.L.Link.seen c.poll_on.new.conn) c.stop.ensures.tells

pub returns-in-Ok : goal.returns-in-Ok
returns-in-Ok g c =
    let old : ConnSeen = seen_by g.L.Link.seen c.args.conn.now in
    let asked = asked_of_fed (fed_of c.args.copying.now [] false) in
    let begun : IsCallPlaying (of_step c.args.step.now) (first_conn asked old) (seen_by g.L.Link.seen c.start.new.self) asked c.new-tally.result.waits c.new-tally.result.items.items = rw (c.start.ensures, c.new.ensures, c.requires.query, seen_started g.L.Link.seen asked c.args.conn.now, c.new-tally.ensures.items, c.new-tally.ensures.waits) (call_starts (of_step c.args.step.now) old asked (shows_some c.args.step.now c.requires.polled.some) tt refl) in
    let opened = (rw c.limits_of.ensures at c.in-Opened.ensures.pauses) (first_conn asked old) asked begun in
    c.end_copy.ensures c.args.copying.now old c.requires.polled refl (opens_with (of_step c.args.step.now) c.args.copying.now (parts_of c.args.copying.now) old (seen_by g.L.Link.seen c.poll_on.new.conn) (seen_by g.L.Link.seen c.feed_pieces.new.conn) c.poll_on.new.tally.waits c.poll_on.new.tally.items.items opened (ap (seen_by g.L.Link.seen) (rw c.as_slice.ensures at c.in-Ok.ensures)))

pub returns-in-Err : goal.returns-in-Err
returns-in-Err g c =
    let old : ConnSeen = seen_by g.L.Link.seen c.args.conn.now in
    let asked = asked_of_fed (fed_of c.args.copying.now [] false) in
    let begun : IsCallPlaying (of_step c.args.step.now) (first_conn asked old) (seen_by g.L.Link.seen c.start.new.self) asked c.new-tally.result.waits c.new-tally.result.items.items = rw (c.start.ensures, c.new.ensures, c.requires.query, seen_started g.L.Link.seen asked c.args.conn.now, c.new-tally.ensures.items, c.new-tally.ensures.waits) (call_starts (of_step c.args.step.now) old asked (shows_some c.args.step.now c.requires.polled.some) tt refl) in
    let opened = (rw c.limits_of.ensures at c.in-Opened.ensures.pauses) (first_conn asked old) asked begun in
    let f = c.in-Err.ensures in
    ends_unfed c.args.step.now c.args.copying.now f.1.0 old (seen_by g.L.Link.seen c.feed_pieces.new.conn) (seen_by g.L.Link.seen c.stop-in-Err.new.conn) c.poll_on.new.tally.waits c.poll_on.new.tally.items.items c.stop-in-Err.result c.requires.polled (rw c.as_slice.ensures at f.1.1) ((rw c.limits_of.ensures at c.in-Opened.ensures.opens) refl)
    (opens_with (of_step c.args.step.now) c.args.copying.now f.1.0 old (seen_by g.L.Link.seen c.poll_on.new.conn) (seen_by g.L.Link.seen c.feed_pieces.new.conn) c.poll_on.new.tally.waits c.poll_on.new.tally.items.items opened (ap (seen_by g.L.Link.seen) f.1.2))
    (ap (seen_by g.L.Link.seen) c.stop-in-Err.ensures.left ∙ seen_left g.L.Link.seen c.feed_pieces.new.conn) (rw f.0 at c.stop-in-Err.ensures.tells)
