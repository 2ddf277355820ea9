use Rattle.std.proofs.Common.{ap, ◌∙◌}
use Rattle.pg_conn.specs.Connections.{ConnSeen, seen_by}
use Rattle.pg_conn.specs.Turns.{first_exchange}
use Rattle.pg_call.specs.declared.request.Request.{Request}
use Rattle.pg_play.specs.Calls.{IsCallPlaying, first_conn}
use Rattle.pg_conn.proofs.ViewLaws.{seen_left, seen_started}
use Rattle.pg_play.proofs.ThroughLaws.{call_starts, plain_begins, plays_call, unopened}
use Rattle.pg_play.proofs.stepping.play_call.Goals as goal

pub poll_on-requires-clause-playing : goal.poll_on-requires-clause-playing
poll_on-requires-clause-playing g c =
    let old : ConnSeen = seen_by g.L.Link.seen c.args.conn.now in (
      first_conn c.args.request old,
      first_exchange c.args.request old,
      rw (c.start.ensures, seen_started g.L.Link.seen c.args.request c.args.conn.now, c.new-tally.ensures.items, c.new-tally.ensures.waits) (call_starts c.args.limits old c.args.request c.requires.most c.requires.wanted (plain_begins c.args.request c.requires.plain)),
    )

pub returns-in-Ended : goal.returns-in-Ended
returns-in-Ended g c =
    let old : ConnSeen = seen_by g.L.Link.seen c.args.conn.now in
    let first : ConnSeen = first_conn c.args.request old in
    let asked : Request = first_exchange c.args.request old in
    let begun : IsCallPlaying c.args.limits first (seen_by g.L.Link.seen c.start.new.self) asked c.new-tally.result.waits c.new-tally.result.items.items = rw (c.start.ensures, seen_started g.L.Link.seen c.args.request c.args.conn.now, c.new-tally.ensures.items, c.new-tally.ensures.waits) (call_starts c.args.limits old c.args.request c.requires.most c.requires.wanted (plain_begins c.args.request c.requires.plain)) in
    plays_call c.args.limits first (seen_by g.L.Link.seen c.poll_on.new.conn) (seen_by g.L.Link.seen c.stop.new.conn) asked c.poll_on.new.tally.waits c.poll_on.new.tally.items.items c.in-Ended.end c.stop.result
    (c.in-Ended.ensures.pauses first asked begun) (ap (seen_by g.L.Link.seen) c.stop.ensures.left ∙ seen_left g.L.Link.seen c.poll_on.new.conn) c.stop.ensures.tells

pub returns-in-Opened : goal.returns-in-Opened
returns-in-Opened g c =
    let old : ConnSeen = seen_by g.L.Link.seen c.args.conn.now in
    let first : ConnSeen = first_conn c.args.request old in
    let asked : Request = first_exchange c.args.request old in
    let begun : IsCallPlaying c.args.limits first (seen_by g.L.Link.seen c.start.new.self) asked c.new-tally.result.waits c.new-tally.result.items.items = rw (c.start.ensures, seen_started g.L.Link.seen c.args.request c.args.conn.now, c.new-tally.ensures.items, c.new-tally.ensures.waits) (call_starts c.args.limits old c.args.request c.requires.most c.requires.wanted (plain_begins c.args.request c.requires.plain)) in
    absurd (unopened c.args.limits old (seen_by g.L.Link.seen c.poll_on.new.conn) c.args.request c.poll_on.new.tally.waits c.poll_on.new.tally.items.items c.requires.plain (c.in-Opened.ensures.pauses first asked begun))
