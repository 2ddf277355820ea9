use Rattle.std.proofs.Common.{ap, ◌∙◌}
use Rattle.pg_call.specs.declared.request.Request.TheVariants as requests
use Rattle.pg_conn.specs.Connections.{seen_by}
use Rattle.pg_conn.proofs.ViewLaws.{seen_left}
use Rattle.pg_play.proofs.ThroughLaws.{plays_call}
use Rattle.pg_play.proofs.FeedingLaws.{ended_unopened}
use Rattle.pg_play.proofs.copying.go_on.Goals as goal

pub poll_on-requires-clause-playing : goal.poll_on-requires-clause-playing
poll_on-requires-clause-playing g c = let p = c.requires.playing in (p.0, requests.CopyIn p.1, p.3)

pub returns-in-Ended : goal.returns-in-Ended
returns-in-Ended g c a feed e i =
    plays_call c.args.limits a (seen_by g.L.Link.seen c.poll_on.new.conn) (seen_by g.L.Link.seen c.stop.new.conn) (requests.CopyIn feed) c.poll_on.new.tally.waits c.poll_on.new.tally.items.items c.in-Ended.end c.stop.result
    (c.in-Ended.ensures.pauses a (requests.CopyIn feed) i) (ap (seen_by g.L.Link.seen) c.stop.ensures.left ∙ seen_left g.L.Link.seen c.poll_on.new.conn) c.stop.ensures.tells

pub returns-in-Opened : goal.returns-in-Opened
returns-in-Opened g c a feed e i = absurd (ended_unopened c.args.limits a (seen_by g.L.Link.seen c.poll_on.new.conn) feed c.poll_on.new.tally.waits c.poll_on.new.tally.items.items e (c.in-Opened.ensures.pauses a (requests.CopyIn feed) i))
