use Rattle.std.proofs.Common.{ap, refl, true, ◌∙◌}
use Rattle.pg_conn.specs.Connections.{ConnSeen, seen_by}
use Rattle.pg_play.specs.Shown.{feed_of}
use Rattle.pg_play.specs.Calls.{first_conn}
use Rattle.pg_play.specs.Feeding.{parts_of}
use Rattle.pg_play.specs.Opened.{asked_of_fed, fed_of, of_step}
use Rattle.pg_conn.proofs.ViewLaws.{seen_left}
use Rattle.pg_play.proofs.PartingLaws.{all_parts, ends_unfed, finish_goes, finish_told}
use Rattle.pg_play.proofs.copying.finish.Goals as goal

pub go_on-requires-clause-playing : goal.go_on-requires-clause-playing
go_on-requires-clause-playing g c =
    let f = c.requires.fed in (
      first_conn (asked_of_fed (fed_of f.0 (parts_of f.0) true)) f.1,
      feed_of (fed_of f.0 (parts_of f.0) true),
      refl,
      rw c.limits_of.ensures (finish_goes (of_step c.args.step.now) f.0 f.1 (seen_by g.L.Link.seen c.args.conn.now) (seen_by g.L.Link.seen c.end_copy.new.self) c.args.tally.waits c.args.tally.items.items f.2 (ap (seen_by g.L.Link.seen) c.in-Ok.ensures.ok)),
    )

pub returns-in-Ok : goal.returns-in-Ok
returns-in-Ok g c copying old polled end fed =
    finish_told c.args.step.now copying old (seen_by g.L.Link.seen c.go_on.new.conn) c.go_on.result polled end
    ((rw c.limits_of.ensures at c.go_on.ensures) (first_conn (asked_of_fed (fed_of copying (parts_of copying) true)) old) (feed_of (fed_of copying (parts_of copying) true)) refl
    (finish_goes (of_step c.args.step.now) copying old (seen_by g.L.Link.seen c.args.conn.now) (seen_by g.L.Link.seen c.end_copy.new.self) c.args.tally.waits c.args.tally.items.items fed (ap (seen_by g.L.Link.seen) c.in-Ok.ensures.ok)))

pub returns-in-Err : goal.returns-in-Err
returns-in-Err g c copying old polled end fed =
    ends_unfed c.args.step.now copying (parts_of copying) old (seen_by g.L.Link.seen c.args.conn.now) (seen_by g.L.Link.seen c.stop.new.conn) c.args.tally.waits c.args.tally.items.items c.stop.result polled (all_parts copying) c.requires.waits fed
    (ap (seen_by g.L.Link.seen) (rw c.in-Err.ensures.err at c.stop.ensures.left) ∙ seen_left g.L.Link.seen c.args.conn.now) (rw c.in-Err.ensures.cause at c.stop.ensures.tells)
