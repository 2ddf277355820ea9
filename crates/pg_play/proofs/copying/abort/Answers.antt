use Rattle.std.proofs.Common.{ap, refl, ◌∙◌}
use Rattle.pg_conn.specs.Connections.{seen_by}
use Rattle.pg_play.specs.Feeding.{parts_of}
use Rattle.pg_play.specs.Opened.{of_step}
use Rattle.pg_conn.proofs.ViewLaws.{seen_left}
use Rattle.pg_play.proofs.PartingLaws.{abort_part, abort_unsaid}
use Rattle.pg_play.proofs.copying.abort.Goals as goal

pub returns-in-Ok : goal.returns-in-Ok
returns-in-Ok g c copying old polled end fed =
    let message = rw c.as_str.ensures at c.in-Ok.ensures.ok in
    let can = rw c.as_str.ensures at c.in-Ok.ensures.can in
    c.hear_failure.ensures copying c.args.message.now old polled end (ap (λ o. o.end) c.stop-told.ensures.tells)
    (abort_part c.args.step.now copying old (seen_by g.L.Link.seen c.args.conn.now) (seen_by g.L.Link.seen c.stop-told.new.conn) c.args.tally.waits c.args.tally.items.items c.args.message.now c.stop-told.result polled end can c.requires.waits fed
    (ap (seen_by g.L.Link.seen) (rw message at c.stop-told.ensures.left)) c.stop-told.ensures.tells)

pub returns-in-Err : goal.returns-in-Err
returns-in-Err g c copying old polled end fed =
    rw c.with_end.ensures (abort_unsaid c.args.step.now copying old (seen_by g.L.Link.seen c.args.conn.now) (seen_by g.L.Link.seen c.stop-told-in-Err.new.conn) c.args.tally.waits c.args.tally.items.items c.args.message.now c.in-Err.e c.stop-told-in-Err.result polled end (rw end (rw c.as_str.ensures at c.in-Err.ensures.cause)) c.requires.waits fed
    (ap (seen_by g.L.Link.seen) (rw c.in-Err.ensures.err at c.stop-told-in-Err.ensures.left) ∙ seen_left g.L.Link.seen c.args.conn.now) c.stop-told-in-Err.ensures.tells)
