use Rattle.std.proofs.Common.{inr, refl, subst, ◌∙◌, ap}
use Rattle.pg_call.specs.declared.kind.Kind.TheVariants as kinds
use Rattle.pg_call.specs.declared.request.Request.TheVariants as requests
use Rattle.pg_conn.specs.Connections.{ConnOf, seen_by, started_next}
use Rattle.pg_conn.specs.Turns.{PollsMore}
use Rattle.pg_conn.proofs.StateLaws.{next_calling}
use Rattle.pg_copying.proofs.HeldLaws.{held_behind}
use Rattle.pg_copying.proofs.copy_abort.CopyAbort.poll_open.Goals as goal

pub hear-requires-clause-fits : goal.hear-requires-clause-fits
hear-requires-clause-fits g c = c.poll_next-answer.ensures.fits kinds.Flush (next_calling requests.Flush (g.C.PgExecutor.conn c.abort_held.new.holder) refl)

pub returns-clause-holder : goal.returns-clause-holder
returns-clause-holder g c =
    let conn = g.C.PgExecutor.conn in
    let with_conn = g.C.PgExecutor.with_conn in
    let again = g.met.C.PgExecutor.overwritten in
    let first = held_behind conn with_conn again c.args.self.now.conn c.abort_held.new.holder c.poll_next-answer.new.holder _ c.in-Ok.ensures.ok c.poll_next-answer.ensures.holder in
    held_behind conn with_conn again c.args.self.now.conn c.poll_next-answer.new.holder c.hear.new.self.conn _ first c.hear.ensures.holder

pub returns-clause-polls : goal.returns-clause-polls
returns-clause-polls g c =
    let conn = g.C.PgExecutor.conn in
    let ok = rw c.as_str.ensures at c.in-Ok.ensures.ok in
    let is = ap conn ok ∙ g.met.C.PgExecutor.written c.args.self.now.conn _ in
    inr (
      conn c.poll_next-answer.new.holder,
      c.poll_next-answer.result,
      subst (λ (a : ConnOf _). PollsMore (seen_by g.C.L.Link.seen (started_next requests.Flush a)) (seen_by g.C.L.Link.seen (conn c.poll_next-answer.new.holder)) c.poll_next-answer.result) is c.poll_next-answer.ensures.polls,
      c.hear.ensures.hears,
    )
