use Rattle.std.proofs.Common.{Ok, Err, refl, subst}
use Rattle.futures.specs.declared.task.Poll.TheVariants.{Ready, Pending}
use Rattle.pg_call.specs.declared.answer.Turn.{Turn}
use Rattle.pg_call.specs.declared.kind.Kind.TheVariants as kinds
use Rattle.pg_conn.specs.Connections.{begun_by, seen_by}
use Rattle.pg_conn.specs.Turns.{PollsCall}
use Rattle.pg_describe.proofs.DescribingLaws.{prepares_told}
use Rattle.pg_describe.proofs.describing.Describing.poll_prepare.Goals as goal

pub statement-requires : goal.statement-requires
statement-requires g c = (c.in-Ready.ensures.fits kinds.Prepare c.requires.calling).0

pub returns-in-Pending-clause-polls : goal.returns-in-Pending-clause-polls
returns-in-Pending-clause-polls g c = (g.C.PgExecutor.conn c.poll_turn.new.holder, Pending, (Pending, refl, c.in-Pending.ensures.polls), (refl, refl, c.requires.told))

pub returns-in-Ok-clause-polls : goal.returns-in-Ok-clause-polls
returns-in-Ok-clause-polls g c = (
  g.C.PgExecutor.conn c.poll_turn.new.holder,
  Ready (Ok c.in-Ok.statement),
  prepares_told g.C.L.Link.seen (begun_by c.args.self.now.request (g.C.PgExecutor.conn c.args.self.now.conn)) (g.C.PgExecutor.conn c.poll_turn.new.holder) c.in-Ready.turn (Ok c.in-Ok.statement) (rw c.in-Ok.is at c.statement.ensures) c.in-Ready.ensures.polls,
  c.go_on.ensures.goes,
)

pub returns-in-Err-clause-polls : goal.returns-in-Err-clause-polls
returns-in-Err-clause-polls g c = (
  g.C.PgExecutor.conn c.poll_turn.new.holder,
  Ready (Err c.in-Err.e),
  prepares_told g.C.L.Link.seen (begun_by c.args.self.now.request (g.C.PgExecutor.conn c.args.self.now.conn)) (g.C.PgExecutor.conn c.poll_turn.new.holder) c.in-Ready.turn (Err c.in-Err.e) (rw c.in-Err.is at c.statement.ensures) c.in-Ready.ensures.polls,
  (refl, refl, c.requires.told),
)
