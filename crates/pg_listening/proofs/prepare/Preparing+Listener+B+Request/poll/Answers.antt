use Rattle.std.proofs.Common.{refl}
use Rattle.futures.specs.declared.task.Poll.TheVariants.{Pending, Ready}
use Rattle.pg_call.specs.declared.kind.Kind.TheVariants as kinds
use Rattle.pg_listening.specs.Hearing.{learnt_of}
use Rattle.pg_listening.proofs.QueryingLaws.{queries_on, query_fits}
use Rattle.pg_listening.specs.Listeners.{beside_by}
use Rattle.pg_listening.proofs.DescribingLaws.{notes_told, prepares_none_cleared, prepares_told}
use Rattle.pg_listening.proofs.prepare.Preparing+Listener+B+Request.poll.Goals as goal

pub statement_told-requires : goal.statement_told-requires
statement_told-requires g c =
    query_fits g.B.Held.PgExecutor.conn kinds.Prepare _ c.poll_query.new.self.hearing c.in-Ready.turn (queries_on g.B.L.Link.seen g.B.Held.PgExecutor.conn g.B.Held.PgExecutor.with_conn g.B.ConnectionSource.filling g.met.B.Held.PgExecutor.written _ _ _ kinds.Prepare _ _ _ c.poll_query.new.self.hearing (Ready c.in-Ready.turn) prepares_none_cleared c.requires.querying c.in-Ready.ensures.queries)

pub returns-in-Pending : goal.returns-in-Pending
returns-in-Pending g c =
    let told = c.in-Pending.ensures in
    record {
      over = c.requires.over;
      same = refl;
      hears = told.hears;
      channels = told.channels;
      prepares = (Pending, refl, (c.poll_query.new.left, told.queries));
      querying =
          queries_on g.B.L.Link.seen g.B.Held.PgExecutor.conn g.B.Held.PgExecutor.with_conn g.B.ConnectionSource.filling g.met.B.Held.PgExecutor.written (beside_by g.B.ConnectionSource.now c.args.self.now.listener.now c.poll_query.new.self) _ _ kinds.Prepare _ _ _ c.poll_query.new.self.hearing Pending prepares_none_cleared c.requires.querying told.queries;
      closed = tt;
    }

pub returns-in-Ready : goal.returns-in-Ready
returns-in-Ready g c =
    let a = c.args.self.now.listener.now in
    let b = c.poll_query.new.self in
    let told = c.in-Ready.ensures in
    record {
      over = refl;
      same = refl;
      hears = told.hears;
      channels = told.channels;
      prepares =
          prepares_told g.B.L.Link.seen g.B.Held.PgExecutor.conn g.B.Held.PgExecutor.with_conn g.B.ConnectionSource.filling (beside_by g.B.ConnectionSource.now a b) c.poll_query.new.left c.args.self.now.request c.poll_query.new.request a.hearing b.hearing c.in-Ready.turn c.statement_told.result c.statement_told.ensures told.queries;
      querying = tt;
      closed = notes_told g.row.B-L.Denot (g.B.ConnectionSource.now a.source).most (g.B.ConnectionSource.now b.source).seat (learnt_of g.B.Held.PgExecutor.conn b.hearing) c.in-Ready.turn c.statement_told.result c.statement_told.ensures told.closed;
    }
