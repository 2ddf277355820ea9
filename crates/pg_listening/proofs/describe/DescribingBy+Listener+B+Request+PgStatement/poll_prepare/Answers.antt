use Rattle.std.proofs.Common.{◌∙◌, [], ap, refl}
use Rattle.std.proofs.Math.Nat.{le_trans}
use Rattle.futures.specs.declared.task.Poll.TheVariants.{Pending, Ready}
use Rattle.pg_call.specs.declared.kind.Kind.TheVariants as kinds
use Rattle.pg_listening.specs.Hearing.{learnt_of}
use Rattle.pg_listening.proofs.BufferingLaws.{hears_behind}
use Rattle.pg_listening.proofs.QueryingLaws.{queries_on, query_fits}
use Rattle.pg_listening.specs.Listeners.{beside_by}
use Rattle.pg_listening.proofs.DescribingLaws.{notes_told, prepare_fails, prepare_goes, prepare_waits, prepares_none_cleared}
use Rattle.pg_listening.proofs.describe.DescribingBy+Listener+B+Request+PgStatement.poll_prepare.Goals as goal

pub statement_told-requires : goal.statement_told-requires
statement_told-requires g c =
    query_fits g.B.Held.PgExecutor.conn kinds.Prepare _ c.poll_query.new.self.hearing c.in-Ready.turn (queries_on g.B.L.Link.seen g.B.Held.PgExecutor.conn g.B.Held.PgExecutor.with_conn g.B.ConnectionSource.filling g.met.B.Held.PgExecutor.written _ _ _ kinds.Prepare _ _ _ c.poll_query.new.self.hearing (Ready c.in-Ready.turn) prepares_none_cleared c.requires.querying c.in-Ready.ensures.queries)

pub returns-in-Pending : goal.returns-in-Pending
returns-in-Pending g c =
    let told = c.in-Pending.ensures in
    let a = c.args.self.now in
    let b = c.poll_query.new.self in
    record {
      same = refl;
      hears = told.hears;
      channels = told.channels;
      left = told.left;
      prepares = prepare_waits g.B.L.Link.seen g.B.Held.PgExecutor.conn g.B.Held.PgExecutor.with_conn g.B.ConnectionSource.filling g.B.ConnectionSource.now c.args.left.now c.poll_query.new.left a.request c.poll_query.new.request a.listener.now b a.told c.requires.told told.left told.queries;
      stays = rw c.requires.told (queries_on g.B.L.Link.seen g.B.Held.PgExecutor.conn g.B.Held.PgExecutor.with_conn g.B.ConnectionSource.filling g.met.B.Held.PgExecutor.written (beside_by g.B.ConnectionSource.now a.listener.now b) _ _ kinds.Prepare _ _ _ b.hearing Pending prepares_none_cleared c.requires.querying told.queries);
      closed = tt;
    }

pub returns-in-Ok : goal.returns-in-Ok
returns-in-Ok g c =
    let first = c.in-Ready.ensures in
    let told = c.go_on.ensures in
    let a = c.args.self.now in
    let m = c.poll_query.new.self in
    let b = c.go_on.new.self in
    record {
      same = told.same;
      hears = hears_behind g.B.L.Link.seen _ _ _ [] first.hears told.hears;
      channels = told.channels ∙ first.channels;
      left = le_trans told.left first.left;
      prepares =
          prepare_goes g.B.L.Link.seen g.B.Held.PgExecutor.conn g.B.Held.PgExecutor.with_conn g.B.ConnectionSource.filling g.B.ConnectionSource.now c.args.left.now c.poll_query.new.left c.go_on.new.left a.request c.poll_query.new.request b.request a.listener.now m b.listener.now c.go_on.result b.told c.in-Ready.turn c.in-Ok.statement first.left
          (rw c.in-Ok.is at c.statement_told.ensures) first.queries told.goes;
      stays = told.stays;
      closed = rw (ap (λ s. s.most) first.source) at told.closed;
    }

pub returns-in-Err : goal.returns-in-Err
returns-in-Err g c =
    let told = c.in-Ready.ensures in
    let a = c.args.self.now in
    let b = c.poll_query.new.self in
    let tells = rw c.in-Err.is at c.statement_told.ensures in
    record {
      same = refl;
      hears = told.hears;
      channels = told.channels;
      left = told.left;
      prepares = prepare_fails g.B.L.Link.seen g.B.Held.PgExecutor.conn g.B.Held.PgExecutor.with_conn g.B.ConnectionSource.filling g.B.ConnectionSource.now c.args.left.now c.poll_query.new.left a.request c.poll_query.new.request a.listener.now b a.told c.in-Ready.turn c.in-Err.e c.requires.told told.left tells told.queries;
      stays = tt;
      closed = notes_told g.row.B-L.Denot (g.B.ConnectionSource.now a.listener.now.source).most (g.B.ConnectionSource.now b.source).seat (learnt_of g.B.Held.PgExecutor.conn b.hearing) c.in-Ready.turn _ tells told.closed;
    }
