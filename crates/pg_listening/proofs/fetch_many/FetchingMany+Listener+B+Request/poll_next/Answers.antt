use Rattle.std.proofs.Common.{ap, refl, subst, ◌∙◌}
use Rattle.futures.specs.declared.task.Poll.TheVariants.{Pending, Ready}
use Rattle.pg_call.specs.declared.answer.Turn.{Turn}
use Rattle.pg_call.specs.declared.kind.How.TheVariants as hows
use Rattle.pg_call.specs.declared.kind.Kind.TheVariants as kinds
use Rattle.pg_conn.specs.States.{ends_call}
use Rattle.pg_listening.specs.Querying.{NotesTurn, Queries, QueriesOn}
use Rattle.pg_listening.proofs.QueryingLaws.{queries_on, query_fits, runs_none_cleared}
use Rattle.pg_listening.specs.Listeners.{beside_by}
use Rattle.pg_listening.proofs.fetch_many.FetchingMany+Listener+B+Request.poll_next.Goals as goal

pub into_either-requires : goal.into_either-requires
into_either-requires g c =
    query_fits g.B.Held.PgExecutor.conn (kinds.Run hows.FetchMany) _ c.poll_query.new.self.hearing c.in-Ready.turn
    (queries_on g.B.L.Link.seen g.B.Held.PgExecutor.conn g.B.Held.PgExecutor.with_conn g.B.ConnectionSource.filling g.met.B.Held.PgExecutor.written _ _ _ (kinds.Run hows.FetchMany) _ _ _ c.poll_query.new.self.hearing (Ready c.in-Ready.turn) (runs_none_cleared hows.FetchMany) c.requires.querying c.in-Ready.ensures.queries)

pub returns-in-Pending : goal.returns-in-Pending
returns-in-Pending g c =
    let told = c.in-Pending.ensures in
    record {
      over = c.requires.over;
      same = refl;
      hears = told.hears;
      channels = told.channels;
      queries = (c.poll_query.new.left, told.queries);
      querying =
          queries_on g.B.L.Link.seen g.B.Held.PgExecutor.conn g.B.Held.PgExecutor.with_conn g.B.ConnectionSource.filling g.met.B.Held.PgExecutor.written (beside_by g.B.ConnectionSource.now c.args.self.now.listener.now c.poll_query.new.self) _ _ (kinds.Run hows.FetchMany) _ _ _ c.poll_query.new.self.hearing Pending (runs_none_cleared hows.FetchMany) c.requires.querying told.queries;
      closed = tt;
    }

pub returns-in-Ready : goal.returns-in-Ready
returns-in-Ready g c =
    let seen = g.B.L.Link.seen in
    let conn = g.B.Held.PgExecutor.conn in
    let with_conn = g.B.Held.PgExecutor.with_conn in
    let filling = g.B.ConnectionSource.filling in
    let a = c.args.self.now.listener.now in
    let b = c.poll_query.new.self in
    let left = c.poll_query.new.left in
    let rest = c.poll_query.new.request in
    let o = beside_by g.B.ConnectionSource.now a b in
    let told = c.in-Ready.ensures in
    let turn = c.into_either.ensures in
    let on = queries_on g.B.L.Link.seen g.B.Held.PgExecutor.conn g.B.Held.PgExecutor.with_conn g.B.ConnectionSource.filling g.met.B.Held.PgExecutor.written o _ _ (kinds.Run hows.FetchMany) _ _ _ b.hearing (Ready c.in-Ready.turn) (runs_none_cleared hows.FetchMany) c.requires.querying told.queries in
    record {
      over = c.ends_call-self.ensures ∙ ap (λ (t : Turn). ends_call (Ready t)) turn;
      same = refl;
      hears = told.hears;
      channels = told.channels;
      queries = (left, subst (λ (t : Turn). Queries seen conn with_conn filling o 256 left c.args.self.now.request rest a.hearing b.hearing (Ready t)) turn told.queries);
      querying = subst (λ (t : Turn). QueriesOn g.B.Held.PgExecutor.conn (kinds.Run hows.FetchMany) rest b.hearing (Ready t)) turn on;
      closed = subst (λ (t : Turn). NotesTurn g.row.B-L.Denot (g.B.ConnectionSource.now a.source).most (g.B.ConnectionSource.now b.source).seat (Ready t)) turn told.closed;
    }
