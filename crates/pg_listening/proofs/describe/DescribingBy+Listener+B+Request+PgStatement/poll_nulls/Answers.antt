use Rattle.std.proofs.Common.{refl}
use Rattle.pg_call.specs.declared.kind.How.TheVariants as hows
use Rattle.pg_call.specs.declared.kind.Kind.TheVariants as kinds
use Rattle.pg_listening.proofs.QueryingLaws.{queries_on, runs_none_cleared}
use Rattle.pg_listening.specs.Listeners.{beside_by}
use Rattle.pg_listening.proofs.DescribingLaws.{notes_heard, nulls_fit, nulls_stay}
use Rattle.pg_listening.proofs.describe.DescribingBy+Listener+B+Request+PgStatement.poll_nulls.Goals as goal

pub hear-answer-requires : goal.hear-answer-requires
hear-answer-requires g c =
    nulls_fit g.B.Held.PgExecutor.conn c.poll_query-answer.new.request c.poll_query-answer.new.self.hearing c.poll_query-answer.result
    (queries_on g.B.L.Link.seen g.B.Held.PgExecutor.conn g.B.Held.PgExecutor.with_conn g.B.ConnectionSource.filling g.met.B.Held.PgExecutor.written (beside_by g.B.ConnectionSource.now c.args.self.now.listener.now c.poll_query-answer.new.self) _ _ (kinds.Run hows.FetchAll) _ _ _ _ c.poll_query-answer.result (runs_none_cleared hows.FetchAll) c.requires.querying
    c.poll_query-answer.ensures.queries)

pub returns : goal.returns
returns g c =
    let told = c.poll_query-answer.ensures in
    let turn = c.poll_query-answer.result in
    let rest = c.poll_query-answer.new.request in
    let b = c.poll_query-answer.new.self in
    let on = queries_on g.B.L.Link.seen g.B.Held.PgExecutor.conn g.B.Held.PgExecutor.with_conn g.B.ConnectionSource.filling g.met.B.Held.PgExecutor.written (beside_by g.B.ConnectionSource.now c.args.self.now.listener.now b) _ _ (kinds.Run hows.FetchAll) _ _ _ _ turn (runs_none_cleared hows.FetchAll) c.requires.querying told.queries in
    record {
      same = refl;
      hears = told.hears;
      channels = told.channels;
      left = told.left;
      nulls = (turn, told.queries, c.hear-answer.ensures);
      stays = nulls_stay g.B.Held.PgExecutor.conn c.args.statement rest b.hearing turn c.hear-answer.result.0 c.hear-answer.result.1 on c.hear-answer.ensures;
      closed = notes_heard g.row.B-L.Denot (g.B.ConnectionSource.now c.args.self.now.listener.now.source).most (g.B.ConnectionSource.now b.source).seat c.args.statement turn c.hear-answer.result.0 c.hear-answer.result.1 c.hear-answer.ensures told.closed;
    }
