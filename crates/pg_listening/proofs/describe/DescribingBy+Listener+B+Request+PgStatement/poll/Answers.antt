use Rattle.std.proofs.Common.{◌∙◌, sym, subst, Option}
use Rattle.pg_conn.specs.declared.statement.PgStatement.{PgStatement}
use Rattle.pg_listening.specs.Describing.{PollsDescribe}
use Rattle.pg_listening.proofs.describe.DescribingBy+Listener+B+Request+PgStatement.poll.Goals as goal

pub returns-in-Some : goal.returns-in-Some
returns-in-Some g c =
    let call = c.poll_nulls-answer in
    let told = call.ensures in
    let a = c.args.self.now in
    let b = call.new.self in
    let is = sym c.take.ensures.value ∙ c.in-Some.is in
    record {
      over = c.is_answered-self.ensures;
      same = told.same;
      hears = told.hears;
      channels = told.channels;
      describes = (call.new.left, subst (λ (t : Option PgStatement). PollsDescribe g.B.L.Link.seen g.B.Held.PgExecutor.conn g.B.Held.PgExecutor.with_conn g.B.ConnectionSource.filling g.B.ConnectionSource.now 256 call.new.left t a.request b.request a.listener.now b.listener.now call.result b.told) (sym is) told.nulls);
      calling = told.stays;
      closed = told.closed;
    }

pub returns-in-None : goal.returns-in-None
returns-in-None g c =
    let call = c.poll_prepare-answer in
    let told = call.ensures in
    let a = c.args.self.now in
    let b = call.new.self in
    let is = sym c.take.ensures.value ∙ c.in-None.is in
    record {
      over = c.is_answered-self-in-None.ensures;
      same = told.same;
      hears = told.hears;
      channels = told.channels;
      describes = (call.new.left, subst (λ (t : Option PgStatement). PollsDescribe g.B.L.Link.seen g.B.Held.PgExecutor.conn g.B.Held.PgExecutor.with_conn g.B.ConnectionSource.filling g.B.ConnectionSource.now 256 call.new.left t a.request b.request a.listener.now b.listener.now call.result b.told) (sym is) told.prepares);
      calling = told.stays;
      closed = told.closed;
    }
