use Rattle.std.proofs.Common.{◌≡◌, ◌⊎◌, refl}
use Rattle.pg_listening.specs.Failing.{Fails}
use Rattle.pg_listening.specs.Waiting.{WaitsBy}
use Rattle.pg_listening.specs.Listeners.{FailsWithin, WaitsOrSpent, beside_by}
use Rattle.pg_listening.proofs.AnswerLaws.{on_failed, on_pending}
use Rattle.pg_listening.proofs.receive.Receiving+Listener+B.poll.Goals as goal

pub returns : goal.returns
returns g c =
    let seen = g.B.L.Link.seen in
    let conn = g.B.Held.PgExecutor.conn in
    let with_conn = g.B.Held.PgExecutor.with_conn in
    let filling = g.B.ConnectionSource.filling in
    let a = c.args.self.now.listener.now in
    let b = c.poll_recv-answer.new.self in
    let left = c.poll_recv-answer.new.left in
    let o = beside_by g.B.ConnectionSource.now a b in
    let answer = c.poll_recv-answer.result in
    let told = c.poll_recv-answer.ensures in
    record {
      over = c.is_answered-self.ensures;
      same = refl;
      hears = told.hears;
      channels = told.channels;
      pending = on_pending answer (WaitsBy seen conn filling 256 left a.hearing b.hearing ⊎ (left ≡ 0)) (WaitsOrSpent seen conn filling a.hearing b.hearing) (λ w. (left, w)) told.pending;
      fails = on_failed answer (Fails seen conn with_conn filling o 256 left a.hearing b.hearing) (FailsWithin seen conn with_conn filling o a.hearing b.hearing) (λ e f. (left, f)) told.fails;
      closed = told.closed;
    }
