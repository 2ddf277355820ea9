use Rattle.std.proofs.Common.{◌≡◌, false}
use Rattle.pg_call.specs.declared.kind.How.TheVariants as hows
use Rattle.pg_call.specs.declared.kind.Kind.TheVariants as kinds
use Rattle.pg_listening.specs.Querying.{IsQuerying}
use Rattle.pool_cases.proofs.CallLaws.{still_fetching}
use Rattle.pool_cases.proofs.listening.querying.fetch_many.Goals as goal
use Rattle.pool_cases.proofs.listening.querying.fetch_many.Goals.{in-Pending, in-Ready-Some-Ok}

pub loop-preserved : goal.loop-preserved
loop-preserved g c =
    elim c.match-poll_next.branch [
      | in-Pending w ↦ record { over = w.in-Pending.ensures.over; querying = w.in-Pending.ensures.querying }
      | in-Ready-Some-Ok w ↦
          let over = rw (w.in-Ready-Some-Ok.field-0-is, w.in-Ready-Some-Ok.field-0-0-is) at w.in-Ready-Some-Ok.ensures.over in
          let on = rw (w.in-Ready-Some-Ok.field-0-is, w.in-Ready-Some-Ok.field-0-0-is) at w.in-Ready-Some-Ok.ensures.querying in
          let both : (c.poll_next.new.self.is_over ≡ false) × IsQuerying g.B.Held.PgExecutor.conn (kinds.Run hows.FetchMany) c.poll_next.new.self.request c.poll_next.new.self.listener.now.hearing = still_fetching g.B.Held.PgExecutor.conn (kinds.Run hows.FetchMany) _ c.poll_next.new.self.is_over c.poll_next.new.self.request c.poll_next.new.self.listener.now.hearing over on in
          record { over = both.0; querying = both.1 }
    ]
