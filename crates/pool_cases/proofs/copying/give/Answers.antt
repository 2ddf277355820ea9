use Rattle.std.proofs.Common.{◌≡◌, false, ap, ◌∙◌}
use Rattle.pg_conn.specs.Connections.{is_over}
use Rattle.pg_listen.specs.Handed.{HeldOf}
use Rattle.pool_cases.proofs.copying.give.Goals as goal
use Rattle.pool_cases.proofs.copying.give.Goals.{in-Pending, in-Ready-Some-Ok}

pub loop-preserved : goal.loop-preserved
loop-preserved c =
    let over : is_over c.poll_next.new.self.request c.poll_next.new.self.conn.conn.call ≡ false = elim c.match-poll_next.branch [
      | in-Pending w ↦ w.in-Pending.ensures.over
      | in-Ready-Some-Ok w ↦ rw (w.in-Ready-Some-Ok.field-0-is, w.in-Ready-Some-Ok.field-0-0-is) at w.in-Ready-Some-Ok.ensures.over
    ] in
    record { over = over; named = ap (λ (h : HeldOf _). h.name) c.poll_next.ensures.holder ∙ c.loop.invariant.named }
