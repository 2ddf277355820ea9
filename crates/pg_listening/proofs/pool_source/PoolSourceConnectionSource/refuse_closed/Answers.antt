use Rattle.std.proofs.Common.{◌∙◌, ap, refl, sym}
use Rattle.pg_listening.proofs.ReleasingLaws.{refuses}
use Rattle.pg_listening.proofs.pool_source.PoolSourceConnectionSource.refuse_closed.Goals as goal

pub closed_place-requires : goal.closed_place-requires
closed_place-requires g c = ap (λ s. s.name) c.seat_mut-seat.ensures.value ∙ c.self.invariant ∙ sym (ap (λ p. p.name) c.pool_ref-pool.ensures)

pub invariant_of-self : goal.invariant_of-self
invariant_of-self g c = ap (λ s. s.name) (g.met.S.SeatHolder.written c.self.inside.seat c.closed_place.new.seat) ∙ c.closed_place.ensures.seat ∙ ap (λ s. s.name) c.seat_mut-seat.ensures.value ∙ c.self.invariant

pub returns : goal.returns
returns g c =
    let seat = sym (g.met.S.SeatHolder.written c.self.inside.seat c.closed_place.new.seat) in
    record {
      closed = rw (← c.self.view_is, c.as_refusal.ensures) (refuses _ _ _ c.closed_place.result (rw (c.seat_mut-seat.ensures.value, seat) at c.closed_place.ensures.tells));
      source = rw (← c.self.view_is) refl;
    }
