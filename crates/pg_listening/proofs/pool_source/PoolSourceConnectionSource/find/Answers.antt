use Rattle.std.proofs.Common.{◌≡◌, ◌∙◌, ap, inl, refl, subst, sym}
use Rattle.pg_pool.specs.Seats.{SeatSeen}
use Rattle.pg_listening.specs.Failing.{AcquiresNone}
use Rattle.pg_listening.proofs.DialLaws.{finds_none}
use Rattle.pg_listening.proofs.FailingLaws.{acquires_none}
use Rattle.pg_listening.proofs.pool_source.PoolSourceConnectionSource.find.Goals as goal

pub acquire-requires : goal.acquire-requires
acquire-requires g c = ap (λ s. s.name) c.seat_mut-seat.ensures.value ∙ c.self.invariant ∙ sym (ap (λ p. p.name) c.pool_ref-pool.ensures)

pub invariant_of-self : goal.invariant_of-self
invariant_of-self g c = ap (λ s. s.name) (g.met.S.SeatHolder.written c.self.inside.seat c.acquire.new.seat) ∙ c.acquire.ensures.seat ∙ ap (λ s. s.name) c.seat_mut-seat.ensures.value ∙ c.self.invariant

pub fill-requires : goal.fill-requires
fill-requires g c = record {
  theirs = c.acquire.ensures.seat ∙ ap (λ s. s.name) c.seat_mut-seat.ensures.value ∙ c.self.invariant ∙ sym (ap (λ p. p.name) c.pool_ref-pool.ensures);
  mine = rw c.in-Ok-New.field-0-is at c.in-Ok-New.ensures.named;
}

pub invariant_of-self-in-Ok-New : goal.invariant_of-self-in-Ok-New
invariant_of-self-in-Ok-New g c = ap (λ s. s.name) (g.met.S.SeatHolder.written c.self.inside.seat c.fill.new.seat) ∙ c.fill.ensures.seat ∙ c.acquire.ensures.seat ∙ ap (λ s. s.name) c.seat_mut-seat.ensures.value ∙ c.self.invariant

pub invariant_of-self-in-Err : goal.invariant_of-self-in-Err
invariant_of-self-in-Err g c = ap (λ s. s.name) (g.met.S.SeatHolder.written c.self.inside.seat c.acquire.new.seat) ∙ c.acquire.ensures.seat ∙ ap (λ s. s.name) c.seat_mut-seat.ensures.value ∙ c.self.invariant

pub returns-in-Ok-Idle : goal.returns-in-Ok-Idle
returns-in-Ok-Idle g c = record {
  found = rw (← c.self.view_is) (rw c.in-Ok-Idle.field-0-is at c.in-Ok-Idle.ensures.named ∙ ap (λ p. p.name) c.pool_ref-pool.ensures);
  faults = rw (← c.self.view_is) refl;
  none = tt;
  source = rw (← c.self.view_is) refl;
}

pub returns-in-Ok-New : goal.returns-in-Ok-New
returns-in-Ok-New g c =
    let pool = ap (λ p. p.options) c.pool_ref-pool.ensures in
    record {
      found = rw (← c.self.view_is) (rw c.pool_ref-pool.ensures at c.fill.ensures.found);
      faults = rw (← c.self.view_is) c.fill.ensures.faults;
      none = rw (← c.self.view_is) (finds_none g.D.L.Link.seen _ _ c.fill.result pool c.fill.ensures.«open» c.fill.ensures.none);
      source = rw (← c.self.view_is) refl;
    }

pub returns-in-Err : goal.returns-in-Err
returns-in-Err g c =
    let seat = sym (g.met.S.SeatHolder.written c.self.inside.seat c.acquire.new.seat) in
    let none : AcquiresNone g.row.D-L.Denot g.G.PoolLedger.most c.acquire.new.seat c.in-Err.e = acquires_none _ _ c.seat_mut-seat.result.now _ c.in-Err.e c.in-Err.ensures.acquires in
    record {
      found = tt;
      faults = tt;
      none = rw (← c.self.view_is) (inl (subst (λ (t : SeatSeen). AcquiresNone g.row.D-L.Denot g.G.PoolLedger.most t c.in-Err.e) seat none));
      source = rw (← c.self.view_is) refl;
    }
