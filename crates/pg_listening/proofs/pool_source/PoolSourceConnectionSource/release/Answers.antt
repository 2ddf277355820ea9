use Rattle.std.proofs.Common.{◌∙◌, ap, refl, sym}
use Rattle.pg_listening.proofs.pool_source.PoolSourceConnectionSource.release.Goals as goal

pub release-requires-clause-theirs : goal.release-requires-clause-theirs
release-requires-clause-theirs g c = ap (λ s. s.name) c.seat_mut-seat.ensures.value ∙ c.self.invariant ∙ sym (ap (λ p. p.name) c.pool_ref-pool.ensures)

pub invariant_of-self : goal.invariant_of-self
invariant_of-self g c = ap (λ s. s.name) (g.met.S.SeatHolder.written c.self.inside.seat c.release.new.seat) ∙ c.release.ensures.seat ∙ ap (λ s. s.name) c.seat_mut-seat.ensures.value ∙ c.self.invariant

pub returns-in-Some-clause-releases : goal.returns-in-Some-clause-releases
returns-in-Some-clause-releases g c =
    let is = sym c.take.ensures.value ∙ c.in-Some.is in
    let seat = sym (g.met.S.SeatHolder.written c.self.inside.seat c.release.new.seat) in
    rw is (rw (← c.self.view_is) (rw (c.seat_mut-seat.ensures.value, seat) at c.release.ensures.releases))

pub returns-in-Some-clause-source : goal.returns-in-Some-clause-source
returns-in-Some-clause-source g c = rw (← c.self.view_is) refl

pub returns-in-None-clause-releases : goal.returns-in-None-clause-releases
returns-in-None-clause-releases g c = rw (sym c.take.ensures.value ∙ c.in-None.is) tt

pub returns-in-None-clause-source : goal.returns-in-None-clause-source
returns-in-None-clause-source g c = refl
