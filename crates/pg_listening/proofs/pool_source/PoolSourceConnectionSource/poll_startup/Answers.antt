use Rattle.std.proofs.Common.{◌≡◌, ◌∙◌, ap, refl, rules, sym}
use Rattle.pg_startup.specs.Establishing.{kept_link}
use Rattle.pg_listening.proofs.ClosedLaws.{ends_start_up, fills_ended, fills_waits}
use Rattle.pg_listening.proofs.pool_source.PoolSourceConnectionSource.poll_startup.Goals as goal

pub returns-in-Pending-clause-fills : goal.returns-in-Pending-clause-fills
returns-in-Pending-clause-fills g c =
    let fills = rw c.in-Some.is at c.requires.mine in
    let told = c.in-Pending.ensures in
    (c.poll_within.new.self, refl, fills_waits g.D.L.Link.seen _ _ _ _ c.poll_within.new.self fills told.ticket told.left.0 told.polls)

pub returns-in-Ready-clause-fills : goal.returns-in-Ready-clause-fills
returns-in-Ready-clause-fills g c =
    let fills = rw c.in-Some.is at c.requires.mine in
    let told = c.in-Ready.ensures in
    rw c.with_link.ensures (fills_ended g.D.L.Link.seen _ _ _ _ c.poll_within.new.self c.in-Ready.answer c.give_up-link.result _ fills (search rules) told.ticket told.polls)

pub returns-in-Ready-clause-polls : goal.returns-in-Ready-clause-polls
returns-in-Ready-clause-polls g c =
    let kept : c.give_up-link.result ≡ kept_link c.poll_within.new.self.connecting.startup.phase = search rules in
    rw c.with_link.ensures (ends_start_up g.D.L.Link.seen _ _ _ c.take.new.self _ c.poll_within.new.self c.in-Ready.answer c.give_up-link.result c.in-Some.is c.in-Ready.ensures.polls kept)

pub give_up-link-requires-clause-theirs : goal.give_up-link-requires-clause-theirs
give_up-link-requires-clause-theirs g c = ap (λ s. s.name) c.seat_mut-seat.ensures.value ∙ c.self.invariant ∙ sym (ap (λ p. p.name) c.pool_ref-pool.ensures)

pub invariant_of-self : goal.invariant_of-self
invariant_of-self g c = ap (λ s. s.name) (g.met.S.SeatHolder.written c.self.inside.seat c.give_up-link.new.seat) ∙ c.give_up-link.ensures.seat ∙ ap (λ s. s.name) c.seat_mut-seat.ensures.value ∙ c.self.invariant

pub returns-in-Pending-clause-source : goal.returns-in-Pending-clause-source
returns-in-Pending-clause-source g c = refl

pub returns-in-Ready-clause-source : goal.returns-in-Ready-clause-source
returns-in-Ready-clause-source g c = rw (← c.self.view_is) refl
