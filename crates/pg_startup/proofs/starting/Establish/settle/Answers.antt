use Rattle.std.proofs.Common.{ℕ, List, ap, sym, subst, ◌∙◌}
use Rattle.pg_startup.specs.declared.starting.Phase.{Phase}
use Rattle.pg_startup.specs.declared.starting.Phase.TheVariants as phases
use Rattle.pg_startup.specs.Asking.{asking_by}
use Rattle.pg_startup.specs.Establishing.{EstablishOf, Opens, establish_by, phase_by}
use Rattle.pg_startup.proofs.EstablishLaws.{asking_waits, asking_fails, asking_opens}
use Rattle.pg_startup.proofs.starting.Establish.settle.Goals as goal

pub returns-in-Pending-clause-settles : goal.returns-in-Pending-clause-settles
returns-in-Pending-clause-settles g c =
    let phase = ap (λ (x : EstablishOf _). x.phase) (sym c.self.view_is) ∙ c.in-Asking.is in
    asking_waits _ _ (establish_by g.L.Link.seen c.args.self.now) (asking_by g.L.Link.seen c.in-Asking.asking) (asking_by g.L.Link.seen c.poll.new.self) (ap (λ (x : Phase _). phase_by g.L.Link.seen x) phase) c.in-Pending.ensures

pub returns-in-Ready-Err-clause-settles : goal.returns-in-Ready-Err-clause-settles
returns-in-Ready-Err-clause-settles g c =
    let polled = rw c.in-Ready-Err.field-0-is at c.in-Ready-Err.ensures in
    let phase = ap (λ (x : EstablishOf _). x.phase) (sym c.self.view_is) ∙ c.in-Asking.is in
    asking_fails _ _ (establish_by g.L.Link.seen c.args.self.now) (asking_by g.L.Link.seen c.in-Asking.asking) (asking_by g.L.Link.seen c.poll.new.self) c.in-Ready-Err.e (ap (λ (x : Phase _). phase_by g.L.Link.seen x) phase) polled

pub returns-in-Ready-Ok-clause-settles : goal.returns-in-Ready-Ok-clause-settles
returns-in-Ready-Ok-clause-settles g c =
    let polled = rw c.in-Ready-Ok.field-0-is at c.in-Ready-Ok.ensures in
    let phase = ap (λ (x : EstablishOf _). x.phase) (sym c.self.view_is) ∙ c.in-Asking.is in
    let message = ap (λ (x : EstablishOf _). x.message) c.self.view_is in
    let opens = subst (λ (m : List ℕ). Opens m (phases.Asking c.poll.new.self) c.open.new.self.phase c.open.result) message c.open.ensures.opens in
    asking_opens g.L.Link.seen _ _ c.args.self.now c.in-Asking.asking c.poll.new.self c.open.new.self.phase c.open.result phase polled opens
