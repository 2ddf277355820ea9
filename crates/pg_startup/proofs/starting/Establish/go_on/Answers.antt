use Rattle.std.proofs.Common.{ap}
use Rattle.pg_startup.specs.Establishing.{EstablishOf, establish_by, phase_by}
use Rattle.pg_startup.proofs.EstablishLaws.{goes_greeting}
use Rattle.pg_startup.proofs.starting.Establish.go_on.Goals as goal

pub returns-in-Pending-clause-on : goal.returns-in-Pending-clause-on
returns-in-Pending-clause-on g c = c.in-Pending.ensures.settles

pub returns-in-Ready-Err-clause-on : goal.returns-in-Ready-Err-clause-on
returns-in-Ready-Err-clause-on g c = rw c.in-Ready-Err.field-0-is at c.in-Ready-Err.ensures.settles

pub returns-in-Ready-Ok-clause-on : goal.returns-in-Ready-Ok-clause-on
returns-in-Ready-Ok-clause-on g c =
    let settles = rw c.in-Ready-Ok.field-0-is at c.in-Ready-Ok.ensures.settles in
    goes_greeting _ c.settle.new.left _ (establish_by g.L.Link.seen c.args.self.now) (establish_by g.L.Link.seen c.settle.new.self) (phase_by g.L.Link.seen c.greet.new.self.phase) c.greet.result (ap (λ (x : EstablishOf _). x.client) c.settle.ensures.same) settles c.greet.ensures.fewer c.greet.ensures.greets
