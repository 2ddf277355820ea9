use Rattle.std.proofs.Common.{refl}
use Rattle.pg_startup.specs.Greeting.{greeting_by}
use Rattle.pg_startup.proofs.GreetLaws.{none_begun, greets_one, greets_refused, greets_failed, greets_waits, greets_over}
use Rattle.pg_startup.proofs.greeting.Greeting.greet_once.Goals as goal

pub returns-in-Some : goal.returns-in-Some
returns-in-Some g c = greets_over c.args.client.now (greeting_by g.L.Link.seen c.args.self.now) c.in-Some.session c.in-Some.ensures

pub returns-in-Pending : goal.returns-in-Pending
returns-in-Pending g c = rw (← c.self.view_is) (greets_waits g.L.Link.seen c.args.client.now _ _ (none_begun c.session.result _ (rw (← c.self.view_is) at c.session.ensures) c.in_default.not-Some) c.in-Pending.ensures refl refl)

pub returns-in-Ready-Err : goal.returns-in-Ready-Err
returns-in-Ready-Err g c =
    let ahead = rw c.in-Ready-Err.field-0-is at c.in-Ready-Err.ensures in
    rw (← c.self.view_is) (greets_failed g.L.Link.seen c.args.client.now _ _ c.in-Ready-Err.e (none_begun c.session.result _ (rw (← c.self.view_is) at c.session.ensures) c.in_default.not-Some) ahead refl refl)

pub returns-in-Ok : goal.returns-in-Ok
returns-in-Ok g c =
    let ahead = rw c.in-Ready-Ok.field-0-is at c.in-Ready-Ok.ensures in
    rw (← c.self.view_is) (greets_one g.L.Link.seen c.args.client.now _ _ c.answer.new.self c.in-Ready-Ok.front ahead refl refl c.in-Ok.ensures.ok)

pub returns-in-Err : goal.returns-in-Err
returns-in-Err g c =
    let ahead = rw c.in-Ready-Ok.field-0-is at c.in-Ready-Ok.ensures in
    rw (← c.self.view_is, c.in-Err.ensures.err) (greets_refused g.L.Link.seen c.args.client.now _ _ c.in-Ready-Ok.front c.in-Err.e (none_begun c.session.result _ (rw (← c.self.view_is) at c.session.ensures) c.in_default.not-Some) ahead refl refl c.in-Err.ensures.cause)
