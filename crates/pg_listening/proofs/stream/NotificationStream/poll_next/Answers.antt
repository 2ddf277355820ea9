use Rattle.std.proofs.Common.{◌≡◌, false, refl, rules, true}
use Rattle.pg_listening.proofs.HearingLaws.{hears_nothing}
use Rattle.pg_listening.proofs.AnswerLaws.{none_over, none_told, none_yet}
use Rattle.pg_listening.proofs.stream.NotificationStream.poll_next.Goals as goal

pub returns-then-self : goal.returns-then-self
returns-then-self g c =
    let over : c.args.self.now.is_over ≡ true = search rules in
    record { hears = hears_nothing g.B.L.Link.seen _ _ refl; over = refl; none = none_over c.args.self.now.is_over over; channels = refl; pending = tt; fails = tt; closed = tt }

pub returns-in-Pending : goal.returns-in-Pending
returns-in-Pending g c =
    let told = c.in-Pending.ensures in
    let on : c.args.self.now.is_over ≡ false = search rules in
    record { hears = told.hears; over = refl; none = none_yet c.args.self.now.is_over on; channels = told.channels; pending = (c.poll_recv.new.left, told.pending); fails = tt; closed = tt }

pub returns-in-Ready-Ok : goal.returns-in-Ready-Ok
returns-in-Ready-Ok g c =
    let told = c.in-Ready-Ok.ensures in
    let on : c.args.self.now.is_over ≡ false = search rules in
    let hears = rw c.in-Ready-Ok.field-0-is at told.hears in
    record { hears = hears; over = refl; none = none_told c.args.self.now.is_over on _; channels = told.channels; pending = tt; fails = tt; closed = tt }

pub returns-in-Ready-Err : goal.returns-in-Ready-Err
returns-in-Ready-Err g c =
    let told = c.in-Ready-Err.ensures in
    let on : c.args.self.now.is_over ≡ false = search rules in
    let hears = rw c.in-Ready-Err.field-0-is at told.hears in
    let fails = rw c.in-Ready-Err.field-0-is at told.fails in
    let closed = rw c.in-Ready-Err.field-0-is at told.closed in
    record { hears = hears; over = refl; none = none_told c.args.self.now.is_over on _; channels = told.channels; pending = tt; fails = (c.poll_recv.new.left, fails); closed = closed }
