use Rattle.std.proofs.Common.{true, sym, ap, subst, ◌∙◌, Ok, Err}
use Rattle.futures.specs.declared.task.Poll.TheVariants.{Ready, Pending}
use Rattle.pg_startup.specs.Establishing.{EstablishOf, PollsStart, establish_by, phase_by}
use Rattle.pg_startup.specs.Handshake.{ready_by}
use Rattle.pg_startup.proofs.EstablishLaws.{polls_waiting, polls_failing, polls_ready}
use Rattle.pg_startup.proofs.starting.Establish.poll_within.Goals as goal

pub returns-in-Pending-clause-polls : goal.returns-in-Pending-clause-polls
returns-in-Pending-clause-polls g c =
    subst (λ (d : EstablishOf _). PollsStart c.args.left.now c.go_on.new.left (establish_by g.L.Link.seen c.args.self.now) (establish_by g.L.Link.seen d) Pending) (sym c.go_on.ensures.same) (polls_waiting c.args.left.now c.go_on.new.left (establish_by g.L.Link.seen c.args.self.now) (phase_by g.L.Link.seen c.go_on.new.self.phase) c.requires.goes c.in-Pending.ensures.on)

pub returns-in-Ready-Err-clause-polls : goal.returns-in-Ready-Err-clause-polls
returns-in-Ready-Err-clause-polls g c =
    let on = rw c.in-Ready-Err.field-0-is at c.in-Ready-Err.ensures.on in
    let same = ap (λ (x : EstablishOf _). record x { is_finished = true }) (c.self.view_is ∙ c.go_on.ensures.same) in
    subst (λ (d : EstablishOf _). PollsStart c.args.left.now c.go_on.new.left (establish_by g.L.Link.seen c.args.self.now) (establish_by g.L.Link.seen d) (Ready (Err c.in-Ready-Err.e))) (sym same) (polls_failing c.args.left.now c.go_on.new.left (establish_by g.L.Link.seen c.args.self.now) (phase_by g.L.Link.seen c.go_on.new.self.phase) c.in-Ready-Err.e on)

pub returns-in-Ready-Ok-clause-polls : goal.returns-in-Ready-Ok-clause-polls
returns-in-Ready-Ok-clause-polls g c =
    let on = rw c.in-Ready-Ok.field-0-is at c.in-Ready-Ok.ensures.on in
    let kept = rw c.in-Ready-Ok.field-0-is at c.in-Ready-Ok.ensures.kept in
    subst (λ (d : EstablishOf _). PollsStart c.args.left.now c.go_on.new.left (establish_by g.L.Link.seen c.args.self.now) (establish_by g.L.Link.seen d) (Ready (Ok (ready_by g.L.Link.seen c.hand_out.result)))) (sym c.hand_out.ensures.now) (polls_ready g.L.Link.seen c.args.left.now c.go_on.new.left c.args.self.now c.go_on.new.self c.in-Ready-Ok.session c.hand_out.result c.go_on.ensures.same on kept c.hand_out.ensures.ready)
