use Rattle.std.proofs.Common.{Ok, Err, refl}
use Rattle.futures.specs.declared.task.Poll.TheVariants.{Ready, Pending}
use Rattle.pg_call.specs.declared.kind.Kind.TheVariants as kinds
use Rattle.pg_call.specs.Answers.{unit_turn}
use Rattle.pg_conn.proofs.StateLaws.{closes_by, closing_keeps, keeps_closing, kept_behind, kept_fits, kept_over}
use Rattle.pg_conn.proofs.states.close.Close.poll.Goals as goal
use Rattle.pg_wire.proofs.Tests.{same_found}

pub invariant_of-self : goal.invariant_of-self
invariant_of-self g c = record { closing = keeps_closing c.poll_with.new.request c.poll_with.new.self (kept_behind kinds.Close c.args.self.now.request c.in-Some.conn c.poll_with.new.self (closing_keeps c.args.self.now.request c.args.self.now.conn c.in-Some.conn c.in-Some.is c.args.self.now.closing) (rw c.in-Some.is at c.requires.over) g.L.Link.seen c.poll_with.new.request c.poll_with.result c.poll_with.ensures.asked c.poll_with.ensures.polls) }

pub into_unit-requires-clause-fits : goal.into_unit-requires-clause-fits
into_unit-requires-clause-fits g c = kept_fits kinds.Close c.args.self.now.request c.in-Some.conn c.poll_with.new.self (closing_keeps c.args.self.now.request c.args.self.now.conn c.in-Some.conn c.in-Some.is c.args.self.now.closing) (rw c.in-Some.is at c.requires.over) c.in-Ready.turn (c.in-Ready.ensures.fits kinds.Close)

pub returns-in-Pending-clause-over : goal.returns-in-Pending-clause-over
returns-in-Pending-clause-over g c = kept_over kinds.Close c.args.self.now.request c.in-Some.conn c.poll_with.new.self (closing_keeps c.args.self.now.request c.args.self.now.conn c.in-Some.conn c.in-Some.is c.args.self.now.closing) (rw c.in-Some.is at c.requires.over) g.L.Link.seen c.poll_with.new.request Pending c.in-Pending.ensures.asked c.in-Pending.ensures.polls

pub returns-in-Pending-clause-polls : goal.returns-in-Pending-clause-polls
returns-in-Pending-clause-polls g c a e =
    closes_by g.L.Link.seen c.in-Some.conn a c.poll_with.new.self c.args.self.now.request c.args.self.now.request _ Pending refl (same_found _ c.in-Some.conn a c.in-Some.is e)
    c.in-Pending.ensures.polls (c.in-Pending.ensures.fits kinds.Close) refl

pub returns-in-Ok-clause-polls : goal.returns-in-Ok-clause-polls
returns-in-Ok-clause-polls g c a e =
    closes_by g.L.Link.seen c.in-Some.conn a c.poll_with.new.self c.args.self.now.request c.args.self.now.request _ (Ready (Ok c.hand_out.result)) refl (same_found _ c.in-Some.conn a c.in-Some.is e)
    (rw c.in-Ok.ensures at c.in-Ready.ensures.polls) (λ i. (tt, tt)) (c.hand_out.ensures.conn, c.hand_out.ensures.link c.poll_with.new.self refl)

pub returns-in-Err-clause-over : goal.returns-in-Err-clause-over
returns-in-Err-clause-over g c = kept_over kinds.Close c.args.self.now.request c.in-Some.conn c.poll_with.new.self (closing_keeps c.args.self.now.request c.args.self.now.conn c.in-Some.conn c.in-Some.is c.args.self.now.closing) (rw c.in-Some.is at c.requires.over) g.L.Link.seen c.poll_with.new.request (Ready (unit_turn (Err c.in-Err.e))) c.in-Ready.ensures.asked (rw c.in-Err.ensures at c.in-Ready.ensures.polls)

pub returns-in-Err-clause-polls : goal.returns-in-Err-clause-polls
returns-in-Err-clause-polls g c a e =
    closes_by g.L.Link.seen c.in-Some.conn a c.poll_with.new.self c.args.self.now.request c.args.self.now.request _ (Ready (Err c.in-Err.e)) refl (same_found _ c.in-Some.conn a c.in-Some.is e)
    (rw c.in-Err.ensures at c.in-Ready.ensures.polls) (λ i. (tt, tt)) refl
