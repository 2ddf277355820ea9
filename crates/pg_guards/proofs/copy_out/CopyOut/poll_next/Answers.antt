use Rattle.futures.specs.declared.task.Poll.TheVariants.{Ready, Pending}
use Rattle.pg_call.specs.declared.kind.Kind.TheVariants as kinds
use Rattle.pg_conn.proofs.StateLaws.{kept_behind, kept_fits, kept_over, mapped_keeps, own_keeps}
use Rattle.pg_guards.proofs.copy_out.CopyOut.poll_next.Goals as goal

pub invariant_of-self : goal.invariant_of-self
invariant_of-self g c =
    let a = g.C.PgExecutor.conn c.args.self.now.conn in
    let b = g.C.PgExecutor.conn c.poll_turn.new.holder in
    record { calling = own_keeps kinds.CopyOut c.poll_turn.new.request b (kept_behind kinds.CopyOut c.args.self.now.request a b (mapped_keeps kinds.CopyOut c.args.self.now.request a c.args.self.now.calling) c.requires.over g.C.L.Link.seen c.poll_turn.new.request c.poll_turn.result c.poll_turn.ensures.asked c.poll_turn.ensures.polls) }

pub into_piece-requires : goal.into_piece-requires
into_piece-requires g c =
    let a = g.C.PgExecutor.conn c.args.self.now.conn in
    kept_fits kinds.CopyOut c.args.self.now.request a (g.C.PgExecutor.conn c.poll_turn.new.holder) (mapped_keeps kinds.CopyOut c.args.self.now.request a c.args.self.now.calling) c.requires.over c.in-Ready.turn (c.in-Ready.ensures.fits kinds.CopyOut)

pub returns-in-Pending-clause-over : goal.returns-in-Pending-clause-over
returns-in-Pending-clause-over g c =
    let a = g.C.PgExecutor.conn c.args.self.now.conn in
    kept_over kinds.CopyOut c.args.self.now.request a (g.C.PgExecutor.conn c.poll_turn.new.holder) (mapped_keeps kinds.CopyOut c.args.self.now.request a c.args.self.now.calling) c.requires.over g.C.L.Link.seen c.poll_turn.new.request Pending c.in-Pending.ensures.asked c.in-Pending.ensures.polls

pub returns-in-Ready-clause-over : goal.returns-in-Ready-clause-over
returns-in-Ready-clause-over g c =
    let a = g.C.PgExecutor.conn c.args.self.now.conn in
    rw (← c.into_piece.ensures) (kept_over kinds.CopyOut c.args.self.now.request a (g.C.PgExecutor.conn c.poll_turn.new.holder) (mapped_keeps kinds.CopyOut c.args.self.now.request a c.args.self.now.calling) c.requires.over g.C.L.Link.seen c.poll_turn.new.request (Ready c.in-Ready.turn) c.in-Ready.ensures.asked c.in-Ready.ensures.polls)

pub returns-in-Pending-clause-calling : goal.returns-in-Pending-clause-calling
returns-in-Pending-clause-calling g c i = c.in-Pending.ensures.fits kinds.CopyOut i

pub returns-in-Ready-clause-calling : goal.returns-in-Ready-clause-calling
returns-in-Ready-clause-calling g c i = rw (← c.into_piece.ensures) (c.in-Ready.ensures.fits kinds.CopyOut i)
