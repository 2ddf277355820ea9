use Rattle.std.proofs.Common.{◌≡◌, subst}
use Rattle.std.proofs.lemmas.Option.{same_Some}
use Rattle.pg_call.specs.declared.kind.Kind.TheVariants as kinds
use Rattle.pg_conn.specs.Feeding.{IsFed}
use Rattle.pg_conn.proofs.StateLaws.{not_over}
use Rattle.pg_copying.proofs.CallingLaws.{opened_fed}
use Rattle.pg_copying.proofs.copy_in.BeginCopyIn.poll.Goals as goal

pub poll_turn-requires : goal.poll_turn-requires
poll_turn-requires g c = not_over kinds.CopyIn c.args.self.now.request (g.C.PgExecutor.conn c.in-Some.conn) (rw c.in-Some.is at c.requires)

pub returns-in-Pending-clause-calling : goal.returns-in-Pending-clause-calling
returns-in-Pending-clause-calling g c = rw c.in-Pending.ensures.asked (c.in-Pending.ensures.fits kinds.CopyIn (rw c.in-Some.is at c.requires))

pub returns-in-Ok-clause-open : goal.returns-in-Ok-clause-open
returns-in-Ok-clause-open g c =
    let fits = c.in-Ready.ensures.fits kinds.CopyIn (rw c.in-Some.is at c.requires) in
    let same : c.poll_turn.new.holder ≡ c.hand_on.result.conn = same_Some _ _ c.hand_on.ensures.copy in
    subst (λ (h : g.row.C.Denot). IsFed (g.C.PgExecutor.conn h)) same (opened_fed (g.C.PgExecutor.conn c.poll_turn.new.holder) c.in-Ready.turn c.in-Ok.response (rw c.in-Ok.is at c.begun.ensures) fits.1)
