use Rattle.std.proofs.Common.{ℕ, List, subst, sym, ◌∙◌}
use Rattle.pg_wire.specs.Backend.{BackendMessage}
use Rattle.pg_wire.specs.Decoding.{Says}
use Rattle.pg_call.proofs.RowLaws.{passes_end}
use Rattle.pg_call.proofs.reply.Reply.passes_end.Goals as goal

pub returns-clause-yes : goal.returns-clause-yes
returns-clause-yes c e =
    let d = c.in-Ok.ensures.exact in
    let says = subst (λ (m : BackendMessage). Says 67 c.args.body.now m) d.1.1 d.2 in
    let known = sym c.awaits.ensures ∙ c.if-not-awaits.false in
    let plain = sym c.shows_counts.ensures ∙ c.if-shows_counts.false in
    rw (c.after_end-self.ensures, c.saturating_add-self.ensures, c.rows_affected.ensures, d.1.2) (passes_end c.args.self.now c.args.body.now d.1.0 says known plain)
