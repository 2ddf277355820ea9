use Rattle.std.proofs.Common.{refl, sym, ◌∙◌}
use Rattle.pg_wire.specs.Backend.{ReadyForQuery}
use Rattle.pg_call.proofs.PlaceLaws.{closes_at}
use Rattle.pg_call.proofs.reply.Reply.closing.Goals as goal

pub returns : goal.returns
returns c = (ReadyForQuery c.in-Ok.status, c.in-Ok.ensures.exact, (closes_at c.args.self.now.part (sym c.awaits.ensures ∙ c.if-not-awaits.false), refl, refl))
