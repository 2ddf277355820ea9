use Rattle.std.proofs.Common.{sym, ◌∙◌}
use Rattle.pg_call.proofs.CallLaws.{own_passes}
use Rattle.pg_call.proofs.running.Running.passes_row.Goals as goal

pub returns-in-Own-clause-yes : goal.returns-in-Own-clause-yes
returns-in-Own-clause-yes c e = own_passes c.args.body.now c.args.self.now c.in-Own.reply c.passes_row.new.self c.in-Own.is (c.passes_row.ensures.yes e) (sym c.looks_up.ensures ∙ c.if-looks_up.false) c.passes_row.ensures.rest
