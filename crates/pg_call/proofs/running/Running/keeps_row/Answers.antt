use Rattle.std.proofs.Common.{sym, ◌∙◌}
use Rattle.pg_call.proofs.CallLaws.{own_passes}
use Rattle.pg_call.proofs.running.Running.keeps_row.Goals as goal

pub returns-in-Run-FetchAll-clause-yes : goal.returns-in-Run-FetchAll-clause-yes
returns-in-Run-FetchAll-clause-yes c e = own_passes c.args.frame.body c.args.self.now c.in-Own.reply c.keeps_row.new.self c.in-Own.is (c.keeps_row.ensures.yes e) (sym c.looks_up.ensures ∙ c.if-looks_up.false) c.keeps_row.ensures.rest
