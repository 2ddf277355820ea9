use Rattle.std.proofs.Common.{sym, ◌∙◌}
use Rattle.std.proofs.lemmas.Option.{IfSome_then}
use Rattle.pg_call.proofs.CallLaws.{own_shows}
use Rattle.pg_call.proofs.running.Running.shows_row.Goals as goal

pub returns-in-Own-clause-shown : goal.returns-in-Own-clause-shown
returns-in-Own-clause-shown c =
    IfSome_then c.shows_row.result c.shows_row.ensures.shown (λ row hears. own_shows c.args.frame.body row c.args.self.now c.in-Own.reply c.shows_row.new.self c.in-Own.is hears (sym c.looks_up.ensures ∙ c.if-looks_up.false) c.shows_row.ensures.rest)
