use Rattle.std.proofs.Common.{sym, ◌∙◌}
use Rattle.pg_call.proofs.PlaceLaws.{row_goes}
use Rattle.pg_call.proofs.RowLaws.{shows_row}
use Rattle.pg_call.proofs.reply.Reply.shows_row.Goals as goal

pub returns-clause-shown : goal.returns-clause-shown
returns-clause-shown c =
    let says = c.in-Ok.ensures in
    let goes = row_goes c.args.self.now.part c.in-Some.next c.in-Ok.values (rw c.len.ensures at (sym c.after_row.ensures ∙ c.in-Some.is)) in
    rw (c.new.ensures, c.in-Ok-share.ensures) (shows_row c.args.self.now c.args.frame.body c.in-Ok.values c.in-Some.next says goes c.requires)
