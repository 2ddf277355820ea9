use Rattle.std.proofs.Common.{sym, ◌∙◌}
use Rattle.pg_call.proofs.PlaceLaws.{row_goes}
use Rattle.pg_call.proofs.RowLaws.{keeps_all_row}
use Rattle.pg_call.proofs.reply.Reply.keeps_row.Goals as goal

pub returns-in-Ok-keep-clause-yes : goal.returns-in-Ok-keep-clause-yes
returns-in-Ok-keep-clause-yes c e =
    let says = c.in-Ok.ensures in
    let goes = row_goes c.args.self.now.part c.in-Some.part c.in-Ok.values (rw c.len.ensures at (sym c.after_row.ensures ∙ c.in-Some.is)) in
    rw c.in-Ok-keep.ensures.ok (keeps_all_row c.args.self.now c.args.frame.body c.in-Ok.values c.in-Some.part says goes c.requires)
