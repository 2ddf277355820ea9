use Rattle.std.proofs.Common.{refl, sym, ap, ◌∙◌}
use Rattle.pg_wire.specs.Backend.{DataRow}
use Rattle.pg_call.specs.Replies.{after_row}
use Rattle.pg_call.proofs.PlaceLaws.{row_goes, other_width}
use Rattle.pg_call.proofs.judging.row.Goals as goal

pub returns-in-Some : goal.returns-in-Some
returns-in-Some c =
    let values = c.in_ok-row.row in
    let goes = ap (after_row c.args.part) (sym c.len.ensures) ∙ sym c.after_row.ensures ∙ c.in-Some.is in
    (DataRow values, c.in_ok-row.ensures, (row_goes c.args.part c.in-Some.part values goes, refl))

pub returns-in-None : goal.returns-in-None
returns-in-None c =
    let values = c.in_ok-row.row in
    let none = ap (after_row c.args.part) (sym c.len.ensures) ∙ sym c.after_row.ensures ∙ c.in-None.is in
    other_width c.args.part values c.args.body.now c.refuse.result c.in_ok-row.ensures none c.refuse.ensures
