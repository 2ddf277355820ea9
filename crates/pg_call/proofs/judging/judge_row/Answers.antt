use Rattle.std.proofs.Common.{◌≡◌, Some, length, refl, sym, ◌∙◌}
use Rattle.pg_wire.specs.Backend.{DataRow}
use Rattle.pg_wire.specs.Decoding.{Says}
use Rattle.pg_call.specs.Replies.{after_row}
use Rattle.pg_call.proofs.PlaceLaws.{row_goes}
use Rattle.pg_call.proofs.judging.judge_row.Goals as goal

pub returns-in_ok-row-in-Some : goal.returns-in_ok-row-in-Some
returns-in_ok-row-in-Some c =
    let values = c.in_ok-row-in-Some.row in
    let says : Says 68 c.args.frame.body (DataRow values) = c.in_ok-row-in-Some.ensures in
    let claimed = rw c.body.ensures at c.after_claimed.ensures in
    let goes : after_row c.args.part (length values) ≡ Some c.in-Some.part = sym (claimed values says) ∙ c.in-Some.is in
    (DataRow values, says, (row_goes c.args.part c.in-Some.part values goes, refl))
