use Rattle.std.proofs.Common.{sym, ap, ◌∙◌, Some}
use Rattle.pg_call.specs.declared.judging.Part.{Part}
use Rattle.pg_call.specs.Replies.{after_columns}
use Rattle.pg_call.proofs.PlaceLaws.{describes_at}
use Rattle.pg_call.proofs.judging.pass_columns.Goals as goal

pub returns : goal.returns
returns c =
    let told = c.in_ok-width.ensures in
    let fields = told.1.0 in
    let behind = describes_at c.args.part fields (sym c.awaits.ensures ∙ c.if-not-awaits.false) ∙ ap (λ n. Some (after_columns c.args.part n)) (told.1.2 ∙ sym c.from.ensures) ∙ ap (λ (p : Part). Some p) (sym c.after_columns.ensures) in
    (fields, rw told.1.1 at told.2, behind)
