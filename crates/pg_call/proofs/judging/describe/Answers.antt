use Rattle.std.proofs.Common.{sym, ap, ◌∙◌, Some, map}
use Rattle.pg_wire.specs.Backend.{RowDescription}
use Rattle.pg_wire.specs.Fields.{described}
use Rattle.std.proofs.lemmas.List.{length-map}
use Rattle.pg_call.specs.declared.judging.News.TheVariants as News
use Rattle.pg_call.specs.declared.judging.Part.{Part}
use Rattle.pg_call.specs.Replies.{after_columns}
use Rattle.pg_call.proofs.PlaceLaws.{describes_at}
use Rattle.pg_call.proofs.judging.describe.Goals as goal

pub returns : goal.returns
returns c =
    let fields = map described c.in_ok-description.description in
    let width = length-map c.in_ok-description.description described ∙ sym c.len-width.ensures in
    let behind = describes_at c.args.part fields c.requires ∙ ap (λ n. Some (after_columns c.args.part n)) width ∙ ap (λ (p : Part). Some p) (sym c.after_columns.ensures) in
    (RowDescription fields, c.in_ok-description.ensures.exact, (behind, ap News.Columns c.in_ok-columns.ensures))
