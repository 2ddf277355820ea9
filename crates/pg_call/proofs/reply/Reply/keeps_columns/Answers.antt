use Rattle.std.proofs.Common.{map, sym, ap, ◌∙◌}
use Rattle.std.proofs.lemmas.List.{length-map}
use Rattle.pg_wire.specs.Fields.{described}
use Rattle.pg_call.proofs.RowLaws.{keeps_columns}
use Rattle.pg_call.proofs.reply.Reply.keeps_columns.Goals as goal

pub returns-clause-yes : goal.returns-clause-yes
returns-clause-yes c e =
    let fields = map described c.in-Ok.description in
    let kept = keeps_columns c.args.self.now c.args.body.now fields c.in-Ok.ensures.exact (sym c.awaits.ensures ∙ c.if-not-awaits.false) c.requires in
    rw (c.after_columns-self.ensures, c.len-width.ensures, c.in-Ok-described.ensures, ← length-map c.in-Ok.description described) kept
