use Rattle.std.proofs.Common.{◌≡◌, List, IfOk, ap, ◌∙◌, subst}
use Rattle.pg_columns.specs.declared.column.PgColumn.{PgColumn}
use Rattle.pg_columns.specs.Told.{made_columns}
use Rattle.pg_columns.proofs.ToldLaws.{made_back}
use Rattle.pg_columns.proofs.columns.PgColumns.described.Goals as goal

pub returns : goal.returns
returns c =
    subst (λ (columns : List PgColumn). IfOk c.shared.result (λ told. told ≡ columns))
    (c.in_ok-columns.ensures ∙ ap (made_columns 0) c.into_vec.ensures ∙ made_back c.args.description c.requires) c.shared.ensures
