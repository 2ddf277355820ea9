use Rattle.std.proofs.Common.{arith}
use Rattle.std.proofs.lemmas.Result.{err_from_is_err_and}
use Rattle.pg_values.specs.Values.{IsTextOf}
use Rattle.pg_learning.specs.Texts.{AreItems, Given}
use Rattle.pg_learning.specs.Lookups.{type_columns, AreAttributes}
use Rattle.pg_learning.proofs.RowLaws.{no_row, one_more, told}
use Rattle.pg_learning.proofs.rows.members.Goals as goal

pub returns-in_err-enum_labels-clause-err : goal.returns-in_err-enum_labels-clause-err
returns-in_err-enum_labels-clause-err c =
    let p = err_from_is_err_and c.from_residual.result c.from_residual.ensures.1 in
    rw (p.1, p.2) (no_row (Given (AreItems IsTextOf)) type_columns c.args.values.now 9 _ (omega arith) c.requires (λ h. h) c.in_err-enum_labels.ensures.cause)

pub returns-in_err-record_attributes-clause-err : goal.returns-in_err-record_attributes-clause-err
returns-in_err-record_attributes-clause-err c =
    let p = err_from_is_err_and c.from_residual-in_err-record_attributes.result c.from_residual-in_err-record_attributes.ensures.1 in
    let b10 = one_more type_columns c.args.values.now 9 c.requires (told (Given (AreItems IsTextOf)) c.args.values.now 9 _ c.in_ok-enum_labels.ensures.value) in
    rw (p.1, p.2) (no_row (Given AreAttributes) type_columns c.args.values.now 10 _ (omega arith) b10 (λ h. h) c.in_err-record_attributes.ensures.cause)
