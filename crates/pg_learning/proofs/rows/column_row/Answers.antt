use Rattle.std.proofs.Common.{arith}
use Rattle.std.proofs.lemmas.Result.{err_from_is_err_and}
use Rattle.pg_values.specs.Values.{IsTextOf, IsOidText}
use Rattle.pg_learning.specs.Texts.{Given}
use Rattle.pg_learning.specs.Lookups.{column_columns, AreColumns}
use Rattle.pg_learning.proofs.RowLaws.{no_row, one_more, told, none_before}
use Rattle.pg_learning.proofs.rows.column_row.Goals as goal

pub returns-in_err-table_oid-clause-err : goal.returns-in_err-table_oid-clause-err
returns-in_err-table_oid-clause-err c =
    let p = err_from_is_err_and c.from_residual.result c.from_residual.ensures.1 in
    rw (p.1, p.2) (no_row (Given IsOidText) column_columns c.args.values.now 0 _ (omega arith) (none_before column_columns c.args.values.now) (λ h. h) c.in_err-table_oid.ensures.cause)

pub returns-in_err-table_name-clause-err : goal.returns-in_err-table_name-clause-err
returns-in_err-table_name-clause-err c =
    let p = err_from_is_err_and c.from_residual-in_err-table_name.result c.from_residual-in_err-table_name.ensures.1 in
    let b1 = one_more column_columns c.args.values.now 0 (none_before column_columns c.args.values.now) (told (Given IsOidText) c.args.values.now 0 _ c.in_ok-table_oid.ensures.value) in
    rw (p.1, p.2) (no_row (Given IsTextOf) column_columns c.args.values.now 1 _ (omega arith) b1 (λ h. h) c.in_err-table_name.ensures.cause)

pub returns-in_err-columns-clause-err : goal.returns-in_err-columns-clause-err
returns-in_err-columns-clause-err c =
    let p = err_from_is_err_and c.from_residual-in_err-columns.result c.from_residual-in_err-columns.ensures.1 in
    let b1 = one_more column_columns c.args.values.now 0 (none_before column_columns c.args.values.now) (told (Given IsOidText) c.args.values.now 0 _ c.in_ok-table_oid.ensures.value) in
    let b2 = one_more column_columns c.args.values.now 1 b1 (told (Given IsTextOf) c.args.values.now 1 _ c.in_ok-table_name.ensures.value) in
    rw (p.1, p.2) (no_row (Given AreColumns) column_columns c.args.values.now 2 _ (omega arith) b2 (λ h. h) c.in_err-columns.ensures.cause)
