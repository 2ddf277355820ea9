use Rattle.std.proofs.Common.{arith}
use Rattle.std.proofs.lemmas.Result.{err_from_is_err_and}
use Rattle.pg_values.specs.Values.{IsTextOf, IsOidText}
use Rattle.pg_learning.specs.Texts.{GivenOrNull, Given}
use Rattle.pg_learning.specs.Lookups.{type_columns}
use Rattle.pg_learning.proofs.RowLaws.{no_row, one_more, told, none_before}
use Rattle.pg_learning.proofs.rows.names.Goals as goal

pub returns-in_err-oid-clause-err : goal.returns-in_err-oid-clause-err
returns-in_err-oid-clause-err c =
    let p = err_from_is_err_and c.from_residual.result c.from_residual.ensures.1 in
    rw (p.1, p.2) (no_row (Given IsOidText) type_columns c.args.values.now 0 _ (omega arith) (none_before type_columns c.args.values.now) (λ h. h) c.in_err-oid.ensures.cause)

pub returns-in_err-pretty_name-clause-err : goal.returns-in_err-pretty_name-clause-err
returns-in_err-pretty_name-clause-err c =
    let p = err_from_is_err_and c.from_residual-in_err-pretty_name.result c.from_residual-in_err-pretty_name.ensures.1 in
    let b1 = one_more type_columns c.args.values.now 0 (none_before type_columns c.args.values.now) (told (Given IsOidText) c.args.values.now 0 _ c.in_ok-oid.ensures.value) in
    rw (p.1, p.2) (no_row (Given IsTextOf) type_columns c.args.values.now 1 _ (omega arith) b1 (λ h. h) c.in_err-pretty_name.ensures.cause)

pub returns-in_err-catalog_name-clause-err : goal.returns-in_err-catalog_name-clause-err
returns-in_err-catalog_name-clause-err c =
    let p = err_from_is_err_and c.from_residual-in_err-catalog_name.result c.from_residual-in_err-catalog_name.ensures.1 in
    let b1 = one_more type_columns c.args.values.now 0 (none_before type_columns c.args.values.now) (told (Given IsOidText) c.args.values.now 0 _ c.in_ok-oid.ensures.value) in
    let b2 = one_more type_columns c.args.values.now 1 b1 (told (Given IsTextOf) c.args.values.now 1 _ c.in_ok-pretty_name.ensures.value) in
    rw (p.1, p.2) (no_row (Given IsTextOf) type_columns c.args.values.now 2 _ (omega arith) b2 (λ h. h) c.in_err-catalog_name.ensures.cause)

pub returns-in_err-original_name-clause-err : goal.returns-in_err-original_name-clause-err
returns-in_err-original_name-clause-err c =
    let p = err_from_is_err_and c.from_residual-in_err-original_name.result c.from_residual-in_err-original_name.ensures.1 in
    let b1 = one_more type_columns c.args.values.now 0 (none_before type_columns c.args.values.now) (told (Given IsOidText) c.args.values.now 0 _ c.in_ok-oid.ensures.value) in
    let b2 = one_more type_columns c.args.values.now 1 b1 (told (Given IsTextOf) c.args.values.now 1 _ c.in_ok-pretty_name.ensures.value) in
    let b3 = one_more type_columns c.args.values.now 2 b2 (told (Given IsTextOf) c.args.values.now 2 _ c.in_ok-catalog_name.ensures.value) in
    rw (p.1, p.2) (no_row (GivenOrNull IsTextOf) type_columns c.args.values.now 3 _ (omega arith) b3 (λ h. h) c.in_err-original_name.ensures.cause)

pub returns-clause-read : goal.returns-clause-read
returns-clause-read c =
    let b1 = one_more type_columns c.args.values.now 0 (none_before type_columns c.args.values.now) (told (Given IsOidText) c.args.values.now 0 _ c.in_ok-oid.ensures.value) in
    let b2 = one_more type_columns c.args.values.now 1 b1 (told (Given IsTextOf) c.args.values.now 1 _ c.in_ok-pretty_name.ensures.value) in
    let b3 = one_more type_columns c.args.values.now 2 b2 (told (Given IsTextOf) c.args.values.now 2 _ c.in_ok-catalog_name.ensures.value) in
    let b4 = one_more type_columns c.args.values.now 3 b3 (told (GivenOrNull IsTextOf) c.args.values.now 3 _ c.in_ok-original_name.ensures.value) in
    b4
