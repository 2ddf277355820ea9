use Rattle.std.proofs.Common.{arith}
use Rattle.std.proofs.lemmas.Result.{err_from_is_err_and}
use Rattle.pg_values.specs.Values.{IsOidText}
use Rattle.pg_learning.specs.Texts.{IsTypType, IsTypCategory, Given, GivenOrNull}
use Rattle.pg_learning.specs.Lookups.{type_columns}
use Rattle.pg_learning.proofs.RowLaws.{no_row, one_more, told}
use Rattle.pg_learning.proofs.rows.codes.Goals as goal

pub returns-in_err-typtype-clause-err : goal.returns-in_err-typtype-clause-err
returns-in_err-typtype-clause-err c =
    let p = err_from_is_err_and c.from_residual.result c.from_residual.ensures.1 in
    rw (p.1, p.2) (no_row (Given IsTypType) type_columns c.args.values.now 4 _ (omega arith) c.requires (λ h. h) c.in_err-typtype.ensures.cause)

pub returns-in_err-typcategory-clause-err : goal.returns-in_err-typcategory-clause-err
returns-in_err-typcategory-clause-err c =
    let p = err_from_is_err_and c.from_residual-in_err-typcategory.result c.from_residual-in_err-typcategory.ensures.1 in
    let b5 = one_more type_columns c.args.values.now 4 c.requires (told (Given IsTypType) c.args.values.now 4 _ c.in_ok-typtype.ensures.value) in
    rw (p.1, p.2) (no_row (Given IsTypCategory) type_columns c.args.values.now 5 _ (omega arith) b5 (λ h. h) c.in_err-typcategory.ensures.cause)

pub returns-in_err-typelem-clause-err : goal.returns-in_err-typelem-clause-err
returns-in_err-typelem-clause-err c =
    let p = err_from_is_err_and c.from_residual-in_err-typelem.result c.from_residual-in_err-typelem.ensures.1 in
    let b5 = one_more type_columns c.args.values.now 4 c.requires (told (Given IsTypType) c.args.values.now 4 _ c.in_ok-typtype.ensures.value) in
    let b6 = one_more type_columns c.args.values.now 5 b5 (told (Given IsTypCategory) c.args.values.now 5 _ c.in_ok-typcategory.ensures.value) in
    rw (p.1, p.2) (no_row (GivenOrNull IsOidText) type_columns c.args.values.now 6 _ (omega arith) b6 (λ h. h) c.in_err-typelem.ensures.cause)

pub returns-in_err-typbasetype-clause-err : goal.returns-in_err-typbasetype-clause-err
returns-in_err-typbasetype-clause-err c =
    let p = err_from_is_err_and c.from_residual-in_err-typbasetype.result c.from_residual-in_err-typbasetype.ensures.1 in
    let b5 = one_more type_columns c.args.values.now 4 c.requires (told (Given IsTypType) c.args.values.now 4 _ c.in_ok-typtype.ensures.value) in
    let b6 = one_more type_columns c.args.values.now 5 b5 (told (Given IsTypCategory) c.args.values.now 5 _ c.in_ok-typcategory.ensures.value) in
    let b7 = one_more type_columns c.args.values.now 6 b6 (told (GivenOrNull IsOidText) c.args.values.now 6 _ c.in_ok-typelem.ensures.value) in
    rw (p.1, p.2) (no_row (GivenOrNull IsOidText) type_columns c.args.values.now 7 _ (omega arith) b7 (λ h. h) c.in_err-typbasetype.ensures.cause)

pub returns-in_err-rngsubtype-clause-err : goal.returns-in_err-rngsubtype-clause-err
returns-in_err-rngsubtype-clause-err c =
    let p = err_from_is_err_and c.from_residual-in_err-rngsubtype.result c.from_residual-in_err-rngsubtype.ensures.1 in
    let b5 = one_more type_columns c.args.values.now 4 c.requires (told (Given IsTypType) c.args.values.now 4 _ c.in_ok-typtype.ensures.value) in
    let b6 = one_more type_columns c.args.values.now 5 b5 (told (Given IsTypCategory) c.args.values.now 5 _ c.in_ok-typcategory.ensures.value) in
    let b7 = one_more type_columns c.args.values.now 6 b6 (told (GivenOrNull IsOidText) c.args.values.now 6 _ c.in_ok-typelem.ensures.value) in
    let b8 = one_more type_columns c.args.values.now 7 b7 (told (GivenOrNull IsOidText) c.args.values.now 7 _ c.in_ok-typbasetype.ensures.value) in
    rw (p.1, p.2) (no_row (GivenOrNull IsOidText) type_columns c.args.values.now 8 _ (omega arith) b8 (λ h. h) c.in_err-rngsubtype.ensures.cause)

pub returns-clause-read : goal.returns-clause-read
returns-clause-read c =
    let b5 = one_more type_columns c.args.values.now 4 c.requires (told (Given IsTypType) c.args.values.now 4 _ c.in_ok-typtype.ensures.value) in
    let b6 = one_more type_columns c.args.values.now 5 b5 (told (Given IsTypCategory) c.args.values.now 5 _ c.in_ok-typcategory.ensures.value) in
    let b7 = one_more type_columns c.args.values.now 6 b6 (told (GivenOrNull IsOidText) c.args.values.now 6 _ c.in_ok-typelem.ensures.value) in
    let b8 = one_more type_columns c.args.values.now 7 b7 (told (GivenOrNull IsOidText) c.args.values.now 7 _ c.in_ok-typbasetype.ensures.value) in
    let b9 = one_more type_columns c.args.values.now 8 b8 (told (GivenOrNull IsOidText) c.args.values.now 8 _ c.in_ok-rngsubtype.ensures.value) in
    b9
