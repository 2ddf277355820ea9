use Rattle.std.proofs.lemmas.Result.{err_from_is_err_and}
use Rattle.pg_any.proofs.AnyLaws.{under_none}
use Rattle.pg_any.specs.declared.value.AnyValue.TheVariants as values
use Rattle.pg_any.proofs.value.decode_as.Goals as goal

pub returns-in_err-decode-in-Bool-clause-err : goal.returns-in_err-decode-in-Bool-clause-err
returns-in_err-decode-in-Bool-clause-err c =
    let p = err_from_is_err_and c.from_residual.result c.from_residual.ensures.1 in
    rw (p.1, p.2, c.in-Bool.is) (under_none values.Bool _ c.in_err-decode-in-Bool.field-0.0 c.in_err-decode-in-Bool.ensures.cause)

pub returns-in_err-decode-in-SmallInt-clause-err : goal.returns-in_err-decode-in-SmallInt-clause-err
returns-in_err-decode-in-SmallInt-clause-err c =
    let p = err_from_is_err_and c.from_residual-in_err-decode-in-SmallInt.result c.from_residual-in_err-decode-in-SmallInt.ensures.1 in
    rw (p.1, p.2, c.in-SmallInt.is) (under_none values.SmallInt _ c.in_err-decode-in-SmallInt.field-0.0 c.in_err-decode-in-SmallInt.ensures.cause)

pub returns-in_err-decode-in-Integer-clause-err : goal.returns-in_err-decode-in-Integer-clause-err
returns-in_err-decode-in-Integer-clause-err c =
    let p = err_from_is_err_and c.from_residual-in_err-decode-in-Integer.result c.from_residual-in_err-decode-in-Integer.ensures.1 in
    rw (p.1, p.2, c.in-Integer.is) (under_none values.Integer _ c.in_err-decode-in-Integer.field-0.0 c.in_err-decode-in-Integer.ensures.cause)

pub returns-in_err-decode-in-BigInt-clause-err : goal.returns-in_err-decode-in-BigInt-clause-err
returns-in_err-decode-in-BigInt-clause-err c =
    let p = err_from_is_err_and c.from_residual-in_err-decode-in-BigInt.result c.from_residual-in_err-decode-in-BigInt.ensures.1 in
    rw (p.1, p.2, c.in-BigInt.is) (under_none values.BigInt _ c.in_err-decode-in-BigInt.field-0.0 c.in_err-decode-in-BigInt.ensures.cause)

pub returns-in_err-decode-in-Blob-clause-err : goal.returns-in_err-decode-in-Blob-clause-err
returns-in_err-decode-in-Blob-clause-err c =
    let p = err_from_is_err_and c.from_residual-in_err-decode-in-Blob.result c.from_residual-in_err-decode-in-Blob.ensures.1 in
    rw (p.1, p.2, c.in-Blob.is) (under_none values.Blob _ c.in_err-decode-in-Blob.field-0.0 c.in_err-decode-in-Blob.ensures.cause)

pub returns-in_err-decode-in-Text-clause-err : goal.returns-in_err-decode-in-Text-clause-err
returns-in_err-decode-in-Text-clause-err c =
    let p = err_from_is_err_and c.from_residual-in_err-decode-in-Text.result c.from_residual-in_err-decode-in-Text.ensures.1 in
    rw (p.1, p.2, c.in-Text.is) (under_none values.Text _ c.in_err-decode-in-Text.field-0.0 c.in_err-decode-in-Text.ensures.cause)
