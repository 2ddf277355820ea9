use Rattle.std.proofs.Common.{◌≡◌, ◌<◌, length, List, sym, subst}
use Rattle.std.specs.Prelude.{Some, slice_get}
use Rattle.std.proofs.lemmas.Result.{err_from_is_err_and}
use Rattle.pg_columns.specs.declared.column.PgColumn.{PgColumn}
use Rattle.pg_rows.specs.Rows.{columns_in}
use Rattle.pg_any.proofs.RowLaws.{stands_at, values_pushed, longer, columns_pushed, misread, described}
use Rattle.pg_any.proofs.row.any_row.Goals as goal

pub returns-in_err-try_get-clause-err : goal.returns-in_err-try_get-clause-err
returns-in_err-try_get-clause-err c =
    let p = err_from_is_err_and c.from_residual.result c.from_residual.ensures.1 in
    let below : c.loop-place.place < length (columns_in c.args.row.now) = rw (sym c.loop-place.invariant.same) c.loop-place-test.true in
    rw (p.1, p.2) (misread c.args.row.now c.loop-place.place c.in_err-try_get.field-0.0 below c.in_err-try_get.ensures.err)

pub returns-in_err-any_column-clause-err : goal.returns-in_err-any_column-clause-err
returns-in_err-any_column-clause-err c =
    let p = err_from_is_err_and c.from_residual-in_err-any_column.result c.from_residual-in_err-any_column.ensures.1 in
    let stands : slice_get (columns_in c.args.row.now) c.loop-place.place ≡ Some c.column-item.result = subst (λ (xs : List PgColumn). slice_get xs c.loop-place.place ≡ Some c.column-item.result) c.loop-place.invariant.same (stands_at _ _ _ c.loop-place-test.true c.column-item.is) in
    rw (p.1, p.2) (described c.args.row.now c.loop-place.place c.column-item.result c.in_ok-try_get.field-0 c.in_err-any_column.field-0.0 stands c.in_ok-try_get.ensures.ok c.in_err-any_column.ensures.err)

pub loop-place-preserved : goal.loop-place-preserved
loop-place-preserved c =
    let stands : slice_get (columns_in c.args.row.now) c.loop-place.place ≡ Some c.column-item.result = subst (λ (xs : List PgColumn). slice_get xs c.loop-place.place ≡ Some c.column-item.result) c.loop-place.invariant.same (stands_at _ _ _ c.loop-place-test.true c.column-item.is) in
    record {
      same = c.loop-place.invariant.same;
      columns = columns_pushed _ c.loop-place.place c.column-item.result c.in_ok-any_column.field-0 c.loop-place.columns c.push-in-loop-place.new.self stands c.loop-place.invariant.columns c.in_ok-any_column.ensures.ok c.in_ok-push-2.ensures.ok;
      as_many = longer c.loop-place.values c.push.new.self c.loop-place.place c.in_ok-try_get.field-0 c.loop-place.invariant.as_many c.in_ok-push.ensures.ok;
      values = values_pushed c.args.row.now c.loop-place.values c.push.new.self c.loop-place.place c.in_ok-try_get.field-0 c.loop-place.invariant.as_many c.in_ok-push.ensures.ok c.loop-place.invariant.values c.in_ok-try_get.ensures.ok;
    }
