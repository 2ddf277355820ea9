use Rattle.std.proofs.Common.{◌≡◌, ◌++◌, List, ℕ, suc, ◌+◌, Some, Option, slice_get, length, refl, sym, ap, ◌∙◌, subst, arith}
use Rattle.std.proofs.lemmas.Option.{slice_get_read}
use Rattle.pg_arguments.specs.Arguments.{HasValues}
use Rattle.pg_columns.specs.declared.column.PgColumn.{PgColumn}
use Rattle.pg_nullable.specs.Nulls.{column_types, column_values, types_for, values_at, values_for}
use Rattle.pg_nullable.proofs.nulls.arguments_for.Goals as goal

values_more : (columns : List PgColumn) (n : ℕ) (column : PgColumn) → slice_get columns n ≡ Some column → values_for columns n ++ column_values n column ≡ values_for columns (n + 1)
values_more columns n column e =
    let one : n + 1 ≡ suc n = omega arith in
    ap (λ (o : Option PgColumn). values_for columns n ++ values_at n o) (sym e) ∙ ap (values_for columns) (sym one)

types_more : (n : ℕ) → types_for n ++ column_types ≡ types_for (n + 1)
types_more n =
    let one : n + 1 ≡ suc n = omega arith in
    ap types_for (sym one)

pub loop-place-init : goal.loop-place-init
loop-place-init c = ((sym (ap length c.new-arguments.ensures.types), tt, c.new-arguments.ensures.encoded), c.new-arguments.ensures.types)

pub loop-place-preserved : goal.loop-place-preserved
loop-place-preserved c =
    let e = c.in_ok-add_column.ensures in
    let place = c.loop-place.place in
    let values = e.values (values_for c.args.columns.now place) (c.loop-place.invariant.0) in
    (subst (HasValues c.add_column.new.arguments) (values_more c.args.columns.now place c.index-columns-place.result (slice_get_read c.args.columns.now (length c.args.columns.now) place c.index-columns-place.result refl c.loop-place-test.true c.index-columns-place.is)) values, e.types ∙ ap (λ t. t ++ column_types) c.loop-place.invariant.1 ∙ types_more place)

pub returns-clause-values : goal.returns-clause-values
returns-clause-values c =
    let end : c.loop-place.place ≡ length c.args.columns.now = omega (arith, c.loop-place-test.false, c.loop-place.auto.place-end) in
    subst (λ n. HasValues c.loop-place.arguments (values_for c.args.columns.now n)) end c.loop-place.invariant.0

pub returns-clause-types : goal.returns-clause-types
returns-clause-types c =
    let end : c.loop-place.place ≡ length c.args.columns.now = omega (arith, c.loop-place-test.false, c.loop-place.auto.place-end) in
    c.loop-place.invariant.1 ∙ ap types_for end
