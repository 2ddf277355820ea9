use Rattle.std.proofs.Common.{◌≡◌, ◌≢◌, ℕ, ◌-◌, sym, ap, ◌∙◌, subst, arith, drop, Some}
use Rattle.std.specs.List.{AllByRecursion}
use Rattle.std.specs.Cmp.Lexicographic.{same_text, other_text}
use Rattle.std.proofs.lemmas.List.{length-map}
use Rattle.pg_columns.specs.declared.column.PgColumn.{PgColumn}
use Rattle.pg_columns.specs.Columns.{names_of}
use Rattle.pg_columns.proofs.ColumnLaws.{drop_whole, name_at, all_behind, read_at}
use Rattle.pg_columns.proofs.finding.place_of.Goals as goal

pub loop-place-init : goal.loop-place-init
loop-place-init c = record {
  within = omega arith;
  behind = subst (AllByRecursion (λ other. other ≢ c.args.name.now)) (sym (drop_whole (names_of c.args.columns.now)) ∙ ap (λ (k : ℕ). drop k (names_of c.args.columns.now)) (length-map c.args.columns.now (λ (column : PgColumn). column.field.name))) tt;
}

pub returns-then-eq : goal.returns-then-eq
returns-then-eq c =
    let named = c.name.ensures in
    let same = same_text c.name.result.now c.args.name.now (sym c.if-eq.true ∙ c.eq.ensures) in (
      name_at c.args.columns.now (c.loop-place.place - 1) c.index-columns-place.result (read_at c.args.columns.now (c.loop-place.place - 1) c.index-columns-place.result (omega (arith, c.loop-place.invariant.within, c.loop-place-test.true)) c.index-columns-place.is) ∙ ap Some (sym named ∙ same),
      subst (λ (k : ℕ). AllByRecursion (λ other. other ≢ c.args.name.now) (drop k (names_of c.args.columns.now))) (omega (arith, c.loop-place-test.true)) c.loop-place.invariant.behind,
    )

pub loop-place-preserved : goal.loop-place-preserved
loop-place-preserved c =
    let place : ℕ = c.loop-place.place - 1 in
    let column = c.index-columns-place.result in
    let apart = other_text c.name.result.now c.args.name.now (sym c.if-eq.false ∙ c.eq.ensures) in
    record {
      within = omega (arith, c.loop-place.invariant.within);
      behind = all_behind (names_of c.args.columns.now) c.args.name.now column.field.name c.loop-place.place c.loop-place-test.true
          (name_at c.args.columns.now place column (read_at c.args.columns.now place column (omega (arith, c.loop-place.invariant.within, c.loop-place-test.true)) c.index-columns-place.is))
          (λ e. apart (c.name.ensures ∙ e)) c.loop-place.invariant.behind;
    }

pub returns : goal.returns
returns c =
    let none : c.loop-place.place ≡ 0 = omega (arith, c.loop-place-test.false) in
    subst (λ (k : ℕ). AllByRecursion (λ other. other ≢ c.args.name.now) (drop k (names_of c.args.columns.now))) none c.loop-place.invariant.behind
