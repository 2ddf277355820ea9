use Rattle.std.proofs.Common.{◌≡◌, ◌∷◌, ◌++◌, [], sym, ap, ◌∙◌, append_assoc}
use Rattle.std.proofs.lemmas.Result.{err_from_is_err_and}
use Rattle.pg_resolve.specs.Tables.{PutsFront}
use Rattle.pg_resolve.proofs.TableLaws.{put_next}
use Rattle.pg_resolve.proofs.tables.TableCache.put_columns.Goals as goal

pub loop-column-preserved : goal.loop-column-preserved
loop-column-preserved c =
    let front = c.loop-column.yielded in
    let after = c.next.new.self.rest.items in
    let rest : (front ++ c.in-Some.column ∷ []) ++ after ≡ c.args.columns.items = append_assoc front (c.in-Some.column ∷ []) after ∙ rw (sym c.in-Some.ensures.steps.0) c.loop-column.invariant.rest in
    record {
      put = put_next c.args.table front c.in-Some.column c.args.self.now c.loop-column.self c.put_column.new.self c.loop-column.invariant.put c.in_ok-put_column.ensures.ok;
      rest = rest;
    }

pub returns-in_err-put_column-clause-err : goal.returns-in_err-put_column-clause-err
returns-in_err-put_column-clause-err c =
    let p = err_from_is_err_and c.from_residual.result c.from_residual.ensures.1 in
    let front = c.loop-column.yielded in
    let all = sym c.loop-column.invariant.rest ∙ ap (λ xs. front ++ xs) c.in-Some.ensures.steps.0 in
    let part : PutsFront c.args.table c.args.columns.items c.args.self.now c.put_column.new.self = (front, c.in-Some.column ∷ c.next.new.self.rest.items, all, c.in_err-put_column.ensures.err ∙ c.loop-column.invariant.put) in
    rw p.1 part
