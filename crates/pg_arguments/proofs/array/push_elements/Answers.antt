use Rattle.std.proofs.Common.{◌≡◌, ◌∷◌, ◌++◌, [], sym, ap, ◌∙◌, append_assoc}
use Rattle.std.proofs.lemmas.Result.{err_from_is_err_and}
use Rattle.pg_arguments.proofs.ElementLaws.{adds_next, element_refuses, elements_extend}
use Rattle.pg_arguments.proofs.array.push_elements.Goals as goal

pub loop-value-preserved : goal.loop-value-preserved
loop-value-preserved g c =
    let front = c.loop-value.yielded in
    let after = c.next.new.self.rest.items in
    let rest : (front ++ c.in-Some.value ∷ []) ++ after ≡ c.args.values.items = append_assoc front (c.in-Some.value ∷ []) after ∙ rw (sym c.in-Some.ensures.steps.0) c.loop-value.invariant.rest in
    record {
      added = adds_next g.T.Encode.encoding c.loop-value.yielded c.in-Some.value c.args.out.now c.loop-value.out c.add.new.self c.loop-value.invariant.added c.in_ok-add.ensures.ok;
      rest = rest;
    }

pub returns-in_err-add-clause-cause : goal.returns-in_err-add-clause-cause
returns-in_err-add-clause-cause g c =
    let p = err_from_is_err_and c.from_residual.result c.from_residual.ensures.1 in
    let all = sym c.loop-value.invariant.rest ∙ ap (λ xs. c.loop-value.yielded ++ xs) c.in-Some.ensures.steps.0 in
    rw (p.1, p.2) (element_refuses g.T.Encode.encoding c.args.values.items c.loop-value.yielded c.in-Some.value c.next.new.self.rest.items c.loop-value.out.values c.in_err-add.field-0.0 all c.in_err-add.ensures.cause)

pub returns-in_err-add-clause-kept : goal.returns-in_err-add-clause-kept
returns-in_err-add-clause-kept g c =
    let p = err_from_is_err_and c.from_residual.result c.from_residual.ensures.1 in
    rw (p.1, c.in_err-add.ensures.err) (elements_extend _ c.args.out.now c.loop-value.out c.loop-value.invariant.added)
