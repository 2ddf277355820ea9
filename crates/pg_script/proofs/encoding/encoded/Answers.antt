use Rattle.std.proofs.Common.{◌∷◌, ◌++◌, [], sym, ap, ◌∙◌, append_assoc}
use Rattle.std.proofs.lemmas.Result.{err_from_is_err_and}
use Rattle.pg_script.proofs.GivenLaws.{none_given, one_more_given, fails_given}
use Rattle.pg_script.proofs.encoding.encoded.Goals as goal

pub loop-argument-init : goal.loop-argument-init
loop-argument-init c = record { made = none_given c.new-arguments.result c.new-arguments.ensures.types c.new-arguments.ensures.encoded; rest = c.into_iter-argument-iterator.ensures.into_iter_gives.0 }

pub loop-argument-preserved : goal.loop-argument-preserved
loop-argument-preserved c =
    let front = c.loop-argument.yielded in
    let after = c.next.new.self.rest.items in
    record {
      made = one_more_given front c.in-Some.argument c.loop-argument.arguments c.add_given.new.arguments c.loop-argument.invariant.made c.in_ok-add_given.ensures.ok c.in_ok-add_given.ensures.values;
      rest = append_assoc front (c.in-Some.argument ∷ []) after ∙ rw (sym c.in-Some.ensures.steps.0) c.loop-argument.invariant.rest;
    }

pub returns-in_err-add_given-clause-cause : goal.returns-in_err-add_given-clause-cause
returns-in_err-add_given-clause-cause c =
    let p = err_from_is_err_and c.from_residual.result c.from_residual.ensures.1 in
    let all = sym c.loop-argument.invariant.rest ∙ ap (λ xs. c.loop-argument.yielded ++ xs) c.in-Some.ensures.steps.0 in
    rw (p.1, p.2) (fails_given c.in_err-add_given.field-0.0 c.args.given.items c.loop-argument.yielded c.next.new.self.rest.items c.in-Some.argument all c.in_err-add_given.ensures.cause)
