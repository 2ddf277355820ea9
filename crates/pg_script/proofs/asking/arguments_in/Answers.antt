use Rattle.std.proofs.Common.{◌-◌, ◌∷◌, ◌++◌, ◌∙◌, [], length, ap, rules, tests, arith, length-append}
use Rattle.std.proofs.lemmas.Result.{err_from_is_err_and}
use Rattle.pg_script.proofs.AskedLaws.{argument_shorter, arguments_next, arguments_fail}
use Rattle.pg_script.proofs.asking.arguments_in.Goals as goal

pub returns-in_err-argument : goal.returns-in_err-argument
returns-in_err-argument c =
    let p = err_from_is_err_and c.from_residual.result c.from_residual.ensures.1 in
    let room = c.loop-rest.invariant.room in
    rw (p.1, p.2) (arguments_fail c.in_err-argument.field-0.0 (length c.args.tokens.now - length c.loop-rest.arguments.items) c.loop-rest.arguments.items c.loop-rest.rest.now _ (search (rules, tests)) (omega (arith, room)) c.in_err-argument.ensures c.loop-rest.invariant.read)

pub loop-rest-smaller : goal.loop-rest-smaller
loop-rest-smaller c = argument_shorter c.loop-rest.rest.now (c.in_ok-argument.argument, c.in_ok-argument.behind.now) c.in_ok-argument.ensures

pub loop-rest-preserved : goal.loop-rest-preserved
loop-rest-preserved c =
    let less = argument_shorter c.loop-rest.rest.now (c.in_ok-argument.argument, c.in_ok-argument.behind.now) c.in_ok-argument.ensures in
    let room = c.loop-rest.invariant.room in
    let longer = ap length c.in_ok-push.ensures.items ∙ length-append c.loop-rest.arguments.items (c.in_ok-argument.argument ∷ []) in
    record {
      room = omega (arith, less, room, longer);
      read = rw c.in_ok-push.ensures.items (arguments_next (length c.args.tokens.now - length c.loop-rest.arguments.items) (length c.args.tokens.now - length (c.loop-rest.arguments.items ++ c.in_ok-argument.argument ∷ [])) c.loop-rest.arguments.items c.loop-rest.rest.now (c.in_ok-argument.argument, c.in_ok-argument.behind.now) _ (omega (arith, less, room, length-append c.loop-rest.arguments.items (c.in_ok-argument.argument ∷ []))) c.in_ok-argument.ensures c.loop-rest.invariant.read);
    }
