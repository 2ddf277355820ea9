use Rattle.std.proofs.Common.{◌≡◌, ◌<◌, sym, ◌∙◌, arith}
use Rattle.std.proofs.lemmas.Result.{err_from_is_err_and}
use Rattle.pg_arguments.proofs.IteratedLaws.{nothing_taken, one_taken, one_refused, ends_here, goes_on_here, full_here, past_here, reached_extends}
use Rattle.pg_arguments.proofs.bind_iter.push_items.Goals as goal

pub loop-length-init : goal.loop-length-init
loop-length-init g c = nothing_taken 2147483647 g.I.Item.Encode.encoding (g.I.PgBindIterExt.answers c.args.items) c.args.out.now

pub loop-length-preserved : goal.loop-length-preserved
loop-length-preserved g c =
    one_taken 2147483647 g.I.Item.Encode.encoding (g.I.PgBindIterExt.answers c.args.items) c.loop-length.length (g.I.PgBindIterExt.answers c.loop-length.items) (g.I.PgBindIterExt.answers c.ask.new.items) c.in-Some.item c.args.out.now c.loop-length.out c.add.new.self
    c.loop-length.invariant c.loop-length-test.true c.in-Some.ensures.0 c.in-Some.ensures.1 c.in_ok-add-in-Some.ensures.ok

pub returns-in_err-add-in-Some-clause-cause : goal.returns-in_err-add-in-Some-clause-cause
returns-in_err-add-in-Some-clause-cause g c =
    let p = err_from_is_err_and c.from_residual.result c.from_residual.ensures.1 in
    rw (p.1, p.2) (one_refused 2147483647 g.I.Item.Encode.encoding (g.I.PgBindIterExt.answers c.args.items) c.loop-length.length (g.I.PgBindIterExt.answers c.loop-length.items) c.in-Some.item c.args.out.now c.loop-length.out c.loop-length.out.values c.in_err-add-in-Some.field-0.0 c.loop-length.invariant c.loop-length-test.true c.in-Some.ensures.0 c.in_err-add-in-Some.ensures.cause)

pub returns-in_err-add-in-Some-clause-kept : goal.returns-in_err-add-in-Some-clause-kept
returns-in_err-add-in-Some-clause-kept g c =
    let p = err_from_is_err_and c.from_residual.result c.from_residual.ensures.1 in
    rw (p.1, c.in_err-add-in-Some.ensures.err) (reached_extends 2147483647 g.I.Item.Encode.encoding _ _ _ c.args.out.now c.loop-length.out c.loop-length.invariant)

pub returns-then-is_more_behind-clause-cause : goal.returns-then-is_more_behind-clause-cause
returns-then-is_more_behind-clause-cause g c =
    goes_on_here 2147483647 g.I.Item.Encode.encoding (g.I.PgBindIterExt.answers c.args.items) c.loop-length.length (g.I.PgBindIterExt.answers c.loop-length.items) (g.I.PgBindIterExt.answers c.ask.new.items) c.args.out.now c.loop-length.out 0
    c.loop-length.invariant c.loop-length-test.true c.in-None.ensures.0 c.in-None.ensures.1 (sym c.is_more_behind.ensures ∙ c.if-is_more_behind.true)

pub returns-then-is_more_behind-clause-kept : goal.returns-then-is_more_behind-clause-kept
returns-then-is_more_behind-clause-kept g c = reached_extends 2147483647 g.I.Item.Encode.encoding _ _ _ c.args.out.now c.loop-length.out c.loop-length.invariant

pub returns-in-None-clause-ok : goal.returns-in-None-clause-ok
returns-in-None-clause-ok g c =
    ends_here 2147483647 g.I.Item.Encode.encoding (g.I.PgBindIterExt.answers c.args.items) c.loop-length.length (g.I.PgBindIterExt.answers c.loop-length.items) (g.I.PgBindIterExt.answers c.ask.new.items) c.args.out.now c.loop-length.out
    c.loop-length.invariant c.loop-length-test.true c.in-None.ensures.0 c.in-None.ensures.1 (sym c.is_more_behind.ensures ∙ c.if-is_more_behind.false)

pub returns-then-is_more-clause-cause : goal.returns-then-is_more-clause-cause
returns-then-is_more-clause-cause g c =
    let all : c.loop-length.length ≡ 2147483647 = omega (arith, c.loop-length-test.false, c.loop-length.auto.length-end) in
    let some : 0 < 2147483647 = omega arith in
    past_here 2147483647 g.I.Item.Encode.encoding (g.I.PgBindIterExt.answers c.args.items) c.loop-length.length (g.I.PgBindIterExt.answers c.loop-length.items) c.args.out.now c.loop-length.out 0 all c.loop-length.invariant some (sym c.is_more.ensures ∙ c.if-is_more.true)

pub returns-then-is_more-clause-kept : goal.returns-then-is_more-clause-kept
returns-then-is_more-clause-kept g c = reached_extends 2147483647 g.I.Item.Encode.encoding _ _ _ c.args.out.now c.loop-length.out c.loop-length.invariant

pub returns-clause-ok : goal.returns-clause-ok
returns-clause-ok g c =
    let all : c.loop-length.length ≡ 2147483647 = omega (arith, c.loop-length-test.false, c.loop-length.auto.length-end) in
    full_here 2147483647 g.I.Item.Encode.encoding (g.I.PgBindIterExt.answers c.args.items) c.loop-length.length (g.I.PgBindIterExt.answers c.loop-length.items) c.args.out.now c.loop-length.out all c.loop-length.invariant (sym c.is_more.ensures ∙ c.if-is_more.false)
