use Rattle.std.proofs.Common.{sym, length}
use Rattle.pg_values.specs.TextReading.{quoted_at}
use Rattle.pg_values.proofs.TextLoops.{quoted_goes, quoted_stops, quoted_fails, quoted_ends}
use Rattle.pg_values.proofs.text_reading.quoted.Goals as goal

pub loop-preserved : goal.loop-preserved
loop-preserved c =
    let given = rw (c.in-Some.is, c.in-Some-next.is) at c.character.ensures in
    rw c.in_ok-push-in-Some-next.ensures.items (quoted_goes c.args.style c.loop.text.items (length c.args.bytes.now) c.loop.counter c.loop.rest.now c.in-Some-next.byte c.in-Some.after.now (quoted_at c.args.style (length c.args.bytes.now) c.args.bytes.now) c.loop-test.true (sym given) c.loop.invariant)

pub returns-in_default : goal.returns-in_default
returns-in_default c =
    let given = rw c.in_default.is at c.character.ensures in
    quoted_fails c.args.style c.loop.text.items (length c.args.bytes.now) c.loop.counter c.loop.rest.now (quoted_at c.args.style (length c.args.bytes.now) c.args.bytes.now) c.loop-test.true (sym given) c.loop.invariant

pub returns-in-None : goal.returns-in-None
returns-in-None c =
    let given = rw (c.in-Some.is, c.in-None.is) at c.character.ensures in
    quoted_stops c.args.style c.loop.text.items (length c.args.bytes.now) c.loop.counter c.loop.rest.now c.in-Some.after.now (quoted_at c.args.style (length c.args.bytes.now) c.args.bytes.now) c.loop-test.true (sym given) c.loop.invariant

pub returns : goal.returns
returns c = quoted_ends c.args.style c.loop.text.items (length c.args.bytes.now) c.loop.counter c.loop.rest.now (quoted_at c.args.style (length c.args.bytes.now) c.args.bytes.now) c.loop-test.false c.loop.invariant
