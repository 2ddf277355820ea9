use Rattle.std.proofs.Common.{◌+◌, sym, length}
use Rattle.pg_values.specs.TextReading.{items_in}
use Rattle.pg_values.proofs.TextLoops.{items_go, items_stop, items_break, items_fail, items_end}
use Rattle.pg_values.proofs.text_reading.items.Goals as goal

pub returns-in_default : goal.returns-in_default
returns-in_default c =
    let given = rw c.in_default.is at c.in_ok-item.ensures in
    items_fail c.args.style c.loop.items.items (length c.args.bytes.now + 1) c.loop.counter c.loop.rest.now (items_in c.args.style (length c.args.bytes.now + 1) c.args.bytes.now) c.loop-test.true (sym given) c.loop.invariant

pub returns-in-Some-None : goal.returns-in-Some-None
returns-in-Some-None c =
    let given = rw c.in-Some.is at c.in_ok-item.ensures in
    let after = rw (c.in-Some-None.is, c.in-Some-None.field-0-is) at c.after_item.ensures in
    rw c.in_ok-push.ensures.items (items_stop c.args.style c.loop.items.items (length c.args.bytes.now + 1) c.loop.counter c.loop.rest.now c.in-Some.item c.in-Some.after.now (items_in c.args.style (length c.args.bytes.now + 1) c.args.bytes.now) c.loop-test.true (sym given) (sym after) c.loop.invariant)

pub returns-in-None : goal.returns-in-None
returns-in-None c =
    let given = rw c.in-Some.is at c.in_ok-item.ensures in
    let after = rw c.in-None.is at c.after_item.ensures in
    items_break c.args.style c.loop.items.items (length c.args.bytes.now + 1) c.loop.counter c.loop.rest.now c.in-Some.item c.in-Some.after.now (items_in c.args.style (length c.args.bytes.now + 1) c.args.bytes.now) c.loop-test.true (sym given) (sym after) c.loop.invariant

pub loop-preserved : goal.loop-preserved
loop-preserved c =
    let given = rw c.in-Some.is at c.in_ok-item.ensures in
    let after = rw (c.in-Some-Some.is, c.in-Some-Some.field-0-is) at c.after_item.ensures in
    rw c.in_ok-push.ensures.items (items_go c.args.style c.loop.items.items (length c.args.bytes.now + 1) c.loop.counter c.loop.rest.now c.in-Some.item c.in-Some.after.now c.in-Some-Some.more.now (items_in c.args.style (length c.args.bytes.now + 1) c.args.bytes.now) c.loop-test.true (sym given) (sym after) c.loop.invariant)

pub returns : goal.returns
returns c = items_end c.args.style c.loop.items.items (length c.args.bytes.now + 1) c.loop.counter c.loop.rest.now (items_in c.args.style (length c.args.bytes.now + 1) c.args.bytes.now) c.loop-test.false c.loop.invariant
