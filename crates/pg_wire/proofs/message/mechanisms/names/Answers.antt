use Rattle.std.proofs.Common.{◌∙◌, sym, length}
use Rattle.pg_wire.specs.Reading.{until_at, ended_at}
use Rattle.pg_wire.proofs.LoopLaws.{until_goes, until_stops, until_fails, until_ends, listed_is}
use Rattle.pg_wire.proofs.message.mechanisms.names.Goals as goal

pub loop-preserved : goal.loop-preserved
loop-preserved c =
    let given = rw (c.in-Some.is, c.in-Some-next.is) at c.in_ok-next.ensures in
    rw c.in_ok-push-in-Some-next.ensures.items (until_goes ended_at c.loop.names.items (length c.args.bytes.now) c.loop.counter c.loop.rest.now c.in-Some-next.name c.in-Some.after.now (until_at ended_at (length c.args.bytes.now) c.args.bytes.now) c.loop-test.true (sym given) c.loop.invariant)

pub returns-in_default : goal.returns-in_default
returns-in_default c =
    let given = rw c.in_default.is at c.in_ok-next.ensures in
    until_fails ended_at c.loop.names.items (length c.args.bytes.now) c.loop.counter c.loop.rest.now (until_at ended_at (length c.args.bytes.now) c.args.bytes.now) c.loop-test.true (sym given) c.loop.invariant ∙ listed_is ended_at c.args.bytes.now

pub returns-in-None : goal.returns-in-None
returns-in-None c =
    let given = rw (c.in-Some.is, c.in-None.is) at c.in_ok-next.ensures in
    until_stops ended_at c.loop.names.items (length c.args.bytes.now) c.loop.counter c.loop.rest.now c.in-Some.after.now (until_at ended_at (length c.args.bytes.now) c.args.bytes.now) c.loop-test.true (sym given) c.loop.invariant ∙ listed_is ended_at c.args.bytes.now

pub returns : goal.returns
returns c = until_ends ended_at c.loop.names.items (length c.args.bytes.now) c.loop.counter c.loop.rest.now (until_at ended_at (length c.args.bytes.now) c.args.bytes.now) c.loop-test.false c.loop.invariant ∙ listed_is ended_at c.args.bytes.now
