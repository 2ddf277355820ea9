use Rattle.std.proofs.Common.{sym}
use Rattle.pg_wire.specs.Reading.{many_at, number32_at}
use Rattle.pg_wire.proofs.LoopLaws.{goes_on, ends, is_done}
use Rattle.pg_wire.proofs.message.parameter_description.types.Goals as goal

pub returns-in_default : goal.returns-in_default
returns-in_default c = ends number32_at c.loop.types.items c.args.count c.loop.counter c.loop.rest.now (many_at number32_at c.args.count c.args.bytes.now) c.loop-test.true (sym c.in_default.ensures) c.loop.invariant

pub loop-preserved : goal.loop-preserved
loop-preserved c = rw c.in_ok-push.ensures.items (goes_on number32_at c.loop.types.items c.args.count c.loop.counter c.loop.rest.now _ c.in-Some.after.now (many_at number32_at c.args.count c.args.bytes.now) c.loop-test.true (sym c.in-Some.ensures) c.loop.invariant)

pub returns : goal.returns
returns c = is_done number32_at c.loop.types.items c.args.count c.loop.counter c.loop.rest.now (many_at number32_at c.args.count c.args.bytes.now) c.loop-test.false c.loop.invariant
