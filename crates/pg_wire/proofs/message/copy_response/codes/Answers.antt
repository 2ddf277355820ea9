use Rattle.std.proofs.Common.{sym}
use Rattle.std.specs.Int.{w16}
use Rattle.std.proofs.lemmas.Int.{to_z-of_z}
use Rattle.pg_wire.specs.Reading.{many_at, signed16_at}
use Rattle.pg_wire.proofs.LoopLaws.{goes_on, ends, is_done}
use Rattle.pg_wire.proofs.message.copy_response.codes.Goals as goal

pub returns-in_default : goal.returns-in_default
returns-in_default c = ends signed16_at c.loop.codes.items c.args.count c.loop.counter c.loop.rest.now (many_at signed16_at c.args.count c.args.bytes.now) c.loop-test.true (sym c.in_default.ensures.value) c.loop.invariant

pub loop-preserved : goal.loop-preserved
loop-preserved c = rw (c.in_ok-push.ensures.items, to_z-of_z w16 c.in-Some.code c.in-Some.ensures.fits) (goes_on signed16_at c.loop.codes.items c.args.count c.loop.counter c.loop.rest.now c.in-Some.code c.in-Some.after.now (many_at signed16_at c.args.count c.args.bytes.now) c.loop-test.true (sym c.in-Some.ensures.value) c.loop.invariant)

pub returns : goal.returns
returns c = is_done signed16_at c.loop.codes.items c.args.count c.loop.counter c.loop.rest.now (many_at signed16_at c.args.count c.args.bytes.now) c.loop-test.false c.loop.invariant
