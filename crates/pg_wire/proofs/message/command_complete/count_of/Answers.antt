use Rattle.std.proofs.Common.{get_or}
use Rattle.pg_wire.proofs.CompletionLaws.{count_goes, count_refused, count_done, at_is}
use Rattle.pg_wire.proofs.message.command_complete.count_of.Goals as goal

pub returns-in-None : goal.returns-in-None
returns-in-None c = count_refused c.args.text.now c.loop-byte.byte-index c.loop-byte.count (get_or c.args.text.now c.loop-byte.byte-index 0) c.loop-byte-test.true (at_is c.args.text.now c.loop-byte.byte-index c.loop-byte-test.true) c.loop-byte.invariant.count c.in-None.ensures

pub loop-byte-preserved : goal.loop-byte-preserved
loop-byte-preserved c =
    let t = count_goes c.args.text.now c.loop-byte.byte-index c.loop-byte.count (get_or c.args.text.now c.loop-byte.byte-index 0) c.in-Some.next c.loop-byte-test.true (at_is c.args.text.now c.loop-byte.byte-index c.loop-byte-test.true) c.loop-byte.invariant.digits c.loop-byte.invariant.count c.in-Some.ensures in
    record { digits = t.0; count = t.1; room = t.2 }

pub returns : goal.returns
returns c = count_done c.args.text.now c.loop-byte.byte-index c.loop-byte.count c.loop-byte-test.false c.loop-byte.invariant.digits c.loop-byte.invariant.count c.loop-byte.invariant.room
