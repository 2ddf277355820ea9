use Rattle.std.proofs.Common.{sym}
use Rattle.pg_wire.specs.Reading.{value_at}
use Rattle.pg_wire.specs.Rows.{passed}
use Rattle.pg_wire.proofs.RowLaws.{passed_goes, passed_ends, passed_done}
use Rattle.pg_wire.proofs.message.data_row.pass_values.Goals as goal

pub returns-in_default : goal.returns-in_default
returns-in_default c = passed_ends value_at c.args.count c.loop.counter c.loop.rest.now (passed value_at c.args.count c.args.bytes.now) c.loop-test.true (sym c.in_default.ensures) c.loop.invariant

pub loop-preserved : goal.loop-preserved
loop-preserved c = passed_goes value_at c.args.count c.loop.counter c.loop.rest.now _ c.in-Some.after.now (passed value_at c.args.count c.args.bytes.now) c.loop-test.true (sym c.in-Some.ensures) c.loop.invariant

pub returns : goal.returns
returns c = passed_done value_at c.args.count c.loop.counter c.loop.rest.now (passed value_at c.args.count c.args.bytes.now) c.loop-test.false c.loop.invariant
