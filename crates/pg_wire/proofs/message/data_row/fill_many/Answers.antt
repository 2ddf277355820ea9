use Rattle.pg_wire.proofs.PlaceLaws.{finding_goes, finding_fails, finding_done}
use Rattle.pg_wire.proofs.message.data_row.fill_many.Goals as goal

pub returns-in_default-clause-values : goal.returns-in_default-clause-values
returns-in_default-clause-values c = finding_fails c.args.body.now c.args.count c.loop.counter c.loop.places.items c.loop.place c.loop.invariant c.loop-test.true c.in_default.ensures.rest

pub loop-preserved : goal.loop-preserved
loop-preserved c = rw c.in_ok-push.ensures.items (finding_goes c.args.body.now c.args.count c.loop.counter c.loop.places.items c.loop.place c.in-Some.after c.loop.invariant c.loop-test.true c.in-Some.ensures.within c.in-Some.ensures.rest)

pub returns-clause-values : goal.returns-clause-values
returns-clause-values c = finding_done c.args.body.now c.args.count c.loop.counter c.loop.places.items c.loop.place c.loop.invariant c.loop-test.false
