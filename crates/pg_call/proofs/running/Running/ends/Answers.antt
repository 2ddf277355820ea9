use Rattle.std.proofs.Common.{refl}
use Rattle.pg_call.proofs.CallLaws.{closes_replied, own_ends}
use Rattle.pg_call.proofs.running.Running.ends.Goals as goal

pub returns-in-Some-clause-ends : goal.returns-in-Some-clause-ends
returns-in-Some-clause-ends c = own_ends c.args.body.now c.args.self.now c.finish.new.self c.in-Some.status c.finish.result c.args.self.now.call refl c.in-Some.ensures c.finish.ensures

pub finish-requires : goal.finish-requires
finish-requires c = closes_replied c.in-Some.status c.args.body.now c.args.self.now.call c.in-Some.ensures
