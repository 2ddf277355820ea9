use Rattle.std.proofs.Common.{refl}
use Rattle.pg_call.specs.declared.calling.Call.TheVariants as calls
use Rattle.pg_call.specs.declared.reply.Heard.TheVariants as heards
use Rattle.pg_call.proofs.CallLaws.{as_call, drains_ok, drains_err, drains_stay, own_oks, own_errs, own_stays}
use Rattle.pg_call.proofs.running.Running.take_any.Goals as goal

pub returns-in-Waiting-clause-ok : goal.returns-in-Waiting-clause-ok
returns-in-Waiting-clause-ok c = drains_ok c.args.tag c.args.body.now c.args.self.now c.drain.new.self c.in-Waiting.waiting c.drain.result c.in-Waiting.is (rw c.in-Waiting.is at c.requires) c.drain.ensures.ok

pub returns-in-Waiting-clause-err : goal.returns-in-Waiting-clause-err
returns-in-Waiting-clause-err c = drains_err c.args.tag c.args.body.now c.args.self.now c.drain.new.self c.in-Waiting.waiting c.drain.result c.in-Waiting.is c.drain.ensures.err

pub returns-in-Ok-clause-ok : goal.returns-in-Ok-clause-ok
returns-in-Ok-clause-ok c = own_oks c.args.tag c.args.body.now c.args.self.now c.follow.new.self c.in-Own.reply c.take.new.self c.in-Ok.heard c.follow.result c.in-Own.is c.in-Ok.ensures.ok c.follow.ensures

pub returns-in-Err-clause-err : goal.returns-in-Err-clause-err
returns-in-Err-clause-err c = own_errs c.args.tag c.args.body.now c.args.self.now c.in-Own.reply c.in-Err.e c.in-Own.is c.in-Err.ensures.err

pub returns-in-Waiting-clause-stays : goal.returns-in-Waiting-clause-stays
returns-in-Waiting-clause-stays c = drains_stay c.args.tag c.args.body.now c.args.self.now c.drain.new.self c.in-Waiting.waiting c.drain.result c.in-Waiting.is c.drain.ensures.ok

pub returns-in-Ok-clause-stays : goal.returns-in-Ok-clause-stays
returns-in-Ok-clause-stays c = own_stays c.args.tag c.args.self.now c.follow.new.self c.in-Own.reply c.take.new.self c.in-Ok.heard c.follow.result c.in-Own.is c.follow.ensures

pub returns-in-Ok-More-clause-ok : goal.returns-in-Ok-More-clause-ok
returns-in-Ok-More-clause-ok c = own_oks c.args.tag c.args.body.now c.args.self.now (as_call c.args.self.now.ledger (calls.Own c.take.new.self)) c.in-Own.reply c.take.new.self heards.More c.plain.result c.in-Own.is (rw c.in-Ok-More.field-0-is at c.in-Ok-More.ensures.ok) (refl, c.plain.ensures)

pub returns-in-Ok-More-clause-stays : goal.returns-in-Ok-More-clause-stays
returns-in-Ok-More-clause-stays c = own_stays c.args.tag c.args.self.now (as_call c.args.self.now.ledger (calls.Own c.take.new.self)) c.in-Own.reply c.take.new.self heards.More c.plain.result c.in-Own.is (refl, c.plain.ensures)
