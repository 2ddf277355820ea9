use Rattle.std.proofs.Common.{refl}
use Rattle.pg_call.specs.declared.calling.Call.TheVariants as calls
use Rattle.pg_call.specs.declared.reply.Heard.TheVariants as heards
use Rattle.pg_call.proofs.CallLaws.{as_call, own_oks, own_errs, own_stays}
use Rattle.pg_call.proofs.running.Running.take_row.Goals as goal

pub returns-in-Ok-clause-ok : goal.returns-in-Ok-clause-ok
returns-in-Ok-clause-ok c = own_oks 68 c.args.frame.body c.args.self.now c.follow.new.self c.in-Own.reply c.take_row.new.self c.in-Ok.heard c.follow.result c.in-Own.is c.in-Ok.ensures.ok c.follow.ensures

pub returns-in-Err-clause-err : goal.returns-in-Err-clause-err
returns-in-Err-clause-err c = own_errs 68 c.args.frame.body c.args.self.now c.in-Own.reply c.in-Err.e c.in-Own.is c.in-Err.ensures.err

pub returns-in-Ok-More-clause-ok : goal.returns-in-Ok-More-clause-ok
returns-in-Ok-More-clause-ok c = own_oks 68 c.args.frame.body c.args.self.now (as_call c.args.self.now.ledger (calls.Own c.take_row.new.self)) c.in-Own.reply c.take_row.new.self heards.More c.plain.result c.in-Own.is (rw c.in-Ok-More.field-0-is at c.in-Ok-More.ensures.ok) (refl, c.plain.ensures)

pub returns-in-Ok-More-clause-stays : goal.returns-in-Ok-More-clause-stays
returns-in-Ok-More-clause-stays c = own_stays 68 c.args.self.now (as_call c.args.self.now.ledger (calls.Own c.take_row.new.self)) c.in-Own.reply c.take_row.new.self heards.More c.plain.result c.in-Own.is (refl, c.plain.ensures)
