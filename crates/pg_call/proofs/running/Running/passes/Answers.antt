use Rattle.pg_call.proofs.CallLaws.{own_passes_other}
use Rattle.pg_call.proofs.running.Running.passes.Goals as goal

pub returns-in-Own-clause-yes : goal.returns-in-Own-clause-yes
returns-in-Own-clause-yes c e =
    let p = c.passes.ensures in
    own_passes_other c.args.tag c.args.body.now c.args.self.now c.in-Own.reply c.passes.new.self c.in-Own.is (p.yes e) (p.row e) (p.copy e)
