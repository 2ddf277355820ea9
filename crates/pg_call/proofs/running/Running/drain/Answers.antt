use Rattle.std.proofs.Common.{arith}
use Rattle.pg_call.specs.Hearing.{framed}
use Rattle.pg_call.proofs.CallLaws.{drains_other}
use Rattle.pg_call.proofs.running.Running.drain.Goals as goal

pub returns-in_default-clause-ok : goal.returns-in_default-clause-ok
returns-in_default-clause-ok c = rw c.plain.ensures (drains_other (framed c.args.tag c.args.body.now) c.args.failed c.args.self.now (λ e. omega (arith, c.in_default, e)) (λ e. omega (arith, c.in_default, e)) (λ e. omega (arith, c.in_default, e)) c.requires.failed)
