use Rattle.pg_startup.proofs.ReplyLaws.{if_err}
use Rattle.pg_startup.proofs.stage.Stage.answer.Goals as goal

pub returns-in-Signature-clause-err : goal.returns-in-Signature-clause-err
returns-in-Signature-clause-err c = rw c.in-Signature.is (if_err c.verify.result (λ e h. h c.args.client.now) c.verify.ensures.err)

pub returns-in-Verdict-clause-err : goal.returns-in-Verdict-clause-err
returns-in-Verdict-clause-err c = rw c.in-Verdict.is (if_err c.accept.result (λ e h. h c.args.client.now) c.accept.ensures.err)
