use Rattle.std.proofs.Common.{sym, ◌∙◌}
use Rattle.pg_call.proofs.RowLaws.{passes_row, hears_verdict}
use Rattle.pg_call.proofs.reply.Reply.take.Goals as goal

pub returns-then-not-keeps_rows-clause-ok : goal.returns-then-not-keeps_rows-clause-ok
returns-then-not-keeps_rows-clause-ok c =
    let passed = c.in_ok-self.ensures in
    rw c.if-tag-eq68.true (passes_row c.args.self.now c.args.body.now passed.0 c.in_ok-self.field-0 passed.1 passed.2 (sym c.keeps_rows.ensures ∙ c.if-not-keeps_rows.true))

pub returns-clause-ok : goal.returns-clause-ok
returns-clause-ok c = hears_verdict c.args.self.now c.hear.new.self c.args.tag c.args.body.now c.in_ok-verdict.verdict c.hear.result c.in_ok-verdict.ensures c.hear.ensures.ok
