use Rattle.std.proofs.Common.{sym, ap, ◌∙◌, Option, ℕ}
use Rattle.pg_call.specs.Requests.{request_behind}
use Rattle.pg_conn.specs.Statements.{by_leaving}
use Rattle.pg_conn.proofs.StatementLaws.{behind_unnamed, behind_named}
use Rattle.pg_conn.proofs.asking.behind_described.Goals as goal

pub returns-then-number-eq0 : goal.returns-then-number-eq0
returns-then-number-eq0 c =
    behind_unnamed c.args.rule.now c.args.extended c.args.extended.described c.request.result c.requires (sym c.number.ensures ∙ c.if-number-eq0.true) (λ d e. c.request.ensures ∙ ap request_behind (c.into_after.ensures d e))

pub returns-else-number-eq0 : goal.returns-else-number-eq0
returns-else-number-eq0 c =
    behind_named c.args.rule.now c.args.extended c.args.extended.described c.put_or_evict.result c.requires (λ e. c.if-number-eq0.false (c.number.ensures ∙ e)) (λ d e. c.put_or_evict.ensures d e ∙ ap (λ (o : Option ℕ). by_leaving c.args.extended d o) c.leaving.ensures)
