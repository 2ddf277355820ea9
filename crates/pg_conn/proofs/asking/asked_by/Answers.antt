use Rattle.std.proofs.Common.{sym, ◌∙◌}
use Rattle.pg_conn.proofs.StatementLaws.{prepare_fails}
use Rattle.pg_conn.proofs.asking.asked_by.Goals as goal

pub returns-in-Prepare-clause-err : goal.returns-in-Prepare-clause-err
returns-in-Prepare-clause-err c =
    prepare_fails c.args.rule.now c.args.request c.in-Prepare.prepared c.prepare_by.result (sym c.sort.ensures ∙ c.in-Prepare.is) c.prepare_by.ensures.err
