use Rattle.pg_rule.proofs.RowLaws.{asks_begin, asks_commit, asks_rollback}
use Rattle.pg_rule.proofs.laws.a_transaction_call_is_one_query.Goals as goal

pub returns-clause-begin : goal.returns-clause-begin
returns-clause-begin c = asks_begin

pub returns-clause-commit : goal.returns-clause-commit
returns-clause-commit c = asks_commit

pub returns-clause-rollback : goal.returns-clause-rollback
returns-clause-rollback c = asks_rollback
