use Rattle.pg_wire.proofs.ExchangeLaws.{transaction_is_answered, open_commit_is_refused, failed_rollback_is_refused}
use Rattle.pg_wire.proofs.exchanges.statuses_follow_the_rule.Goals as goal

pub returns-clause-transaction : goal.returns-clause-transaction
returns-clause-transaction c = transaction_is_answered

pub returns-clause-open_commit : goal.returns-clause-open_commit
returns-clause-open_commit c = open_commit_is_refused

pub returns-clause-failed_rollback : goal.returns-clause-failed_rollback
returns-clause-failed_rollback c = failed_rollback_is_refused
