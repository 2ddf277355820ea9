use Rattle.pg_wire.proofs.StatusLaws.{commit_is_idle, rollback_is_idle}
use Rattle.pg_wire.proofs.laws.commit_and_rollback_end_in_idle.Goals as goal

pub returns-clause-commit : goal.returns-clause-commit
returns-clause-commit c = commit_is_idle

pub returns-clause-rollback : goal.returns-clause-rollback
returns-clause-rollback c = rollback_is_idle
