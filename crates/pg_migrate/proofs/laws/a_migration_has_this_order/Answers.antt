use Rattle.std.proofs.Common.{refl}
use Rattle.pg_migrate.proofs.laws.a_migration_has_this_order.Goals as goal

pub returns-clause-apply : goal.returns-clause-apply
returns-clause-apply c = λ table m nanos e. rw e refl

pub returns-clause-apply_alone : goal.returns-clause-apply_alone
returns-clause-apply_alone c = λ table m nanos e. rw e refl

pub returns-clause-revert : goal.returns-clause-revert
returns-clause-revert c = λ table m e. rw e refl

pub returns-clause-revert_alone : goal.returns-clause-revert_alone
returns-clause-revert_alone c = λ table m e. rw e refl
