use Rattle.std.proofs.Common.{ℕ, List, ◌++◌, codes, ap, arith}
use Rattle.std.proofs.lemmas.Fmt.{decimal_digit}
use Rattle.pg_rule.proofs.laws.transactions_have_these_texts.Goals as goal

pub returns-clause-begin_within : goal.returns-clause-begin_within
returns-clause-begin_within c = ap (λ (ds : List ℕ). codes "SAVEPOINT _sqlx_savepoint_" ++ ds) (decimal_digit 1 (omega arith))

pub returns-clause-commit_within : goal.returns-clause-commit_within
returns-clause-commit_within c = ap (λ (ds : List ℕ). codes "RELEASE SAVEPOINT _sqlx_savepoint_" ++ ds) (decimal_digit 2 (omega arith))

pub returns-clause-rollback_within : goal.returns-clause-rollback_within
returns-clause-rollback_within c = ap (λ (ds : List ℕ). codes "ROLLBACK TO SAVEPOINT _sqlx_savepoint_" ++ ds) (decimal_digit 1 (omega arith))
