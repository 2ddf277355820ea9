-- Which exchange comes first once the statement that locks is to run.
use Rattle.std.proofs.Common.{◌≡◌, Option, true, false, Some, None, ap}
use Rattle.pg_locks.specs.declared.key.PgAdvisoryLockKey.{PgAdvisoryLockKey}
use Rattle.pg_locks.specs.Locks.{lock_statement}
use Rattle.pg_rule.specs.Caches.{entry_at}
use Rattle.pg_rule.specs.declared.cache.Entry.{Entry}
use Rattle.pg_rule.specs.declared.rule.Rule.{Rule}
use Rattle.pg_call.specs.declared.kind.How.TheVariants as hows
use Rattle.pg_call.specs.declared.kind.Keeping.TheVariants as keepings
use Rattle.pg_call.specs.declared.request.Request.TheVariants as requests
use Rattle.pg_call.specs.declared.statement.Goal.TheVariants as goals
use Rattle.pg_conn.specs.Statements.{asked_by, describe, run_or_describe}
use Rattle.pg_locks.specs.Keys.{key_arguments}
use Rattle.pg_locking.specs.Locking.{lock_request}

pub kept_runs : (key : PgAdvisoryLockKey) (rule : Rule) (e : Entry) → entry_at (lock_statement key) rule.cache.entries ≡ Some e
    → asked_by rule (lock_request key) ≡ requests.Run (record { how = hows.Execute; statement = e.statement; again = None; arguments = key_arguments key; columns = Some e.columns; is_looked_up = false; keeping = keepings.Hits e.statement })
kept_runs key rule e k = ap (λ (entry : Option Entry). run_or_describe rule hows.Execute (lock_statement key) (key_arguments key) true entry) k

pub unkept_describes : (key : PgAdvisoryLockKey) (rule : Rule) → entry_at (lock_statement key) rule.cache.entries ≡ None → asked_by rule (lock_request key) ≡ describe (goals.Run hows.Execute) (lock_statement key) (key_arguments key) true rule
unkept_describes key rule k = ap (λ (entry : Option Entry). run_or_describe rule hows.Execute (lock_statement key) (key_arguments key) true entry) k
