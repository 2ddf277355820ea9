use Rattle.pg_wire.proofs.OpenCopyLaws.{query_copy_fails, execute_copy_fails}
use Rattle.pg_wire.proofs.laws.copy_fail_ends_the_copy.Goals as goal

pub returns-clause-query : goal.returns-clause-query
returns-clause-query c = query_copy_fails

pub returns-clause-execute : goal.returns-clause-execute
returns-clause-execute c = execute_copy_fails
