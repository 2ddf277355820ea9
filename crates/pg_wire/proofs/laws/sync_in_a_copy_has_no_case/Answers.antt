use Rattle.pg_wire.proofs.OpenCopyLaws.{no_sync_in_query, no_sync_in_execute}
use Rattle.pg_wire.proofs.laws.sync_in_a_copy_has_no_case.Goals as goal

pub returns-clause-query : goal.returns-clause-query
returns-clause-query c = no_sync_in_query

pub returns-clause-execute : goal.returns-clause-execute
returns-clause-execute c = no_sync_in_execute
