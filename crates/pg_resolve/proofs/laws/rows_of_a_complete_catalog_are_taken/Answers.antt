use Rattle.pg_resolve.proofs.EndLaws.{taken_but_for_memory}
use Rattle.pg_resolve.proofs.laws.rows_of_a_complete_catalog_are_taken.Goals as goal

pub returns : goal.returns
returns c = taken_but_for_memory
