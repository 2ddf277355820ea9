use Rattle.pg_resolve.proofs.EndLaws.{lookups_end, lookups_end_first}
use Rattle.pg_resolve.proofs.laws.lookups_come_to_an_end.Goals as goal

pub returns-clause-any : goal.returns-clause-any
returns-clause-any c = lookups_end

pub returns-clause-first : goal.returns-clause-first
returns-clause-first c = lookups_end_first
