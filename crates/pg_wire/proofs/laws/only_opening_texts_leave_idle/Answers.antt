use Rattle.pg_wire.proofs.StatusLaws.{only_openings, sync_opens_none}
use Rattle.pg_wire.proofs.laws.only_opening_texts_leave_idle.Goals as goal

pub returns-clause-query : goal.returns-clause-query
returns-clause-query c = only_openings

pub returns-clause-sync : goal.returns-clause-sync
returns-clause-sync c = sync_opens_none
