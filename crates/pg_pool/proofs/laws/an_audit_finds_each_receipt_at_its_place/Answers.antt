use Rattle.pg_pool.proofs.AuditLaws.{seats_stand}
use Rattle.pg_pool.proofs.laws.an_audit_finds_each_receipt_at_its_place.Goals as goal

pub returns : goal.returns
returns c = seats_stand
