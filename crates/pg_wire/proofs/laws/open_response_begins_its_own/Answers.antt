use Rattle.pg_wire.proofs.OwnLaws.{own_front}
use Rattle.pg_wire.proofs.laws.open_response_begins_its_own.Goals as goal

pub returns : goal.returns
returns c = own_front
