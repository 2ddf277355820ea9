use Rattle.pg_wire.proofs.StepLaws.{row_is_wide}
use Rattle.pg_wire.proofs.laws.row_is_as_wide_as_its_portal.Goals as goal

pub returns : goal.returns
returns c = row_is_wide
