use Rattle.pg_wire.proofs.PartLaws.{heard-append}
use Rattle.pg_wire.proofs.laws.heard_of_joined_frames.Goals as goal

pub returns : goal.returns
returns c = heard-append
