use Rattle.pg_wire.proofs.SentLaws.{sent_first}
use Rattle.pg_wire.proofs.laws.sent_frames_come_first.Goals as goal

pub returns : goal.returns
returns c = sent_first
