use Rattle.pg_wire.proofs.SkipLaws.{error_stops, silent_when_skipping}
use Rattle.pg_wire.proofs.laws.error_is_followed_by_silence.Goals as goal

pub returns-clause-begins : goal.returns-clause-begins
returns-clause-begins c = error_stops

pub returns-clause-lasts : goal.returns-clause-lasts
returns-clause-lasts c = silent_when_skipping
