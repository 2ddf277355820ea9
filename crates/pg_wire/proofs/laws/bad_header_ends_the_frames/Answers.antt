use Rattle.pg_wire.proofs.GrowLaws.{unknown_ends, short_ends}
use Rattle.pg_wire.proofs.laws.bad_header_ends_the_frames.Goals as goal

pub returns-clause-unknown : goal.returns-clause-unknown
returns-clause-unknown c = unknown_ends

pub returns-clause-short : goal.returns-clause-short
returns-clause-short c = short_ends
