use Rattle.std.proofs.Common.{length, ◌-◌}
use Rattle.pg_stream.proofs.VersionLaws.{ReadsDigits}
use Rattle.pg_stream.proofs.version.number.Given as goal

abbrev pub invariant-loop-count : goal.invariant-loop-count
invariant-loop-count l = ReadsDigits l.text l.count l.value

abbrev pub decreases-loop-count : goal.decreases-loop-count
decreases-loop-count l = length l.text - l.count
