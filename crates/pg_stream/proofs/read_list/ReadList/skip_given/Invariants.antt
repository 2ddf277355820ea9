use Rattle.std.proofs.Common.{◌-◌, length}
use Rattle.pg_stream.specs.Events.{IsSamePlace}
use Rattle.pg_stream.proofs.read_list.ReadList.skip_given.Given as goal

abbrev pub invariant-loop-self : goal.invariant-loop-self
invariant-loop-self l = IsSamePlace l.initial.self l.self

abbrev pub decreases-loop-self : goal.decreases-loop-self
decreases-loop-self l = length l.self.events - l.self.passed
