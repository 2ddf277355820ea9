use Rattle.std.proofs.Common.{◌≡◌}
use Rattle.pg_sample.specs.Sample.{events_said}
use Rattle.pg_sample.proofs.scripting.events.Given as goal

abbrev pub invariant-loop-index : goal.invariant-loop-index
invariant-loop-index l = l.events.items ≡ events_said l.index
