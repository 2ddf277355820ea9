use Rattle.std.proofs.Common.{◌≡◌}
use Rattle.pg_sample.specs.Sample.{steps_said}
use Rattle.pg_sample.proofs.scripting.steps.Given as goal

abbrev pub invariant-loop-index : goal.invariant-loop-index
invariant-loop-index l = l.steps.items ≡ steps_said l.index
