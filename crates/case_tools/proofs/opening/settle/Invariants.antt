use Rattle.std.proofs.Common.{◌≡◌, false}
use Rattle.case_tools.proofs.opening.settle.Given as goal

abbrev pub invariant-loop : goal.invariant-loop
invariant-loop g l = l.start.startup.is_finished ≡ false
