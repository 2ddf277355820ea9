use Rattle.std.proofs.Common.{◌≡◌, ◌++◌, drop}
use Rattle.pg_arguments.proofs.hole.copied_holes.Given as goal

abbrev pub invariant-loop-hole : goal.invariant-loop-hole
invariant-loop-hole l = l.copies.items ++ drop l.hole-index l.holes ≡ l.holes
