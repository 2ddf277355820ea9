use Rattle.std.proofs.Common.{◌≡◌, ◌++◌, drop}
use Rattle.pg_request.specs.Asked.{types_of_holes}
use Rattle.pg_request.proofs.naming.types_of_holes.Given as goal

abbrev pub invariant-loop-hole : goal.invariant-loop-hole
invariant-loop-hole l = l.all ++ types_of_holes (drop l.hole-index l.holes) ≡ types_of_holes l.holes
