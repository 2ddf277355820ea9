use Rattle.std.proofs.Common.{◌≡◌, ◌++◌, Some, List, length}
use Rattle.pg_request.specs.declared.naming.Declared.{Declared}
use Rattle.pg_script.specs.Reading.{◌>>=◌}
use Rattle.pg_script.specs.Asking.{types_in}
use Rattle.pg_script.proofs.asking.types_in.Given as goal

abbrev pub invariant-loop-rest : goal.invariant-loop-rest
invariant-loop-rest l = (types_in l.rest >>= λ (more : List Declared). Some (l.types ++ more)) ≡ types_in l.tokens

abbrev pub decreases-loop-rest : goal.decreases-loop-rest
decreases-loop-rest l = length l.rest
