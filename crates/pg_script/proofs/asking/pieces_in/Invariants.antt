use Rattle.std.proofs.Common.{◌≡◌, ◌++◌, ℕ, Some, List, length}
use Rattle.pg_script.specs.Reading.{◌>>=◌}
use Rattle.pg_script.specs.Asking.{pieces_in}
use Rattle.pg_script.proofs.asking.pieces_in.Given as goal

abbrev pub invariant-loop-rest : goal.invariant-loop-rest
invariant-loop-rest l = (pieces_in l.rest >>= λ (more : List (List ℕ)). Some (l.pieces ++ more)) ≡ pieces_in l.tokens

abbrev pub decreases-loop-rest : goal.decreases-loop-rest
decreases-loop-rest l = length l.rest
