use Rattle.std.proofs.Common.{◌≡◌, ◌++◌, ◌+◌, ◌-◌, ◌≤◌, Some, List, length}
use Rattle.pg_script.specs.declared.argument.Argument.{Argument}
use Rattle.pg_script.specs.Reading.{◌>>=◌}
use Rattle.pg_script.specs.Asking.{arguments_up_to, arguments_in}
use Rattle.pg_script.proofs.asking.arguments_in.Given as goal

abbrev pub invariant-loop-rest : goal.invariant-loop-rest
invariant-loop-rest l = record {
  room : length l.rest + length l.arguments.items ≤ length l.tokens;
  read : (arguments_up_to (length l.tokens - length l.arguments.items) l.rest >>= λ (more : List Argument). Some (l.arguments.items ++ more)) ≡ arguments_in l.tokens;
}

abbrev pub decreases-loop-rest : goal.decreases-loop-rest
decreases-loop-rest l = length l.rest
