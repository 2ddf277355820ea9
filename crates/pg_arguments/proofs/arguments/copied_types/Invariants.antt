use Rattle.std.proofs.Common.{◌≡◌, ◌++◌, drop}
use Rattle.pg_arguments.proofs.arguments.copied_types.Given as goal

abbrev pub invariant-loop-of : goal.invariant-loop-of
invariant-loop-of l = l.copies.items ++ drop l.of-index l.types ≡ l.types
