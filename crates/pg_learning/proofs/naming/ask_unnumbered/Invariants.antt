use Rattle.std.proofs.Common.{◌≡◌, ◌++◌, drop}
use Rattle.pg_resolve.specs.Resolving.{no_rows}
use Rattle.pg_learning.specs.Naming.{unnumbered}
use Rattle.pg_learning.proofs.naming.ask_unnumbered.Given as goal

abbrev pub invariant-loop-of : goal.invariant-loop-of
invariant-loop-of l = record {
  pushed : l.resolver.pushed ++ unnumbered l.types (drop l.of-index l.names) ≡ unnumbered l.types l.names;
  rest : l.resolver ≡ record no_rows { pushed = l.resolver.pushed };
}
