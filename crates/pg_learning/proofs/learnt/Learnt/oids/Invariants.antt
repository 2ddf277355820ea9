use Rattle.std.proofs.Common.{◌≡◌, ◌++◌, drop}
use Rattle.pg_learning.specs.Naming.{oids_under, unknown_name}
use Rattle.pg_learning.proofs.learnt.Learnt.oids.Given as goal

abbrev pub invariant-loop-of : goal.invariant-loop-of
invariant-loop-of l = record {
  oids : l.oids ++ oids_under l.self.types (drop l.of-index l.names) ≡ oids_under l.self.types l.names;
  unknown : unknown_name l.self.types (drop l.of-index l.names) ≡ unknown_name l.self.types l.names;
}
