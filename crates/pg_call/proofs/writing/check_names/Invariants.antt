use Rattle.std.proofs.Common.{drop}
use Rattle.pg_call.specs.Requests.{AreNamed}
use Rattle.pg_call.proofs.writing.check_names.Given as goal

abbrev pub invariant-loop-of : goal.invariant-loop-of
invariant-loop-of l = record {
  whole : AreNamed (drop l.of-index l.names) → AreNamed l.names;
  part : AreNamed l.names → AreNamed (drop l.of-index l.names);
}
