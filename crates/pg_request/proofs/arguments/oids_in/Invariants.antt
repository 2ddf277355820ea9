use Rattle.std.proofs.Common.{◌≡◌, ◌++◌, drop}
use Rattle.pg_request.specs.Asked.{oids_in}
use Rattle.pg_request.proofs.arguments.oids_in.Given as goal

abbrev pub invariant-loop-of : goal.invariant-loop-of
invariant-loop-of l = l.oids ++ oids_in (drop l.of-index l.types) ≡ oids_in l.types
