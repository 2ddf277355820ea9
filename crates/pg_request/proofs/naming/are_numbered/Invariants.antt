use Rattle.std.proofs.Common.{◌≡◌, drop}
use Rattle.pg_request.specs.Asked.{are_numbered}
use Rattle.pg_request.proofs.naming.are_numbered.Given as goal

abbrev pub invariant-loop-of : goal.invariant-loop-of
invariant-loop-of l = are_numbered (drop l.of-index l.types) ≡ are_numbered l.types
