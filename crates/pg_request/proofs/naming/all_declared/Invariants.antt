use Rattle.std.proofs.Common.{◌≡◌, ◌++◌, drop, map}
use Rattle.pg_request.specs.Asked.{declared_as}
use Rattle.pg_request.proofs.naming.all_declared.Given as goal

abbrev pub invariant-loop-of : goal.invariant-loop-of
invariant-loop-of l = l.all ++ map declared_as (drop l.of-index l.types) ≡ map declared_as l.types
