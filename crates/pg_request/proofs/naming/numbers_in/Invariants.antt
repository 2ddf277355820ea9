use Rattle.std.proofs.Common.{◌≡◌, ◌++◌, drop}
use Rattle.pg_request.specs.Asked.{numbers_in}
use Rattle.pg_request.proofs.naming.numbers_in.Given as goal

abbrev pub invariant-loop-of : goal.invariant-loop-of
invariant-loop-of l = l.oids ++ numbers_in (drop l.of-index l.declared) ≡ numbers_in l.declared
