use Rattle.std.proofs.Common.{◌≡◌, drop}
use Rattle.pg_request.specs.Asked.{all_numbers}
use Rattle.pg_request.proofs.naming.all_numbers.Given as goal

abbrev pub invariant-loop-of : goal.invariant-loop-of
invariant-loop-of l = all_numbers (drop l.of-index l.declared) ≡ all_numbers l.declared
