use Rattle.std.proofs.Common.{◌≡◌, ◌++◌, drop}
use Rattle.pg_request.proofs.naming.copy_declared.Given as goal

abbrev pub invariant-loop-name : goal.invariant-loop-name
invariant-loop-name l = l.copies ++ drop l.name-index l.names ≡ l.names
