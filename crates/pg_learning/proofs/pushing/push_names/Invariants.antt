use Rattle.std.proofs.Common.{◌≡◌, ◌++◌, drop}
use Rattle.pg_learning.specs.Learning.{unnamed}
use Rattle.pg_learning.proofs.pushing.push_names.Given as goal

abbrev pub invariant-loop-column : goal.invariant-loop-column
invariant-loop-column l = l.resolver ++ unnamed l.tables (drop l.column-index l.columns) ≡ l.initial.resolver ++ unnamed l.tables l.columns
