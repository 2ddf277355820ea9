use Rattle.std.proofs.Common.{◌≡◌, ◌++◌, drop}
use Rattle.pg_learning.specs.Telling.{learnt_columns}
use Rattle.pg_learning.proofs.learnt.Learnt.columns.Given as goal

abbrev pub invariant-loop-column : goal.invariant-loop-column
invariant-loop-column l = l.told ++ learnt_columns l.self (drop l.column-index l.columns) ≡ learnt_columns l.self l.columns
