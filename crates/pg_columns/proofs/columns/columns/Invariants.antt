use Rattle.std.proofs.Common.{◌≡◌, ◌++◌, length}
use Rattle.pg_columns.specs.Told.{made_columns}
use Rattle.pg_columns.proofs.columns.columns.Given as goal

abbrev pub invariant-loop-field : goal.invariant-loop-field
invariant-loop-field l = l.columns.items ++ made_columns (length l.columns.items) l.field-iterator.rest.items ≡ made_columns 0 l.fn.fields.items
