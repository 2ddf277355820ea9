use Rattle.std.proofs.Common.{◌≡◌, ◌-◌, ◌++◌, string_bytes}
use Rattle.pg_resolve.specs.Nullable.{more_columns}
use Rattle.pg_resolve.proofs.nullable.text_of.Given as goal

abbrev pub invariant-loop-place : goal.invariant-loop-place
invariant-loop-place l = string_bytes l.out ≡ l.start ++ more_columns (l.place - 1)
