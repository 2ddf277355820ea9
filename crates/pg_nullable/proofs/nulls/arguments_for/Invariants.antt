use Rattle.std.proofs.Common.{◌≡◌}
use Rattle.pg_arguments.specs.Arguments.{HasValues}
use Rattle.pg_nullable.specs.Nulls.{types_for, values_for}
use Rattle.pg_nullable.proofs.nulls.arguments_for.Given as goal

abbrev pub invariant-loop-place : goal.invariant-loop-place
invariant-loop-place l = HasValues l.arguments (values_for l.columns l.place) × (l.arguments.types ≡ types_for l.place)
