use Rattle.std.proofs.Common.{◌≡◌, drop, map}
use Rattle.pg_arguments.specs.Builtin.{first_under}
use Rattle.pg_arguments.specs.BuiltinRows.{shown}
use Rattle.pg_arguments.proofs.builtin.first_under.Given as goal

abbrev pub invariant-loop-row : goal.invariant-loop-row
invariant-loop-row l = first_under l.oid (map shown (drop l.row-index l.rows)) ≡ first_under l.oid (map shown l.rows)
