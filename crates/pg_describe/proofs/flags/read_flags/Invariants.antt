use Rattle.std.proofs.Common.{◌≡◌, map, take, Option, Some}
use Rattle.pg_rows.specs.Rows.{RowSeen}
use Rattle.pg_conn.specs.Flags.{flag_in}
use Rattle.std.specs.Prelude.{Bool}
use Rattle.pg_describe.proofs.flags.read_flags.Given as goal

abbrev pub invariant-loop-place : goal.invariant-loop-place
invariant-loop-place l = map (λ (row : RowSeen). flag_in row.values) (take l.place l.rows) ≡ map (λ (flag : Option Bool). Some flag) l.flags.items
