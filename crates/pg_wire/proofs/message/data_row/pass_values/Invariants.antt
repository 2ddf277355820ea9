use Rattle.std.proofs.Common.{◌≡◌, ◌-◌}
use Rattle.pg_wire.specs.Reading.{value_at}
use Rattle.pg_wire.specs.Rows.{passed}
use Rattle.pg_wire.proofs.message.data_row.pass_values.Given as goal

abbrev pub invariant-loop : goal.invariant-loop
invariant-loop l = passed value_at (l.count - l.counter) l.rest ≡ passed value_at l.count l.bytes
