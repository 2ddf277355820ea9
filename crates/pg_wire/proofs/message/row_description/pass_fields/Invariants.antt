use Rattle.std.proofs.Common.{◌≡◌, ◌-◌}
use Rattle.pg_wire.specs.Reading.{field_at}
use Rattle.pg_wire.specs.Rows.{passed}
use Rattle.pg_wire.proofs.message.row_description.pass_fields.Given as goal

abbrev pub invariant-loop : goal.invariant-loop
invariant-loop l = passed field_at (l.count - l.counter) l.rest ≡ passed field_at l.count l.bytes
