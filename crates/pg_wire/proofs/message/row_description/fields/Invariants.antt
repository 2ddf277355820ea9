use Rattle.std.proofs.Common.{◌≡◌, ◌-◌, map}
use Rattle.std.specs.List.{AllByRecursion}
use Rattle.pg_wire.specs.Fields.{described, TellsNone}
use Rattle.pg_wire.specs.Reading.{many_at, field_at}
use Rattle.pg_wire.proofs.LoopLaws.{with_front}
use Rattle.pg_wire.proofs.message.row_description.fields.Given as goal

abbrev pub invariant-loop : goal.invariant-loop
invariant-loop l = record {
  value : with_front (map described l.fields.items) (many_at field_at (l.count - l.counter) l.rest) ≡ many_at field_at l.count l.bytes;
  none : AllByRecursion TellsNone l.fields.items;
}
