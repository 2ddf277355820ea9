use Rattle.std.proofs.Common.{◌≡◌, ◌-◌, ℕ, List, Option}
use Rattle.pg_wire.specs.Reading.{many_at, value_at}
use Rattle.pg_wire.proofs.LoopLaws.{with_front}
use Rattle.pg_values.specs.Arrays.{ReadsEach}
use Rattle.pg_values.specs.declared.format.PgValueFormat.TheVariants as formats
use Rattle.pg_values.proofs.array_reading.read_elements.Given as goal

abbrev pub invariant-loop : goal.invariant-loop
invariant-loop g l = (done : List (Option (List ℕ))) × (with_front done (many_at value_at (l.count - l.counter) l.rest) ≡ many_at value_at l.count l.bytes) × ReadsEach (g.T.Decode.reads l.type_info formats.Binary) done l.items.items
