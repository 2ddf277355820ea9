use Rattle.std.proofs.Common.{◌≡◌, ◌-◌, ◌+◌, length}
use Rattle.pg_values.specs.TextReading.{items_in}
use Rattle.pg_values.proofs.TextLoops.{with_items}
use Rattle.pg_values.proofs.text_reading.items.Given as goal

abbrev pub invariant-loop : goal.invariant-loop
invariant-loop l = with_items l.items.items (items_in l.style (length l.bytes + 1 - l.counter) l.rest) ≡ items_in l.style (length l.bytes + 1) l.bytes
