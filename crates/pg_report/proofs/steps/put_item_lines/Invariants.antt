use Rattle.std.proofs.Common.{◌≡◌, ◌++◌, take, string_bytes, flat_map}
use Rattle.pg_report.specs.Steps.{item_line}
use Rattle.pg_report.proofs.steps.put_item_lines.Given as goal

abbrev pub invariant-loop-item : goal.invariant-loop-item
invariant-loop-item l = string_bytes l.out ≡ string_bytes l.initial.out ++ flat_map (item_line l.step) (take l.item-index l.items)
