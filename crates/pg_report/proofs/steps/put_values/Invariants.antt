use Rattle.std.proofs.Common.{◌≡◌, ◌++◌, take, length, string_bytes, flat_map}
use Rattle.pg_report.specs.Steps.{value_text}
use Rattle.pg_report.proofs.steps.put_values.Given as goal

abbrev pub invariant-loop-index : goal.invariant-loop-index
invariant-loop-index l = record {
  told : string_bytes l.out ≡ string_bytes l.initial.out ++ flat_map value_text (take l.index l.row);
  end : l.index-end ≡ length l.row;
}
