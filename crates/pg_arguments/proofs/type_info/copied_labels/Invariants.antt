use Rattle.std.proofs.Common.{◌≡◌, take}
use Rattle.pg_arguments.proofs.type_info.copied_labels.Given as goal

abbrev pub invariant-loop-label : goal.invariant-loop-label
invariant-loop-label l = l.copies ≡ take l.label-index l.labels
