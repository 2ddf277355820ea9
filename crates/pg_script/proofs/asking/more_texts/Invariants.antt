use Rattle.std.proofs.Common.{◌≡◌, length}
use Rattle.pg_script.specs.Asking.{in_front, more_texts}
use Rattle.pg_script.proofs.asking.more_texts.Given as goal

abbrev pub invariant-loop-bytes : goal.invariant-loop-bytes
invariant-loop-bytes l = in_front l.texts.items (more_texts l.rest) ≡ in_front l.initial.texts.items (more_texts l.tokens)

abbrev pub decreases-loop-bytes : goal.decreases-loop-bytes
decreases-loop-bytes l = length l.rest
