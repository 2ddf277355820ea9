use Rattle.std.proofs.Common.{◌≡◌, take}
use Rattle.pg_script.proofs.step.copied_pieces.Given as goal

abbrev pub invariant-loop-piece : goal.invariant-loop-piece
invariant-loop-piece l = l.copies ≡ take l.piece-index l.piece-items
