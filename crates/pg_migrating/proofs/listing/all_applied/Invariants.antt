use Rattle.std.proofs.Common.{take}
use Rattle.pg_migrating.specs.Answers.{AllApplied}
use Rattle.pg_migrating.proofs.listing.all_applied.Given as goal

abbrev pub invariant-loop-row : goal.invariant-loop-row
invariant-loop-row l = AllApplied (take l.row-index l.rows) l.applied.items
