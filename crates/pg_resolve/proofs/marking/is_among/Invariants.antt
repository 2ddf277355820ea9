use Rattle.std.proofs.Common.{◌≡◌, false, take}
use Rattle.pg_resolve.specs.Marks.{is_among}
use Rattle.pg_resolve.proofs.marking.is_among.Given as goal

abbrev pub invariant-loop-other : goal.invariant-loop-other
invariant-loop-other l = is_among (take l.other-index l.names) l.name ≡ false
