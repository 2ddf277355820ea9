use Rattle.std.proofs.Common.{◌≡◌, false, take}
use Rattle.std.specs.List.{flat_map}
use Rattle.pg_resolve.specs.Marks.{is_among, marked_by}
use Rattle.pg_resolve.proofs.marking.+marking.Given as goal

abbrev pub invariant-some_mark-loop-plan : goal.invariant-some_mark-loop-plan
invariant-some_mark-loop-plan l = is_among (flat_map marked_by (take l.plan-index l.plans)) l.output ≡ false
