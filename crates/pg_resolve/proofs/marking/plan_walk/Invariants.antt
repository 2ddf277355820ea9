use Rattle.std.proofs.Common.{◌≡◌, ℕ, ◌<◌, length}
use Rattle.std.specs.Prelude.{slice_index_or, None}
use Rattle.pg_resolve.specs.Marks.{mark_at, marked_by}
use Rattle.pg_resolve.proofs.marking.plan_walk.Given as goal

abbrev pub invariant-loop-place : goal.invariant-loop-place
invariant-loop-place l = record {
  long : length l.nullable.items ≡ l.place;
  marks : (k : ℕ) → k < l.place → slice_index_or l.nullable.items k None ≡ mark_at (marked_by l.plan) l.outputs k;
}
