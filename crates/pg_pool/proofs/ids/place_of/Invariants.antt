use Rattle.std.proofs.Common.{◌≡◌, ◌+◌, drop}
use Rattle.pg_pool.specs.PoolHistory.{place_of}
use Rattle.pg_pool.proofs.ids.place_of.Given as goal

abbrev pub invariant-loop-other : goal.invariant-loop-other
invariant-loop-other l = record { place : l.place ≡ l.other-index; left : l.other-index + place_of l.id (drop l.other-index l.ids) ≡ place_of l.id l.ids }
