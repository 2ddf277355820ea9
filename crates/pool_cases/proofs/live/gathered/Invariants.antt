use Rattle.std.proofs.Common.{◌≡◌, ◌+◌, length}
use Rattle.std.specs.Prelude.{vec_len}
use Rattle.pool_cases.proofs.live.gathered.Given as goal

abbrev pub invariant-loop-tally : goal.invariant-loop-tally
invariant-loop-tally g l = vec_len l.seats + length l.tally-iterator.rest.items ≡ vec_len l.fn.threads
