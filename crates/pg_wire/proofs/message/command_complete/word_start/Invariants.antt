use Rattle.std.proofs.Common.{◌≡◌, ◌≢◌, ◌≤◌, ◌<◌, ◌-◌, ℕ, slice_index}
use Rattle.pg_wire.proofs.message.command_complete.word_start.Given as goal

abbrev pub invariant-loop-place : goal.invariant-loop-place
invariant-loop-place l = record {
  bound : l.start ≤ l.place;
  word : (k : ℕ) → l.start ≤ k → k < l.place → slice_index l.tag k ≢ 32;
  space : 0 < l.start → slice_index l.tag (l.start - 1) ≡ 32;
}
