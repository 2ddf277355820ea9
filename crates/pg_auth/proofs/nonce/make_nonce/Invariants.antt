use Rattle.std.proofs.Common.{◌≡◌, ◌-◌, ◌++◌, take}
use Rattle.pg_auth.specs.Nonce.{drawn, left_after}
use Rattle.pg_auth.proofs.nonce.make_nonce.Given as goal

abbrev pub invariant-loop-word : goal.invariant-loop-word
invariant-loop-word g l = record {
  words : take l.word-index l.word-items ++ drawn (128 - l.word-index) (g.R.Rng.stream l.rng) ≡ drawn 128 (g.R.Rng.stream l.initial.rng);
  left : left_after (128 - l.word-index) (g.R.Rng.stream l.rng) ≡ left_after 128 (g.R.Rng.stream l.initial.rng);
}
