use Rattle.std.proofs.Common.{◌≡◌, ◌≤◌, drop}
use Rattle.pg_script.specs.Reading.{◌>>=◌}
use Rattle.pg_script.specs.Words.{digits_after}
use Rattle.pg_sample.specs.Counts.{count_of, if_allowed}
use Rattle.pg_sample.proofs.counting.count_of.Given as goal

abbrev pub invariant-loop-digit : goal.invariant-loop-digit
invariant-loop-digit l = record {
  bound : l.count ≤ 100000;
  value : (digits_after l.count (drop l.digit-index l.digit-items) >>= if_allowed) ≡ count_of l.word;
}
