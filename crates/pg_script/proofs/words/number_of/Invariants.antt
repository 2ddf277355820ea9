use Rattle.std.proofs.Common.{◌≡◌, ◌<◌, ◌^◌, drop}
use Rattle.pg_script.specs.Words.{digits_after}
use Rattle.pg_script.proofs.words.number_of.Given as goal

abbrev pub invariant-loop-digit : goal.invariant-loop-digit
invariant-loop-digit l = record {
  bound : l.number < 10 ^ l.digit-index;
  value : digits_after l.number (drop l.digit-index l.word) ≡ digits_after 0 l.word;
}
