use Rattle.std.proofs.Common.{◌≡◌, ◌<◌, ◌^◌, drop}
use Rattle.pg_auth.specs.Reading.{digits_after}
use Rattle.pg_auth.proofs.scram.server_first.count.Given as goal

abbrev pub invariant-loop-digit : goal.invariant-loop-digit
invariant-loop-digit l = record {
  bound : l.number < 10 ^ l.digit-index;
  value : digits_after l.number (drop l.digit-index l.digits) ≡ digits_after 0 l.digits;
}
