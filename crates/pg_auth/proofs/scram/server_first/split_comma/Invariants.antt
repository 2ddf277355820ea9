use Rattle.std.proofs.Common.{◌≡◌, ◌++◌, take, drop}
use Rattle.pg_auth.specs.Reading.{before_comma, behind_comma}
use Rattle.pg_auth.proofs.scram.server_first.split_comma.Given as goal

abbrev pub invariant-loop-place : goal.invariant-loop-place
invariant-loop-place l = record {
  before : take l.place l.bytes ++ before_comma (drop l.place l.bytes) ≡ before_comma l.bytes;
  behind : behind_comma (drop l.place l.bytes) ≡ behind_comma l.bytes;
}
