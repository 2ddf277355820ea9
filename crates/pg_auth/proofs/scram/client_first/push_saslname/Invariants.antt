use Rattle.std.proofs.Common.{◌≡◌, ◌++◌, take, string_bytes}
use Rattle.pg_auth.specs.Scram.{saslname}
use Rattle.pg_auth.proofs.scram.client_first.push_saslname.Given as goal

abbrev pub invariant-loop-byte : goal.invariant-loop-byte
invariant-loop-byte l = string_bytes l.text ≡ string_bytes l.initial.text ++ saslname (take l.byte-index l.byte-items)
