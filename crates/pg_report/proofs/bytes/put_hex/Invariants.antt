use Rattle.std.proofs.Common.{◌≡◌, ◌++◌, take, string_bytes, flat_map}
use Rattle.pg_report.specs.Bytes.{hex_byte}
use Rattle.pg_report.proofs.bytes.put_hex.Given as goal

abbrev pub invariant-loop-byte : goal.invariant-loop-byte
invariant-loop-byte l = string_bytes l.out ≡ string_bytes l.initial.out ++ flat_map hex_byte (take l.byte-index l.bytes)
