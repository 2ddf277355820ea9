use Rattle.std.proofs.Common.{◌≡◌, ◌++◌, take, string_bytes, flat_map}
use Rattle.pg_report.specs.Bytes.{quoted_byte}
use Rattle.pg_report.proofs.bytes.put_quoted_bytes.Given as goal

abbrev pub invariant-loop-byte : goal.invariant-loop-byte
invariant-loop-byte l = string_bytes l.out ≡ string_bytes l.initial.out ++ flat_map quoted_byte (take l.byte-index l.bytes)
