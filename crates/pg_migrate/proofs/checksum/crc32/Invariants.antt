use Rattle.std.proofs.Common.{◌≡◌, take}
use Rattle.std.specs.List.{fold}
use Rattle.pg_migrate.specs.Crc32.{behind_byte}
use Rattle.pg_migrate.proofs.checksum.crc32.Given as goal

abbrev pub invariant-loop-byte : goal.invariant-loop-byte
invariant-loop-byte l = l.register ≡ fold behind_byte 0xffffffff (take l.byte-index l.bytes)
