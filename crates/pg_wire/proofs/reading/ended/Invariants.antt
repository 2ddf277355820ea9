use Rattle.std.proofs.Common.{take}
use Rattle.pg_wire.specs.Bytes.{HasNoNul}
use Rattle.pg_wire.proofs.reading.ended.Given as goal

abbrev pub invariant-loop-place : goal.invariant-loop-place
invariant-loop-place l = HasNoNul (take l.place l.bytes)
