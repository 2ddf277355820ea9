use Rattle.std.proofs.Common.{vec_len, ◌-◌}
use Rattle.pg_stream.proofs.OutsideLaws.{ReadSo}
use Rattle.pg_stream.proofs.gather.read_all.Given as goal

abbrev pub invariant-loop-chunk : goal.invariant-loop-chunk
invariant-loop-chunk g l = ReadSo (g.S.Source.seen l.initial.source) (g.S.Source.seen l.source) l.bytes.items

abbrev pub decreases-loop-chunk : goal.decreases-loop-chunk
decreases-loop-chunk g l = 67108865 - vec_len l.bytes
