use Rattle.std.proofs.Common.{length}
use Rattle.pg_stream.proofs.OutsideLaws.{SentSo}
use Rattle.pg_stream.proofs.gather.send.Given as goal

abbrev pub invariant-loop-rest : goal.invariant-loop-rest
invariant-loop-rest g l = SentSo (g.K.Sink.seen l.initial.sink) (g.K.Sink.seen l.sink) l.text l.rest

abbrev pub decreases-loop-rest : goal.decreases-loop-rest
decreases-loop-rest g l = length l.rest
