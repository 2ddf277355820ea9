use Rattle.std.proofs.Common.{sym}
use Rattle.std.proofs.lemmas.List.{take_rest}
use Rattle.pg_wire.proofs.EndedLaws.{ended_found, ended_done}
use Rattle.pg_wire.proofs.reading.ended.Goals as goal

pub returns-then-bytes-place-eq0 : goal.returns-then-bytes-place-eq0
returns-then-bytes-place-eq0 c = rw take_rest (sym (ended_found c.args.bytes.now c.loop-place.place c.loop-place.invariant c.loop-place-test.true c.if-bytes-place-eq0.true))

pub returns : goal.returns
returns c = sym (ended_done c.args.bytes.now c.loop-place.place c.loop-place.invariant c.loop-place-test.false)
