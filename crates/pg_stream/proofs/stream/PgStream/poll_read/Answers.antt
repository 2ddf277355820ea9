use Rattle.pg_stream.specs.Streams.{stream_by}
use Rattle.pg_stream.proofs.StreamLemmas.{reads_none, reads_on, read_waits, read_ends, read_fails}
use Rattle.pg_stream.proofs.stream.PgStream.poll_read.Goals as goal

pub loop-front-init : goal.loop-front-init
loop-front-init g c = reads_none (stream_by g.L.Link.seen c.args.self.now) c.requires

pub loop-front-preserved : goal.loop-front-preserved
loop-front-preserved g c =
    let seen = stream_by g.L.Link.seen in
    reads_on (seen c.args.self.now) (seen c.loop-front.self) (seen c.read_once.new.self) c.in-Ok-Moved.field-0-0 c.loop-front.invariant (rw c.in-Ok-Moved.field-0-is at c.in-Ok-Moved.ensures.ok)

pub returns-in-Ok-NotYet : goal.returns-in-Ok-NotYet
returns-in-Ok-NotYet g c =
    let seen = stream_by g.L.Link.seen in
    let none = rw c.in-Ok-None.field-0-is at c.in-Ok-None.ensures in
    read_waits (seen c.args.self.now) (seen c.loop-front.self) (seen c.read_once.new.self) c.loop-front.invariant none (rw c.in-Ok-NotYet.field-0-is at c.in-Ok-NotYet.ensures.ok)

pub returns-in-Ok-End : goal.returns-in-Ok-End
returns-in-Ok-End g c =
    let seen = stream_by g.L.Link.seen in
    read_ends (seen c.args.self.now) (seen c.loop-front.self) (seen c.read_once.new.self) c.loop-front.invariant (rw c.in-Ok-End.field-0-is at c.in-Ok-End.ensures.ok)

pub returns-in-Ok-Failed : goal.returns-in-Ok-Failed
returns-in-Ok-Failed g c =
    let seen = stream_by g.L.Link.seen in
    read_fails (seen c.args.self.now) (seen c.loop-front.self) (seen c.read_once.new.self) c.loop-front.invariant (rw c.in-Ok-Failed.field-0-is at c.in-Ok-Failed.ensures.ok)
