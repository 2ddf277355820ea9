use Rattle.pg_stream.specs.Streams.{stream_by}
use Rattle.pg_stream.proofs.StreamLemmas.{hears_none, hears_on, hears_last}
use Rattle.pg_stream.proofs.stream.PgStream.poll_aside.Goals as goal

pub loop-answer-init : goal.loop-answer-init
loop-answer-init g c = hears_none (stream_by g.L.Link.seen c.args.self.now)

pub loop-answer-preserved : goal.loop-answer-preserved
loop-answer-preserved g c =
    let seen = stream_by g.L.Link.seen in
    hears_on (seen c.args.self.now) (seen c.loop-answer.self) (seen c.ahead_once.new.self) c.loop-answer.invariant c.in_default.ensures

pub returns-in-Some : goal.returns-in-Some
returns-in-Some g c =
    let seen = stream_by g.L.Link.seen in
    hears_last (seen c.args.self.now) (seen c.loop-answer.self) (seen c.ahead_once.new.self) c.in-Some.answer c.loop-answer.invariant c.in-Some.ensures.0
