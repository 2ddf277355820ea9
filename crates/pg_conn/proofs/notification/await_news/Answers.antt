use Rattle.pg_stream.specs.Streams.{stream_by}
use Rattle.pg_conn.proofs.NewsLaws.{awaits_none, awaits_on, awaits_last}
use Rattle.pg_conn.proofs.notification.await_news.Goals as goal

pub loop-answer-init : goal.loop-answer-init
loop-answer-init g c = awaits_none (stream_by g.L.Link.seen c.args.stream.now) c.requires.keeping c.requires.none

pub loop-answer-preserved : goal.loop-answer-preserved
loop-answer-preserved g c =
    let seen = stream_by g.L.Link.seen in
    awaits_on (seen c.args.stream.now) (seen c.loop-answer.stream) (seen c.await_once.new.stream) c.loop-answer.invariant c.in_default.ensures.0

pub returns-in-Some : goal.returns-in-Some
returns-in-Some g c =
    let seen = stream_by g.L.Link.seen in
    awaits_last (seen c.args.stream.now) (seen c.loop-answer.stream) (seen c.await_once.new.stream) c.in-Some.answer c.loop-answer.invariant c.in-Some.ensures
