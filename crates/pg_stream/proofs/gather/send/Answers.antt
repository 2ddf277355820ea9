use Rattle.pg_stream.proofs.OutsideLaws.{sent_more}
use Rattle.pg_stream.proofs.gather.send.Goals as goal

pub loop-rest-preserved : goal.loop-rest-preserved
loop-rest-preserved g c = sent_more (g.K.Sink.seen c.args.sink.now) (g.K.Sink.seen c.loop-rest.sink) (g.K.Sink.seen c.write.new.self) c.args.text.now c.loop-rest.rest.now c.in-Moved.count c.loop-rest.invariant c.in-Moved.ensures
