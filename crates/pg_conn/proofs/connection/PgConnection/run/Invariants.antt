use Rattle.pg_stream.specs.Streams.{stream_by, fuel_of}
use Rattle.pg_call.specs.declared.calling.Beat.TheVariants as beats
use Rattle.pg_conn.specs.Connections.{seen_by}
use Rattle.pg_conn.specs.Turns.{TakesBeat, IsAsked}
use Rattle.pg_conn.proofs.connection.PgConnection.run.Given as goal

abbrev pub invariant-loop-beat : goal.invariant-loop-beat
invariant-loop-beat g l = record {
  beat : TakesBeat (seen_by g.L.Link.seen l.initial.self) (seen_by g.L.Link.seen l.self) beats.More;
  asked : IsAsked l.self.call → ⊥;
}

abbrev pub decreases-loop-beat : goal.decreases-loop-beat
decreases-loop-beat g l = fuel_of (stream_by g.L.Link.seen l.self.stream)
