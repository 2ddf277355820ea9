use Rattle.pg_stream.specs.Streams.{stream_by, fuel_of}
use Rattle.pg_call.specs.Calls.{IsAwaiting}
use Rattle.pg_call.specs.declared.calling.Beat.TheVariants as beats
use Rattle.pg_conn.specs.Connections.{seen_by}
use Rattle.pg_conn.specs.Turns.{TakesBeat}
use Rattle.pg_conn.proofs.connection.PgConnection.hear.Given as goal

abbrev pub invariant-loop-e : goal.invariant-loop-e
invariant-loop-e g l = record {
  beat : TakesBeat (seen_by g.L.Link.seen l.initial.self) (seen_by g.L.Link.seen l.self) beats.More;
  awaiting : IsAwaiting l.self.ledger l.self.call;
}

abbrev pub decreases-loop-e : goal.decreases-loop-e
decreases-loop-e g l = fuel_of (stream_by g.L.Link.seen l.self.stream)
