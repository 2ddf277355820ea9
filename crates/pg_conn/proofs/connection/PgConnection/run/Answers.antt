use Rattle.std.proofs.Common.{arith}
use Rattle.pg_call.specs.declared.calling.Beat.TheVariants as beats
use Rattle.pg_conn.specs.Connections.{seen_by}
use Rattle.pg_conn.proofs.TurnLaws.{TakesBeat-none, TakesBeat-then}
use Rattle.pg_conn.proofs.connection.PgConnection.run.Goals as goal

pub loop-beat-init : goal.loop-beat-init
loop-beat-init g c = record { beat = TakesBeat-none _; asked = c.requires.asked }

pub loop-beat-preserved : goal.loop-beat-preserved
loop-beat-preserved g c = record {
  beat = TakesBeat-then (seen_by g.L.Link.seen c.args.self.now) (seen_by g.L.Link.seen c.loop-beat.self) (seen_by g.L.Link.seen c.go_on.new.self) beats.More c.loop-beat.invariant.beat c.in-More.ensures.beat;
  asked = λ i. c.loop-beat.invariant.asked (c.in-More.ensures.beat.3.asked i);
}

pub returns-in_default : goal.returns-in_default
returns-in_default g c = record {
  beat = TakesBeat-then (seen_by g.L.Link.seen c.args.self.now) (seen_by g.L.Link.seen c.loop-beat.self) (seen_by g.L.Link.seen c.go_on.new.self) c.go_on.result c.loop-beat.invariant.beat c.go_on.ensures.beat;
  ends = c.in_default.not-More;
  falls = λ x. omega (arith, c.go_on.ensures.falls x, c.loop-beat.invariant.beat.3.moves.fuel);
}
