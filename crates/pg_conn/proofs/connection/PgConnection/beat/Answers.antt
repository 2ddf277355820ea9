use Rattle.std.proofs.Common.{inl, inr, sym, ◌∙◌, arith}
use Rattle.pg_conn.specs.Connections.{seen_by}
use Rattle.pg_conn.proofs.TurnLaws.{flushed, flush_done, flush_sayable, refused, refused_now, TakesBeat-then}
use Rattle.pg_conn.proofs.connection.PgConnection.beat.Goals as goal

pub returns-then-is_flushed : goal.returns-then-is_flushed
returns-then-is_flushed g c =
    let s = c.end_sent.ensures in
    let a = seen_by g.L.Link.seen c.args.self.now in
    let done = sym c.if-is_flushed.ensures in
    rw (s.now, s.beat) (record { beat = flushed a done; says = inl (flush_sayable a done); flush = flush_done a; asked = λ i. i; ends = λ e. absurd cc; falls = λ x. absurd x })

pub returns-in-Ok : goal.returns-in-Ok
returns-in-Ok g c = record {
  beat = TakesBeat-then (seen_by g.L.Link.seen c.args.self.now) (seen_by g.L.Link.seen c.write_frames.new.self) (seen_by g.L.Link.seen c.run.new.self) c.run.result c.in-Ok.ensures.ok.beat c.run.ensures.beat;
  says = inl c.in-Ok.ensures.ok.sayable;
  flush = λ e. let k = sym e ∙ sym c.if-is_flushed.ensures in absurd cc;
  asked = λ i. c.in-Ok.ensures.ok.asked (c.run.ensures.beat.3.asked i);
  ends = c.run.ensures.ends;
  falls = λ x. omega (arith, c.run.ensures.falls x, c.in-Ok.ensures.ok.beat.3.moves.fuel);
}

pub returns-in-Err-clause-beat : goal.returns-in-Err-clause-beat
returns-in-Err-clause-beat g c =
    let s = c.stop.ensures in
    let e = c.in-Err.ensures.err in
    rw (s.now, s.beat, e.0) (refused (seen_by g.L.Link.seen c.args.self.now) c.in-Err.e e.1)

pub returns-in-Err-clause-says : goal.returns-in-Err-clause-says
returns-in-Err-clause-says g c =
    let s = c.stop.ensures in
    let e = c.in-Err.ensures.err in
    rw (s.now, s.beat, e.0) (inr (refused_now (seen_by g.L.Link.seen c.args.self.now) c.in-Err.e e.1))

pub returns-in-Err-clause-asked : goal.returns-in-Err-clause-asked
returns-in-Err-clause-asked g c = rw c.stop.ensures.now (λ i. i)

pub returns-in-Err-clause-falls : goal.returns-in-Err-clause-falls
returns-in-Err-clause-falls g c = rw c.stop.ensures.beat (λ x. absurd x)

pub returns-in-Err-clause-flush : goal.returns-in-Err-clause-flush
returns-in-Err-clause-flush g c e = let k = sym e ∙ sym c.if-is_flushed.ensures in absurd cc
