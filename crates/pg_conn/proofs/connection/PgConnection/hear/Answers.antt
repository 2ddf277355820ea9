use Rattle.std.proofs.Common.{arith, ap, subst, sym, ◌∙◌}
use Rattle.pg_stream.specs.Streams.{IsHeardFront, stream_by}
use Rattle.pg_call.specs.declared.calling.Beat.TheVariants as beats
use Rattle.pg_conn.specs.Connections.{ConnOf, seen_by}
use Rattle.pg_conn.specs.Turns.{TakesBeat}
use Rattle.pg_conn.proofs.FrontLaws.{ahead_in, hears_fault, hears_front, hears_nothing, passed_awaits, passed_in, plainly_in, same_fuel, starves, with_room}
use Rattle.pg_conn.proofs.TurnLaws.{TakesBeat-none, TakesBeat-then}
use Rattle.pg_conn.proofs.connection.PgConnection.hear.Goals as goal

pub loop-e-init : goal.loop-e-init
loop-e-init g c = record { beat = TakesBeat-none _; awaiting = c.requires }

pub returns-in-Pending-clause-beat : goal.returns-in-Pending-clause-beat
returns-in-Pending-clause-beat g c =
    TakesBeat-then (seen_by g.L.Link.seen c.args.self.now) (seen_by g.L.Link.seen c.loop-e.self) _ beats.Waits c.loop-e.invariant.beat
    (rw (← c.self.view_is) (hears_nothing _ _ (rw (← c.self.view_is) at c.loop-e.invariant.awaiting) c.in-Pending.ensures))

pub returns-in-Ready-Err-clause-beat : goal.returns-in-Ready-Err-clause-beat
returns-in-Ready-Err-clause-beat g c =
    let s = c.stop.ensures in
    TakesBeat-then (seen_by g.L.Link.seen c.args.self.now) (seen_by g.L.Link.seen c.loop-e.self) (seen_by g.L.Link.seen c.stop.new.self) c.stop.result c.loop-e.invariant.beat
    (rw (s.now, s.beat, ← c.self.view_is) (hears_fault _ _ c.in-Ready-Err.e (rw (← c.self.view_is) at c.loop-e.invariant.awaiting) (rw c.in-Ready-Err.field-0-is at c.in-Ready-Err.ensures)))

pub returns-in-Err-clause-beat : goal.returns-in-Err-clause-beat
returns-in-Err-clause-beat g c =
    let p = rw c.in-Ready-Ok.field-0-is at c.in-Ready-Ok.ensures in
    let e = c.in-Err.ensures in
    let s = c.stop-in-Err.ensures in
    let same = c.takes_plainly.ensures.no c.if-takes_plainly.false in
    TakesBeat-then (seen_by g.L.Link.seen c.args.self.now) (seen_by g.L.Link.seen c.loop-e.self) (seen_by g.L.Link.seen c.stop-in-Err.new.self) c.stop-in-Err.result c.loop-e.invariant.beat
    (rw (← c.self.view_is) (TakesBeat-then _ _ (seen_by g.L.Link.seen c.stop-in-Err.new.self) c.stop-in-Err.result (hears_front _ (stream_by g.L.Link.seen c.poll_ahead.new.self) c.in-Ready-Ok.front p)
    (subst (λ (x : ConnOf g.row.L.Denot). TakesBeat (seen_by g.L.Link.seen x) (seen_by g.L.Link.seen c.stop-in-Err.new.self) c.stop-in-Err.result) same (starves g.L.Link.seen c.takes_plainly.new.self c.make_room.new.self c.stop-in-Err.new.self c.in-Err.e c.stop-in-Err.result e.now e.spare e.err s.now s.beat))))

pub returns-then-not-passes-clause-beat : goal.returns-then-not-passes-clause-beat
returns-then-not-passes-clause-beat g c =
    let p = rw c.in-Ready-Ok.field-0-is at c.in-Ready-Ok.ensures in
    let m = c.in_default.ensures in
    let h = c.hear_front-heard.ensures in
    let same = c.takes_plainly.ensures.no c.if-takes_plainly.false in
    let front = subst (λ (x : ConnOf g.row.L.Denot). IsHeardFront x.stream.held c.in-Ready-Ok.front) (sym same) p.5 in
    let sent = ap (λ (x : ConnOf g.row.L.Denot). x.stream.unsent) same ∙ p.3 in
    TakesBeat-then (seen_by g.L.Link.seen c.args.self.now) (seen_by g.L.Link.seen c.loop-e.self) (seen_by g.L.Link.seen c.take_heard.new.self) c.take_heard.result c.loop-e.invariant.beat
    (rw (← c.self.view_is) (TakesBeat-then _ _ (seen_by g.L.Link.seen c.take_heard.new.self) c.take_heard.result (hears_front _ (stream_by g.L.Link.seen c.poll_ahead.new.self) c.in-Ready-Ok.front p)
    (subst (λ (x : ConnOf g.row.L.Denot). TakesBeat (seen_by g.L.Link.seen x) (seen_by g.L.Link.seen c.take_heard.new.self) c.take_heard.result) same
    (ahead_in g.L.Link.seen c.takes_plainly.new.self c.make_room.new.self c.hear_front-heard.new.self c.take_heard.new.self c.in-Ready-Ok.front c.hear_front-heard.result c.take_heard.result front sent m.now m.spare m.ok h.now h.hears c.take_heard.ensures.takes))))

pub returns-then-not-passes-clause-falls : goal.returns-then-not-passes-clause-falls
returns-then-not-passes-clause-falls g c x =
    let p = rw c.in-Ready-Ok.field-0-is at c.in-Ready-Ok.ensures in
    let m = c.in_default.ensures in
    let h = c.hear_front-heard.ensures in
    let same = c.takes_plainly.ensures.no c.if-takes_plainly.false in
    let front = subst (λ (x : ConnOf g.row.L.Denot). IsHeardFront x.stream.held c.in-Ready-Ok.front) (sym same) p.5 in
    let sent = ap (λ (x : ConnOf g.row.L.Denot). x.stream.unsent) same ∙ p.3 in
    let near = TakesBeat-then (seen_by g.L.Link.seen c.args.self.now) (seen_by g.L.Link.seen c.loop-e.self) (seen_by g.L.Link.seen c.make_room.new.self) beats.More c.loop-e.invariant.beat
    (rw (← c.self.view_is) (TakesBeat-then _ _ (seen_by g.L.Link.seen c.make_room.new.self) beats.More (hears_front _ (stream_by g.L.Link.seen c.poll_ahead.new.self) c.in-Ready-Ok.front p) (subst (λ (x : ConnOf g.row.L.Denot). TakesBeat (seen_by g.L.Link.seen x) (seen_by g.L.Link.seen c.make_room.new.self) beats.More) same (with_room g.L.Link.seen c.takes_plainly.new.self c.make_room.new.self m.now m.spare)))) in
    omega (arith, c.take_heard.ensures.falls x, same_fuel g.L.Link.seen c.make_room.new.self c.hear_front-heard.new.self h.now, near.3.moves.fuel)

pub loop-e-preserved : goal.loop-e-preserved
loop-e-preserved g c =
    let p = rw c.in-Ready-Ok.field-0-is at c.in-Ready-Ok.ensures in
    let m = c.in_default.ensures in
    let h = c.hear_front-heard.ensures in
    let same = c.takes_plainly.ensures.no c.if-takes_plainly.false in
    let front = subst (λ (x : ConnOf g.row.L.Denot). IsHeardFront x.stream.held c.in-Ready-Ok.front) (sym same) p.5 in
    let sent = ap (λ (x : ConnOf g.row.L.Denot). x.stream.unsent) same ∙ p.3 in
    let takes = passed_in c.hear_front-heard.new.self c.accept-in-Ready-Ok.new.self c.in-Ready-Ok.front c.hear_front-heard.result (c.passes.ensures.more c.if-not-passes.false) (c.passes.ensures.plain c.if-not-passes.false) c.accept-in-Ready-Ok.ensures in
    record {
      beat = TakesBeat-then (seen_by g.L.Link.seen c.args.self.now) (seen_by g.L.Link.seen c.loop-e.self) (seen_by g.L.Link.seen c.accept-in-Ready-Ok.new.self) beats.More c.loop-e.invariant.beat
          (rw (← c.self.view_is) (TakesBeat-then _ _ (seen_by g.L.Link.seen c.accept-in-Ready-Ok.new.self) beats.More (hears_front _ (stream_by g.L.Link.seen c.poll_ahead.new.self) c.in-Ready-Ok.front p)
          (subst (λ (x : ConnOf g.row.L.Denot). TakesBeat (seen_by g.L.Link.seen x) (seen_by g.L.Link.seen c.accept-in-Ready-Ok.new.self) beats.More) same
          (ahead_in g.L.Link.seen c.takes_plainly.new.self c.make_room.new.self c.hear_front-heard.new.self c.accept-in-Ready-Ok.new.self c.in-Ready-Ok.front c.hear_front-heard.result beats.More front sent m.now m.spare m.ok h.now h.hears takes))));
      awaiting = passed_awaits c.hear_front-heard.new.self c.accept-in-Ready-Ok.new.self c.in-Ready-Ok.front (c.passes.ensures.own c.if-not-passes.false) c.accept-in-Ready-Ok.ensures;
    }

pub loop-e-preserved-then-takes_plainly : goal.loop-e-preserved-then-takes_plainly
loop-e-preserved-then-takes_plainly g c =
    let p = rw c.in-Ready-Ok.field-0-is at c.in-Ready-Ok.ensures in
    let row = c.takes_plainly.ensures.yes c.if-takes_plainly.true in
    record {
      beat = TakesBeat-then (seen_by g.L.Link.seen c.args.self.now) (seen_by g.L.Link.seen c.loop-e.self) (seen_by g.L.Link.seen c.accept.new.self) beats.More c.loop-e.invariant.beat
          (rw (← c.self.view_is) (TakesBeat-then _ _ (seen_by g.L.Link.seen c.accept.new.self) beats.More (hears_front _ (stream_by g.L.Link.seen c.poll_ahead.new.self) c.in-Ready-Ok.front p)
          (plainly_in g.L.Link.seen _ c.takes_plainly.new.self c.accept.new.self c.in-Ready-Ok.front p.5 p.3 row c.accept.ensures)));
      awaiting = passed_awaits c.takes_plainly.new.self c.accept.new.self c.in-Ready-Ok.front row.4.2 c.accept.ensures;
    }
