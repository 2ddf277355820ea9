use Rattle.std.proofs.Common.{refl, subst, sym, ap, ◌∙◌, [], ◌∷◌, ◌++◌}
use Rattle.pg_call.specs.declared.calling.Beat.{Beat}
use Rattle.pg_conn.specs.Connections.{ConnOf, resolved, seen_by}
use Rattle.pg_conn.specs.Turns.{Polled}
use Rattle.pg_conn.proofs.StateLaws.{hands_more, fails_looking}
use Rattle.pg_conn.proofs.TurnLaws.{ends_poll}
use Rattle.pg_conn.proofs.connection.PgConnection.poll_exchanges.Goals as goal

pub loop-told-init : goal.loop-told-init
loop-told-init g c = record { whole = c.requires; later = []; hands = refl }

pub loop-told-preserved : goal.loop-told-preserved
loop-told-preserved g c =
    let begun = seen_by g.L.Link.seen c.args.self.now in
    let at = seen_by g.L.Link.seen c.loop-told.self in
    let between = seen_by g.L.Link.seen c.poll_on.new.self in
    let told = c.in-HandsOn.told in
    let asks = c.in_default-hand_on.ensures.ok in
    record {
      whole = ap (λ (x : ConnOf _). x.broken) asks.1.2 ∙ c.in-HandsOn.ensures.whole told refl;
      later = c.loop-told.invariant.later ++ asks.0 ∷ [];
      hands = hands_more c.loop-told.invariant.later begun at (seen_by g.L.Link.seen c.hand_on.new.self) asks.0 c.loop-told.invariant.hands
          (told, between, c.in-HandsOn.ensures.polled, (asks.1.0, asks.1.1, ap (λ (x : ConnOf _). seen_by g.L.Link.seen x) asks.1.2));
    }

pub returns-in-Err : goal.returns-in-Err
returns-in-Err g c =
    let begun = seen_by g.L.Link.seen c.args.self.now in
    let at = seen_by g.L.Link.seen c.loop-told.self in
    let between = seen_by g.L.Link.seen c.poll_on.new.self in
    let told = c.in-HandsOn.told in
    let fails = c.in-Err.ensures.err in
    let unlooked = fails.1.1 in
    fails_looking begun at between (seen_by g.L.Link.seen fails.1.0) (seen_by g.L.Link.seen c.hand_on.new.self) c.loop-told.invariant.later told c.in-Err.e c.loop-told.invariant.hands c.in-HandsOn.ensures.polled
    (c.in-HandsOn.ensures.whole told refl) fails.0 (ap (λ (x : ConnOf _). seen_by g.L.Link.seen x) unlooked.0, unlooked.1, unlooked.2, unlooked.3) (ap (λ (x : ConnOf _). seen_by g.L.Link.seen x) fails.1.2)

pub returns-in_default : goal.returns-in_default
returns-in_default g c =
    let at = seen_by g.L.Link.seen c.loop-told.self in
    let between = seen_by g.L.Link.seen c.poll_on.new.self in
    record {
      later = c.loop-told.invariant.later;
      last = at;
      hands = c.loop-told.invariant.hands;
      polled = subst (λ (w : Beat). Polled (resolved at) between w) (sym c.answer_of.ensures) c.poll_on.ensures.polled;
    }

pub answer_of-requires : goal.answer_of-requires
answer_of-requires g c = ends_poll c.poll_on.result c.poll_on.ensures.ends c.in_default.not-HandsOn
