use Rattle.std.proofs.Common.{◌≡◌, ◌++◌, ◌∙◌, [], ap, inr, refl, rules, subst, sym, option_to_list}
use Rattle.std.proofs.Math.Nat.{le_refl}
use Rattle.pg_listening.specs.Listening.{stream_in}
use Rattle.pg_listening.proofs.BufferLaws.{hears_none}
use Rattle.pg_listening.specs.Leaving.{IsFresh}
use Rattle.pg_listening.proofs.BufferingLaws.{hears_behind, hears_kept}
use Rattle.pg_listening.proofs.FailingLaws.{memory_fails, start_fails}
use Rattle.pg_listening.proofs.HearingLaws.{hears_without}
use Rattle.pg_listening.proofs.WaitingLaws.{waits_start}
use Rattle.pg_listening.proofs.hearing.Hearing.poll_start_up.Goals as goal

pub returns-in-Err : goal.returns-in-Err
returns-in-Err g c = record {
  hears = rw (← c.self.view_is) (hears_without g.B.L.Link.seen _ _ [] c.reserve.ensures.items refl refl refl (hears_none _));
  channels = rw (← c.self.view_is) refl;
  source = refl;
  loss = rw (← c.self.view_is) refl;
  left = le_refl _;
  lost = tt;
  held = tt;
  startup = tt;
  ready = tt;
  causes = rw (← c.self.view_is) (memory_fails g.B.L.Link.seen g.B.Held.PgExecutor.conn g.B.Held.PgExecutor.with_conn g.B.ConnectionSource.filling _ _ _ _ _ refl);
}

pub returns-in-Pending : goal.returns-in-Pending
returns-in-Pending g c =
    let told = c.in-Pending.ensures in
    record {
      hears = rw (← c.self.view_is) (hears_without g.B.L.Link.seen _ _ [] c.reserve.ensures.items refl refl refl (hears_none _));
      channels = rw (← c.self.view_is) refl;
      source = told.source;
      loss = rw (← c.self.view_is) refl;
      left = told.left;
      lost = tt;
      held = tt;
      startup = tt;
      ready = tt;
      causes = rw (← c.self.view_is) (waits_start g.B.L.Link.seen g.B.Held.PgExecutor.conn g.B.ConnectionSource.filling _ _ _ _ told.polls);
    }

pub returns-in-Ready-Err : goal.returns-in-Ready-Err
returns-in-Ready-Err g c =
    let seen = g.B.L.Link.seen in
    let told = c.in-Ready-Err.ensures in
    let fills = rw c.in-Ready-Err.field-0-is at told.fills in
    let polls = rw c.in-Ready-Err.field-0-is at told.polls in
    let none = ap (λ h. stream_in g.B.Held.PgExecutor.conn seen h.listening.conn) c.self.view_is ∙ ap (λ o. stream_in g.B.Held.PgExecutor.conn seen o) c.requires.none in
    let lost : c.keep_lost.new.lost.items ≡ c.self.inside.lost.items ++ option_to_list c.in-Ready-Err.link = search rules in
    record {
      hears = rw (← c.self.view_is) (hears_kept g.B.L.Link.seen _ _ _ none refl lost refl refl refl);
      channels = rw (← c.self.view_is) refl;
      source = told.source;
      loss = rw (← c.self.view_is) refl;
      left = told.left;
      lost = tt;
      held = tt;
      startup = tt;
      ready = tt;
      causes = rw (← c.self.view_is) (start_fails g.B.L.Link.seen g.B.Held.PgExecutor.conn g.B.Held.PgExecutor.with_conn g.B.ConnectionSource.filling _ _ _ _ c.in-Ready-Err.e c.in-Ready-Err.link fills.1 polls lost);
    }

pub returns-in-Ready-Ok : goal.returns-in-Ready-Ok
returns-in-Ready-Ok g c =
    let seen = g.B.L.Link.seen in
    let filling = g.B.ConnectionSource.filling in
    let first = c.in-Ready-Ok.ensures in
    let told = c.hold.ensures in
    let fills = rw c.in-Ready-Ok.field-0-is at first.fills in
    record {
      hears = rw (← c.self.view_is) (hears_behind g.B.L.Link.seen _ _ _ [] (hears_without g.B.L.Link.seen _ _ [] c.reserve.ensures.items refl refl refl (hears_none _)) told.hears);
      channels = rw (← c.self.view_is) told.channels;
      source = first.source;
      loss = rw (← c.self.view_is) told.loss;
      left = first.left;
      lost = rw (← c.self.view_is) (told.lost ∙ c.reserve.ensures.items);
      held = told.held;
      startup = inr (subst (λ s. IsFresh seen filling s) (sym (told.startup ∙ fills.0)) tt);
      ready = told.ready;
      causes = tt;
    }
