use Rattle.std.proofs.Common.{◌≡◌, ◌++◌, ◌∙◌, None, [], ap, false, inl, inr, is_some, option_to_list, refl, rules, subst, sym, true}
use Rattle.std.proofs.Math.Nat.{le_refl}
use Rattle.pg_listening.specs.Hearing.{HearsBy}
use Rattle.pg_listening.specs.Leaving.{Fills, IsFresh}
use Rattle.pg_listening.specs.Listening.{stream_in}
use Rattle.pg_listening.specs.Waiting.{StartsFrom}
use Rattle.pg_listening.proofs.BufferLaws.{hears_none}
use Rattle.pg_listening.proofs.BufferingLaws.{at_once, hears_behind, hears_kept, on_ready}
use Rattle.pg_listening.proofs.FailingLaws.{caused_beside, caused_on, memory_fails, not_found, unfound}
use Rattle.pg_listening.proofs.HearingLaws.{hears_nothing, hears_without}
use Rattle.pg_listening.proofs.PollLaws.{both, starts_behind}
use Rattle.pg_listening.proofs.SourceLaws.{dialled, dialled_then, faults_stay}
use Rattle.pg_listening.proofs.hearing.Hearing.poll_held.Goals as goal

pub poll_start_up-requires : goal.poll_start_up-requires
poll_start_up-requires g c = record { none = search rules; starts = search rules; mine = c.requires.mine; left = c.requires.left }

pub returns-then-is_some : goal.returns-then-is_some
returns-then-is_some g c =
    let told = c.poll_start_up.ensures in
    let answer = c.poll_start_up.result in
    let b = c.poll_start_up.new.self in
    record {
      hears = told.hears;
      channels = told.channels;
      source = dialled (g.B.ConnectionSource.now c.args.source.now) (g.B.ConnectionSource.now c.poll_start_up.new.source) told.source;
      loss = told.loss;
      left = told.left;
      lost = told.lost;
      held = told.held;
      startup = told.startup;
      ready = on_ready answer (b.is_ready ≡ false) (b.is_ready ≡ true → b ≡ c.args.self.now) (λ n r. both b.is_ready n r) told.ready;
      causes = caused_beside g.B.L.Link.seen g.B.Held.PgExecutor.conn g.B.Held.PgExecutor.with_conn g.B.ConnectionSource.filling _ _ _ _ _ answer (faults_stay (g.B.ConnectionSource.now c.args.source.now) (g.B.ConnectionSource.now c.poll_start_up.new.source) told.source) told.causes;
    }

pub invariant_of-self : goal.invariant_of-self
invariant_of-self g c = record { held = c.self.invariant.held; startup = c.self.invariant.startup; ready = c.self.invariant.ready; again = c.self.invariant.again }

pub invariant_of-self-in-Ok-Held : goal.invariant_of-self-in-Ok-Held
invariant_of-self-in-Ok-Held g c = record { held = c.self.invariant.held; startup = c.self.invariant.startup; ready = c.self.invariant.ready; again = c.self.invariant.again }

pub invariant_of-self-in-Ok-Starting : goal.invariant_of-self-in-Ok-Starting
invariant_of-self-in-Ok-Starting g c = record { held = c.self.invariant.held; startup = c.self.invariant.startup; ready = c.self.invariant.ready; again = c.self.invariant.again }

pub invariant_of-self-in-Err-find : goal.invariant_of-self-in-Err-find
invariant_of-self-in-Err-find g c = record { held = c.self.invariant.held; startup = c.self.invariant.startup; ready = c.self.invariant.ready; again = c.self.invariant.again }

pub returns-in-Err : goal.returns-in-Err
returns-in-Err g c = record {
  hears = rw (← c.self.view_is) (hears_without g.B.L.Link.seen _ _ [] c.reserve.ensures.items refl refl refl (hears_none _));
  channels = rw (← c.self.view_is) refl;
  source = refl;
  loss = rw (← c.self.view_is) refl;
  left = le_refl _;
  lost = tt;
  held = tt;
  startup = tt;
  ready = tt;
  causes = rw (← c.self.view_is) (inl (memory_fails g.B.L.Link.seen g.B.Held.PgExecutor.conn g.B.Held.PgExecutor.with_conn g.B.ConnectionSource.filling _ _ _ _ _ refl));
}

pub hold-requires : goal.hold-requires
hold-requires g c =
    let none : c.args.self.now.listening.conn ≡ None = search rules in
    let found = rw c.in-Ok-Held.field-0-is at c.in-Ok-Held.ensures.found in
    record { none = ap (λ h. h.listening.conn) c.self.view_is ∙ none; mine = found ∙ sym (ap (λ h. h.name) c.self.view_is ∙ c.requires.mine) }

pub returns-in-Ok-Held : goal.returns-in-Ok-Held
returns-in-Ok-Held g c =
    let found = c.in-Ok-Held.ensures in
    let told = c.hold.ensures in
    record {
      hears = rw (← c.self.view_is) (hears_behind g.B.L.Link.seen _ _ _ [] (hears_without g.B.L.Link.seen _ _ [] c.reserve.ensures.items refl refl refl (hears_none _)) told.hears);
      channels = rw (← c.self.view_is) told.channels;
      source = found.source;
      loss = rw (← c.self.view_is) told.loss;
      left = le_refl _;
      lost = rw (← c.self.view_is) (told.lost ∙ c.reserve.ensures.items);
      held = told.held;
      startup = rw (← c.self.view_is) (inl told.startup);
      ready = λ r. both c.hold.new.self.is_ready told.ready r;
      causes = found.faults;
    }

pub start-requires : goal.start-requires
start-requires g c =
    let none : c.args.self.now.startup ≡ None = search rules in
    let found = rw c.in-Ok-Starting.field-0-is at c.in-Ok-Starting.ensures.found in
    record { none = ap (λ h. h.startup) c.self.view_is ∙ none; fills = subst (λ n. Fills g.B.L.Link.seen g.B.ConnectionSource.filling n c.in-Ok-Starting.state) (sym (ap (λ h. h.name) c.self.view_is ∙ c.requires.mine)) found.0 }

pub poll_start_up-requires-in-Ok-Starting : goal.poll_start_up-requires-in-Ok-Starting
poll_start_up-requires-in-Ok-Starting g c =
    let told = c.start.ensures in
    let none : c.args.self.now.listening.conn ≡ None = search rules in
    record {
      none = ap (λ h. h.listening.conn) told ∙ ap (λ h. h.listening.conn) c.self.view_is ∙ none;
      starts = ap (λ h. is_some h.startup) told;
      mine = ap (λ h. h.name) told ∙ ap (λ h. h.name) c.self.view_is ∙ c.requires.mine ∙ sym (ap (λ s. s.name) c.in-Ok-Starting.ensures.source);
      left = c.requires.left;
    }

pub returns-in-Ok-Starting : goal.returns-in-Ok-Starting
returns-in-Ok-Starting g c =
    let seen = g.B.L.Link.seen in
    let conn = g.B.Held.PgExecutor.conn in
    let with_conn = g.B.Held.PgExecutor.with_conn in
    let filling = g.B.ConnectionSource.filling in
    let a = c.args.self.now in
    let m = c.start.new.self in
    let b = c.poll_start_up-in-Ok-Starting.new.self in
    let s = g.B.ConnectionSource.now c.args.source.now in
    let u = g.B.ConnectionSource.now c.find.new.self in
    let t = g.B.ConnectionSource.now c.poll_start_up-in-Ok-Starting.new.source in
    let answer = c.poll_start_up-in-Ok-Starting.result in
    let found = c.in-Ok-Starting.ensures in
    let fresh = rw c.in-Ok-Starting.field-0-is at found.found in
    let begun = c.start.ensures in
    let told = c.poll_start_up-in-Ok-Starting.ensures in
    let heard : HearsBy seen conn a m [] = rw (← c.self.view_is) (rw begun (hears_without seen _ _ [] c.reserve.ensures.items refl refl refl (hears_none _))) in
    let lost : m.lost ≡ a.lost = rw (← c.self.view_is) (ap (λ h. h.lost) begun ∙ c.reserve.ensures.items) in
    let startup : StartsFrom seen filling a.startup m.startup = inr (subst (λ s. IsFresh seen filling s) (sym (ap (λ h. h.startup) begun)) fresh.1) in
    record {
      hears = hears_behind seen _ _ _ _ heard told.hears;
      channels = told.channels ∙ ap (λ h. h.listening.channels) begun ∙ ap (λ h. h.listening.channels) c.self.view_is;
      source = dialled_then s u t found.source (dialled u t told.source);
      loss = told.loss ∙ ap (λ h. h.is_lost) begun ∙ ap (λ h. h.is_lost) c.self.view_is;
      left = told.left;
      lost = at_once answer _ _ _ lost told.lost;
      held = told.held;
      startup = starts_behind seen filling _ _ _ answer startup told.startup;
      ready = on_ready answer (b.is_ready ≡ false) (b.is_ready ≡ true → b ≡ a) (λ n r. both b.is_ready n r) told.ready;
      causes = caused_beside seen conn with_conn filling _ _ _ _ _ answer (faults_stay u t told.source ∙ found.faults) (caused_on seen conn with_conn filling _ _ _ _ _ _ answer heard startup (le_refl _) told.causes);
    }

pub returns-in-Err-find : goal.returns-in-Err-find
returns-in-Err-find g c =
    let seen = g.B.L.Link.seen in
    let conn = g.B.Held.PgExecutor.conn in
    let held : c.args.self.now.listening.conn ≡ None = search rules in
    let none = ap (λ h. stream_in conn seen h.listening.conn) c.self.view_is ∙ ap (λ o. stream_in conn seen o) held in
    let lost : c.keep_lost.new.lost.items ≡ c.self.inside.lost.items ++ option_to_list c.in-Err-find.link = c.keep_lost.ensures ∙ ap (λ l. l ++ option_to_list c.in-Err-find.link) c.reserve.ensures.items in
    record {
      hears = rw (← c.self.view_is) (hears_kept seen _ _ _ none refl lost refl refl refl);
      channels = rw (← c.self.view_is) refl;
      source = c.in-Err-find.ensures.source;
      loss = rw (← c.self.view_is) refl;
      left = le_refl _;
      lost = tt;
      held = tt;
      startup = tt;
      ready = tt;
      causes = rw (← c.self.view_is) (unfound seen conn g.B.Held.PgExecutor.with_conn g.B.ConnectionSource.filling _ _ _ _ _ c.in-Err-find.e (not_found seen conn _ _ _ c.in-Err-find.e c.in-Err-find.link lost c.in-Err-find.ensures.none));
    }

pub returns-then-is_held : goal.returns-then-is_held
returns-then-is_held g c = record {
  hears = hears_nothing g.B.L.Link.seen _ _ refl;
  channels = refl;
  source = refl;
  loss = refl;
  left = le_refl _;
  lost = refl;
  held = search rules;
  startup = inl refl;
  ready = λ _. refl;
  causes = refl;
}
