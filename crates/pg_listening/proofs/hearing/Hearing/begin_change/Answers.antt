use Rattle.std.proofs.Common.{◌≡◌, ◌∙◌, ap, false, rules, sym, true}
use Rattle.pg_listening.specs.Hearing.{channels_at_ok, heard_of, is_changing, is_stored_first}
use Rattle.pg_listening.proofs.ChangingLaws.{asked_later, stored_now}
use Rattle.pg_listening.proofs.HearingLaws.{hears_nothing}
use Rattle.pg_listening.proofs.hearing.Hearing.begin_change.Goals as goal

pub returns-then-not-is_stored_first : goal.returns-then-not-is_stored_first
returns-then-not-is_stored_first g c =
    let is = c.ask.ensures in
    let later : is_stored_first c.args.change ≡ false = search rules in
    let told = asked_later c.args.change c.args.self.now.listening.channels later in
    record {
      hears = hears_nothing g.B.L.Link.seen _ _ (ap (λ h. heard_of g.B.L.Link.seen g.B.Held.PgExecutor.conn h) is);
      channels = ap (λ h. h.listening.channels) is ∙ sym told.0;
      next = ap (λ h. channels_at_ok h) is ∙ told.1;
      changing = ap (λ h. is_changing h) is;
      err = tt;
    }

pub returns-in-Ok : goal.returns-in-Ok
returns-in-Ok g c =
    let is = c.ask-in-Ok.ensures in
    let stored = c.in-Ok.ensures.ok in
    let first : is_stored_first c.args.change ≡ true = search rules in
    let told = stored_now c.args.change c.args.self.now.listening.channels first in
    let channels = ap (λ h. h.listening.channels) stored in
    record {
      hears = hears_nothing g.B.L.Link.seen _ _ (ap (λ h. heard_of g.B.L.Link.seen g.B.Held.PgExecutor.conn h) is ∙ ap (λ h. heard_of g.B.L.Link.seen g.B.Held.PgExecutor.conn h) stored);
      channels = ap (λ h. h.listening.channels) is ∙ channels ∙ told.0;
      next = ap (λ h. channels_at_ok h) is ∙ told.1 c.make_unasked.new.self.listening.channels ∙ channels;
      changing = ap (λ h. is_changing h) is;
      err = tt;
    }

pub returns-in-Err : goal.returns-in-Err
returns-in-Err g c =
    let told = c.in-Err.ensures.err in
    record { hears = hears_nothing g.B.L.Link.seen _ _ (ap (λ h. heard_of g.B.L.Link.seen g.B.Held.PgExecutor.conn h) told.0); channels = tt; next = tt; changing = tt; err = told }
