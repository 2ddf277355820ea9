use Rattle.std.proofs.Common.{ap, refl, option_to_list}
use Rattle.pg_listening.proofs.HearingLaws.{hears_without}
use Rattle.pg_listening.proofs.hearing.Hearing.next_buffered.Goals as goal

pub returns : goal.returns
returns g c =
    let told = c.next_buffered.ensures in
    let h = c.self.inside in
    record {
      hears = rw (← c.self.view_is) (hears_without g.B.L.Link.seen _ _ (option_to_list c.next_buffered.result) refl refl refl refl told.hears);
      channels = rw (← c.self.view_is) told.channels;
      oldest = rw (← c.self.view_is) told.oldest;
      same = rw (← c.self.view_is) (λ e. ap (λ l. record { name = h.name; listening = l; asked = h.asked; startup = h.startup; lost = h.lost.items; is_ready = h.is_ready; is_again = h.is_again; is_lost = h.is_lost; is_eager = h.is_eager; ignores_close = h.ignores_close }) (told.none e));
      empty = rw (← c.self.view_is) told.empty;
      loss = rw (← c.self.view_is) refl;
      startup = rw (← c.self.view_is) refl;
    }
