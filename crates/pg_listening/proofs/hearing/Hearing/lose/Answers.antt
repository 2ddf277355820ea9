use Rattle.std.proofs.Common.{◌≡◌, ◌++◌, ◌∷◌, ◌∙◌, [], ap, option_map, refl, subst, sym}
use Rattle.pg_listening.specs.Leaving.{HeldIs}
use Rattle.pg_listening.specs.Listening.{buffers_by, stream_in}
use Rattle.pg_listening.proofs.BufferingLaws.{hears_lose, loses_held}
use Rattle.pg_listening.proofs.FailingLaws.{refused_memory}
use Rattle.pg_listening.proofs.HearingLaws.{hears_without}
use Rattle.pg_listening.proofs.NamingLaws.{never, none_named, not_mapped, some_mapped, stays_named, stays_some}
use Rattle.pg_listening.proofs.hearing.Hearing.lose.Goals as goal

pub invariant_of-self : goal.invariant_of-self
invariant_of-self g c = record {
  held = stays_named g.B.ConnectionSource.handed g.B.Held.PgExecutor.conn g.B.Held.PgExecutor.with_conn g.met.B.ConnectionSource.handed_with c.self.inside.name c.self.inside.listening.conn c.save.new.self.conn c.save.ensures.holder c.self.invariant.held;
  startup = c.self.invariant.startup;
  ready = λ e. never e;
  again = λ e. never e;
}

pub returns-in-Err : goal.returns-in-Err
returns-in-Err g c = record {
  hears = rw (← c.self.view_is) (hears_without g.B.L.Link.seen _ _ [] refl refl refl refl c.save.ensures.hears);
  channels = rw (← c.self.view_is) c.save.ensures.channels;
  source = refl;
  loss = rw (← c.self.view_is) refl;
  link = tt;
  lost = rw (← c.self.view_is) refl;
  startup = rw (← c.self.view_is) refl;
  ready = refl;
  memory = refused_memory c.in-Err.e _ refl c.in-Err.ensures.err;
}

pub invariant_of-self-in-Err-reserve : goal.invariant_of-self-in-Err-reserve
invariant_of-self-in-Err-reserve g c = record {
  held = stays_named g.B.ConnectionSource.handed g.B.Held.PgExecutor.conn g.B.Held.PgExecutor.with_conn g.met.B.ConnectionSource.handed_with c.self.inside.name c.self.inside.listening.conn c.save.new.self.conn c.save.ensures.holder c.self.invariant.held;
  startup = c.self.invariant.startup;
  ready = λ e. never e;
  again = λ e. never e;
}

pub returns-in-Err-reserve : goal.returns-in-Err-reserve
returns-in-Err-reserve g c = record {
  hears = rw (← c.self.view_is) (hears_without g.B.L.Link.seen _ _ [] c.reserve.ensures.items refl refl refl c.save.ensures.hears);
  channels = rw (← c.self.view_is) c.save.ensures.channels;
  source = refl;
  loss = rw (← c.self.view_is) refl;
  link = tt;
  lost = rw (← c.self.view_is) c.reserve.ensures.items;
  startup = rw (← c.self.view_is) refl;
  ready = refl;
  memory = refl;
}

pub close-link-requires : goal.close-link-requires
close-link-requires g c =
    let handed = g.B.ConnectionSource.handed in
    let named = ap (λ h. h.name) c.self.view_is ∙ c.requires.mine in
    let saved = stays_named g.B.ConnectionSource.handed g.B.Held.PgExecutor.conn g.B.Held.PgExecutor.with_conn g.met.B.ConnectionSource.handed_with c.self.inside.name c.self.inside.listening.conn c.save.new.self.conn c.save.ensures.holder c.self.invariant.held in
    subst (λ n. HeldIs handed n c.let_go-held.result) named (subst (λ o. HeldIs handed c.self.inside.name o) (sym c.let_go-held.ensures.conn) saved)

pub unreachable-requires : goal.unreachable-requires
unreachable-requires g c =
    let conn = g.B.Held.PgExecutor.conn in
    let held = stays_some conn g.B.Held.PgExecutor.with_conn c.self.inside.listening.conn c.save.new.self.conn c.save.ensures.holder (rw (← c.self.view_is) at c.requires.held) in
    not_mapped (λ h. (conn h).stream.link) c.save.new.self.conn held (ap (λ o. option_map (λ h. (conn h).stream.link) o) (sym c.let_go-held.ensures.conn) ∙ sym c.close-link.ensures.link ∙ c.in-None.is)

pub invariant_of-self-in-Some : goal.invariant_of-self-in-Some
invariant_of-self-in-Some g c = record {
  held = none_named g.B.ConnectionSource.handed c.self.inside.name c.let_go-held.new.self.conn (ap (λ l. l.conn) c.let_go-held.ensures.rest);
  startup = c.self.invariant.startup;
  ready = λ e. never e;
  again = λ e. never e;
}

pub returns : goal.returns
returns g c =
    let seen = g.B.L.Link.seen in
    let conn = g.B.Held.PgExecutor.conn in
    let saved = c.save.new.self in
    let rest = c.let_go-held.ensures.rest in
    let link = c.in-Some.link in
    let found = some_mapped (λ h. (conn h).stream.link) saved.conn link (ap (λ o. option_map (λ h. (conn h).stream.link) o) (sym c.let_go-held.ensures.conn) ∙ sym c.close-link.ensures.link ∙ c.in-Some.is) in
    let lost : c.push_reserved.new.self.items ≡ c.self.inside.lost.items ++ link ∷ [] = c.push_reserved.ensures.items ∙ ap (λ l. l ++ link ∷ []) c.reserve.ensures.items in
    record {
      hears = rw (← c.self.view_is) (hears_lose seen conn _ _ (buffers_by conn seen saved) saved.conn found.0 link c.save.ensures.hears refl found.1 c.in-Ok.ensures.saved found.2 lost refl refl refl (ap (λ l. l.earlier) rest) (ap (λ l. stream_in conn seen l.conn) rest));
      channels = rw (← c.self.view_is) (ap (λ l. l.channels) rest ∙ c.save.ensures.channels);
      source = c.close-link.ensures.source;
      loss = rw (← c.self.view_is) refl;
      link = rw (← c.self.view_is) (loses_held conn c.self.inside.listening.conn saved.conn found.0 c.self.inside.lost.items c.push_reserved.new.self.items link (rw (← c.self.view_is) at c.requires.held) c.save.ensures.same found.1 found.2 lost);
      lost = tt;
      startup = rw (← c.self.view_is) refl;
      ready = refl;
      memory = tt;
    }
