use Rattle.std.proofs.Common.{ap, sym, subst, ◌∙◌}
use Rattle.pg_listening.specs.Leaving.{HeldIs}
use Rattle.pg_listening.proofs.ReleasingLaws.{ended_named, gave_back, gave_some}
use Rattle.pg_listening.proofs.hearing.Hearing.into_released.Goals as goal

pub release-released-requires : goal.release-released-requires
release-released-requires g c =
    let handed = g.B.ConnectionSource.handed in
    let named = ended_named g.B.ConnectionSource.handed g.B.Held.PgExecutor.conn g.B.Held.PgExecutor.with_conn g.met.B.ConnectionSource.handed_with c.self.inside.name c.self.inside.listening.conn c.into_conn-held.result c.into_conn-held.ensures c.self.invariant.held in
    subst (λ n. HeldIs handed n c.into_conn-held.result) ((rw (← c.self.view_is) at c.requires.mine) ∙ sym (ap (λ x. x.name) c.give_up.ensures.source)) named

pub returns-clause-some : goal.returns-clause-some
returns-clause-some g c = rw (← c.self.view_is) (gave_some g.B.ConnectionSource.handed g.B.Held.PgExecutor.conn g.B.Held.PgExecutor.with_conn _ c.self.inside.listening.conn c.into_conn-held.result _ _ c.release-released.result c.into_conn-held.ensures c.release-released.ensures.releases)

pub returns-clause-releases : goal.returns-clause-releases
returns-clause-releases g c = rw (← c.self.view_is) (gave_back g.B.ConnectionSource.handed g.B.Held.PgExecutor.conn g.B.Held.PgExecutor.with_conn _ c.self.inside.listening.conn c.into_conn-held.result _ _ c.release-released.result c.into_conn-held.ensures (rw (ap (λ x. x.most) c.give_up.ensures.source) at c.release-released.ensures.releases))
