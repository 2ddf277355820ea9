use Rattle.std.proofs.Common.{◌≡◌, ◌∙◌, Some, ap}
use Rattle.pg_listening.proofs.ReleasingLaws.{closes}
use Rattle.pg_listening.proofs.pool_source.PoolSourceConnectionSource.close.Goals as goal

pub returns : goal.returns
returns g c =
    let told = c.release.ensures in
    let marked = c.close_on_drop.ensures in
    let same : c.close_on_drop.new.self.id ≡ c.in-Some.conn.id = ap (λ p. p.id) marked in
    let back = closes _ _ _ c.close_on_drop.new.self c.release.result (ap (λ p. p.close) marked) told.releases in
    record {
      gone = told.gone;
      link = rw (c.in-Some.is, c.link_back.ensures) (back.0 ∙ ap (λ p. Some p.conn.stream.link) marked);
      drops = rw c.in-Some.is (rw (← same) back.1);
      source = told.source;
    }
