use Rattle.std.proofs.Common.{◌≡◌, ◌∙◌, true, length, refl, ap, rules, arith}
use Rattle.pg_pool.specs.PoolHistory.{PoolState, has, without}
use Rattle.pg_pool.specs.PoolLogs.{log_state}
use Rattle.pg_pool.proofs.IdLaws.{shorter, no_longer}
use Rattle.pg_pool.proofs.SectionLaws.{stays, got_none}
use Rattle.pg_pool.proofs.sections.PoolCore.release.Goals as goal

pub invariant_of-self : goal.invariant_of-self
invariant_of-self g c =
    let out : length (log_state c.noted.new.log).out ≡ length (without c.args.held.id (log_state c.self.inside.log).out) = ap (λ (s : PoolState). length s.out) c.noted.ensures.state in
    let held : has c.args.held.id (log_state c.self.inside.log).out ≡ true = search rules in
    let clean : g.C.Pooled.clean c.args.held.conn ≡ true = search rules in (
      stays g.C.Pooled.clean c.self.inside.log c.self.inside.log c.noted.new.log _ _ _ _ c.self.invariant.0 refl c.noted.ensures.history c.noted.ensures.state c.noted.ensures.total _ c.args.held.conn _ refl clean c.push_back_reserved.ensures.items,
      omega (arith, out, shorter c.args.held.id (log_state c.self.inside.log).out held, c.self.invariant.1, c.push_back_reserved.ensures.len, c.push_back_reserved.ensures.capacity),
      c.noted.ensures.most ∙ c.self.invariant.2,
    )

pub invariant_of-self-else-is_kept : goal.invariant_of-self-else-is_kept
invariant_of-self-else-is_kept g c =
    let out : length (log_state c.noted-else-is_kept.new.log).out ≡ length (without c.args.held.id (log_state c.self.inside.log).out) = ap (λ (s : PoolState). length s.out) c.noted-else-is_kept.ensures.state in (
      got_none g.C.Pooled.clean c.self.inside.log c.self.inside.log c.noted-else-is_kept.new.log _ _ _ _ c.self.invariant.0 refl c.noted-else-is_kept.ensures.history c.noted-else-is_kept.ensures.state c.noted-else-is_kept.ensures.total (λ s. refl),
      omega (arith, out, no_longer c.args.held.id (log_state c.self.inside.log).out, c.self.invariant.1),
      c.noted-else-is_kept.ensures.most ∙ c.self.invariant.2,
    )
