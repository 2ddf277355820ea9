use Rattle.std.proofs.Common.{◌≡◌, ◌∙◌, length, refl, ap, arith}
use Rattle.pg_pool.specs.PoolHistory.{PoolState, without}
use Rattle.pg_pool.specs.PoolLogs.{log_state}
use Rattle.pg_pool.proofs.IdLaws.{no_longer}
use Rattle.pg_pool.proofs.SectionLaws.{got_none}
use Rattle.pg_pool.proofs.sections.PoolCore.give_back.Goals as goal

pub invariant_of-self : goal.invariant_of-self
invariant_of-self g c =
    let out : length (log_state c.noted.new.log).out ≡ length (without c.args.ticket.id (log_state c.self.inside.log).out) = ap (λ (s : PoolState). length s.out) c.noted.ensures.state in (
      got_none g.C.Pooled.clean c.self.inside.log c.self.inside.log c.noted.new.log _ _ _ _ c.self.invariant.0 refl c.noted.ensures.history c.noted.ensures.state c.noted.ensures.total (λ s. refl),
      omega (arith, out, no_longer c.args.ticket.id (log_state c.self.inside.log).out, c.self.invariant.1),
      c.noted.ensures.most ∙ c.self.invariant.2,
    )
