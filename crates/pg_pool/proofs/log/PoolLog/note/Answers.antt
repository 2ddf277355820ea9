use Rattle.std.proofs.Common.{◌≡◌, ◌<◌, ◌≤◌, ◌-◌, ◌∙◌, true, length, sym, subst, ap, rules, arith}
use Rattle.std.specs.Vec.{vec_len, vec_capacity}
use Rattle.std.specs.VecDeque.{deque_capacity}
use Rattle.pg_pool.specs.PoolHistory.{PoolState, may, after}
use Rattle.pg_pool.specs.PoolLogs.{LogSeen, UnlessReturn, HasPlaces, log_has_places, state_of_ids}
use Rattle.pg_pool.proofs.HistoryLaws.{fits_more, returns_more}
use Rattle.pg_pool.proofs.log.PoolLog.note.Goals as goal

pub invariant_of-self : goal.invariant_of-self
invariant_of-self c =
    let f = c.self.invariant.0 in
    let s = c.self.inside in
    let allowed : may s.most (state_of_ids s.ids) c.args.entry.act ≡ true = search rules in
    let more = fits_more _ _ _ c.args.entry f allowed in
    let seen = subst (λ (l : LogSeen). UnlessReturn c.args.entry.act (log_has_places l)) (sym c.self.view_is) c.requires.room in
    let room = subst (λ (p : PoolState). UnlessReturn c.args.entry.act (HasPlaces p (vec_capacity s.entries - vec_len s.entries) (deque_capacity s.ids.idle) (vec_capacity s.ids.out))) f.state seen in
    let back = returns_more s.most (state_of_ids s.ids) c.args.entry.act (vec_capacity s.entries - vec_len s.entries) (deque_capacity s.ids.idle) (vec_capacity s.ids.out) c.self.invariant.1 allowed room in
    let len = c.push_reserved.ensures.len in
    let capacity = c.push_reserved.ensures.capacity in (
      rw (c.push_reserved.ensures.items, c.apply.ensures.after) more,
      rw (c.apply.ensures.after, c.apply.ensures.idle) (record { entries = omega (arith, back.0); ids = back.1 }),
    )

pub returns-clause-state : goal.returns-clause-state
returns-clause-state c =
    let f = c.self.invariant.0 in
    let allowed : may c.self.inside.most (state_of_ids c.self.inside.ids) c.args.entry.act ≡ true = search rules in
    let more = fits_more _ _ _ c.args.entry f allowed in
    rw (← c.self.view_is) (rw c.push_reserved.ensures.items (more.state ∙ sym (ap (λ (s : PoolState). after s c.args.entry.act) f.state)))
