-- There is always room for the release of a lock that is held, so it is queued.
use Rattle.std.proofs.Common.{◌≡◌, ℕ, ◌-◌, ◌^◌, ◌*◌, ◌≤◌, ◌<◌, Bool, true, false, ◌&&◌, cond, nat_eq, leb, ne_eqb, List, [], ◌∷◌, length, Some, refl, ap, ◌∙◌, arith}
use Rattle.pg_call.specs.Requests.{spelled, copy_fail}
use Rattle.pg_conn.specs.Connections.{ConnSeen, cleaned, copies, counted_anew, ended, idle, left, owned, queued_group, runs, unfed, with_copy_fail, with_group}
use Rattle.pg_conn.specs.Holding.{IsRelease, gave_up, held_fewer, let_go, release, took_held}
use Rattle.pg_conn.specs.Turns.{HasAllRoom}
use Rattle.pg_conn.proofs.CleanupLaws.{all_left, has_room, held_cleaned}
use Rattle.pg_conn.proofs.HoldingLaws.{release_short}

held_unfed : (c : ConnSeen) → (unfed false c).held ≡ c.held
held_unfed c = by (copies c.change c.groups && leb (length (spelled (copy_fail ∷ []))) c.stream.spare)
  where
    by : (b : Bool) → (cond b (with_copy_fail c) (owned c)).held ≡ c.held
    by true = refl
    by false = refl

held_left : (c : ConnSeen) → (left c).held ≡ c.held
held_left c = by (runs c.call)
  where
    by : (b : Bool) → (cond b (idle (cleaned (unfed false c))) c).held ≡ c.held
    by true = held_cleaned (unfed false c) ∙ held_unfed c
    by false = refl

not_none : (n : ℕ) → 0 < n → nat_eq n 0 ≡ false
not_none n l = ne_eqb n 0 (λ z. absurd (omega (arith, z, l)))

lets_go : (text : List ℕ) (d : ConnSeen) → IsRelease text → 0 < d.held → 64 * d.held ≤ d.stream.spare → d.ledger.owed < 2 ^ 64 - 1 → let_go (Some text) d ≡ with_group (spelled (release text)) (held_fewer d)
lets_go text d r some room owed =
    let f : List ℕ = spelled (release text) in
    let short : length f ≤ d.stream.spare = omega (arith, release_short text r.0, some, room) in
    ap (λ (b : Bool). cond b d (queued_group f (held_fewer d))) (not_none d.held some) ∙ ap (λ (b : Bool). cond b (with_group f (held_fewer d)) (held_fewer d)) (has_room f (held_fewer d) short owed)

pub gives_up : (text : List ℕ) (c : ConnSeen) → IsRelease text → HasAllRoom c → 0 < c.held → (left c).ledger.owed < 2 ^ 64 - 1 → gave_up (Some text) c ≡ with_group (spelled (release text)) (held_fewer (ended (left c)))
gives_up text c r h some owed =
    let k : HasAllRoom (left c) = all_left c h in
    lets_go text (ended (left c)) r (omega (arith, some, held_left c)) (omega (arith, k)) owed

pub takes : (text : List ℕ) (c : ConnSeen) → IsRelease text → HasAllRoom c → 0 < c.held → (left c).ledger.owed < 2 ^ 64 - 1 → took_held (Some text) c ≡ with_group (spelled (release text)) (held_fewer (ended (counted_anew (left c))))
takes text c r h some owed =
    let k : HasAllRoom (left c) = all_left c h in
    ap (λ (b : Bool). cond b c (let_go (Some text) (ended (counted_anew (left c))))) (not_none c.held some) ∙ lets_go text (ended (counted_anew (left c))) r (omega (arith, some, held_left c)) (omega (arith, k)) owed
