-- What guards that hold locks make of the room for cleanups, and of the replies that are owed.
use Rattle.std.proofs.Common.{◌≡◌, ℕ, ◌+◌, ◌≤◌, Bool, true, false, nat_eq, cond, List, [], ◌∷◌, ◌++◌, length, length-append, Option, Some, None, IfSome, refl, ap, ◌∙◌, arith}
use Rattle.pg_call.specs.declared.kind.Change.TheVariants as changes
use Rattle.pg_call.specs.declared.request.Request.{Request}
use Rattle.pg_call.specs.declared.calling.Call.{Call}
use Rattle.pg_call.specs.declared.calling.Call.TheVariants as calls
use Rattle.pg_call.specs.Requests.{spelled}
use Rattle.pg_rule.specs.declared.rule.Rule.{Rule}
use Rattle.pg_conn.specs.Connections.{ConnOf, ConnSeen, counted_anew, ended, left, queued_group, started_next, with_spare}
use Rattle.pg_conn.specs.Ledgers.{OwesSome}
use Rattle.pg_conn.specs.Holding.{release, IsRelease, held_more, held_fewer, released, let_go, gave_up, took_held}
use Rattle.pg_conn.specs.Turns.{HasAllRoom, cleanup_of, kept_for, level_of}
use Rattle.pg_conn.proofs.CleanupLaws.{all_left, all_of, change_queued, held_queued, level_none, room_queued, rule_queued, some}
use Rattle.pg_conn.proofs.LedgerLaws.{OwesSome-then, owes_by, owes_group, owes_left, owes_same}

pub release_short : (text : List ℕ) → length text ≤ 51 → length (spelled (release text)) ≤ 64
release_short text l = omega (arith, l, length-append text (0 ∷ []), length-append (text ++ 0 ∷ []) [])

-- ---- the room

cleanup_most : (call : Call) → cleanup_of call ≤ 128
cleanup_most (calls.Own reply) = omega arith
cleanup_most calls.Idle = omega arith
cleanup_most (calls.Asked request) = omega arith
cleanup_most (calls.Waiting waiting) = omega arith
cleanup_most calls.Closing = omega arith

pub all_held : (a : ConnSeen) (n : ℕ) → kept_for a + level_of a.change a.groups + 192 ≤ n → HasAllRoom (held_more (with_spare n a))
all_held a n h = omega (arith, h, cleanup_most a.call)

all_released : (unlock : Option (List ℕ)) (c : ConnSeen) → IfSome unlock IsRelease → c.change ≡ changes.Stays → kept_for c + 64 + cleanup_of c.call ≤ c.stream.spare → HasAllRoom (released unlock c)
all_released None c r k h = let none : level_of c.change c.groups ≡ 0 = ap (λ x. level_of x c.groups) k ∙ level_none c.groups in omega (arith, h, none)
all_released (Some text) c r k h =
    let f : List ℕ = spelled (release text) in
    all_of c.rule.depth c.held (queued_group f c) (ap (λ (x : Rule). x.depth) (rule_queued f c)) (held_queued f c) (change_queued f c ∙ k) (room_queued (kept_for c) f c (release_short text r.0) h)

all_let_go : (unlock : Option (List ℕ)) (c : ConnSeen) → IfSome unlock IsRelease → c.change ≡ changes.Stays → HasAllRoom c → HasAllRoom (let_go unlock c)
all_let_go unlock c r k h = by (nat_eq c.held 0) refl
  where
    by : (b : Bool) → nat_eq c.held 0 ≡ b → HasAllRoom (cond b c (released unlock (held_fewer c)))
    by true e = h
    by false e = let s = some c.held e in all_released unlock (held_fewer c) r k (omega (arith, h, s))

pub all_gave_up : (unlock : Option (List ℕ)) (a : ConnSeen) → IfSome unlock IsRelease → HasAllRoom a → HasAllRoom (gave_up unlock a)
all_gave_up unlock a r h = let k = all_left a h in all_let_go unlock (ended (left a)) r refl (omega (arith, k, level_none (left a).groups))

pub all_took_held : (unlock : Option (List ℕ)) (a : ConnSeen) → IfSome unlock IsRelease → HasAllRoom a → HasAllRoom (took_held unlock a)
all_took_held unlock a r h = by (nat_eq a.held 0)
  where
    by : (b : Bool) → HasAllRoom (cond b a (let_go unlock (ended (counted_anew (left a)))))
    by true = h
    by false = let k = all_left a h in all_let_go unlock (ended (counted_anew (left a))) r refl (omega (arith, k, level_none 0))

pub all_next : (a : ConnSeen) (request : Request) → HasAllRoom a → HasAllRoom (started_next request a)
all_next a request h = let k = all_left a h in omega (arith, k)

-- ---- the replies that are owed

owes_released : (unlock : Option (List ℕ)) (c : ConnSeen) → OwesSome c (released unlock c)
owes_released None c = ([], [], owes_same c c refl refl)
owes_released (Some text) c = owes_group text c

owes_let_go : (unlock : Option (List ℕ)) (c : ConnSeen) → OwesSome c (let_go unlock c)
owes_let_go unlock c = by (nat_eq c.held 0)
  where
    by : (b : Bool) → OwesSome c (cond b c (released unlock (held_fewer c)))
    by true = ([], [], owes_same c c refl refl)
    by false = let o = owes_released unlock (held_fewer c) in (o.0, o.1, record { sent = o.2.sent; read = o.2.read; owed = o.2.owed })

pub owes_gave_up : (unlock : Option (List ℕ)) (a : ConnSeen) → OwesSome a (gave_up unlock a)
owes_gave_up unlock a = OwesSome-then a (ended (left a)) (gave_up unlock a) (owes_by a (left a) (ended (left a)) (owes_left a) refl refl) (owes_let_go unlock (ended (left a)))

pub owes_took_held : (unlock : Option (List ℕ)) (a : ConnSeen) → OwesSome a (took_held unlock a)
owes_took_held unlock a = by (nat_eq a.held 0)
  where
    d : ConnSeen
    d = ended (counted_anew (left a))

    by : (b : Bool) → OwesSome a (cond b a (let_go unlock d))
    by true = ([], [], owes_same a a refl refl)
    by false = OwesSome-then a d (let_go unlock d) (owes_by a (left a) d (owes_left a) refl refl) (owes_let_go unlock d)

pub owes_next : (a : ConnSeen) (request : Request) → OwesSome a (started_next request a)
owes_next a request = owes_by a (left a) (started_next request a) (owes_left a) refl refl

-- ---- who gives one up, and who has none to give up

-- where none is held nothing is done
pub takes_none : {A : Type 0} (unlock : Option (List ℕ)) (c : ConnOf A) → c.held ≡ 0 → took_held unlock c ≡ c
takes_none unlock c e = rw e refl
