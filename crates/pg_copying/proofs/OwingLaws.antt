-- A copy that is open owes its reply, and still does where it is given up.
use Rattle.std.proofs.Common.{◌≡◌, ◌<◌, ℕ, Bool, true, false, cond, not, ◌&&◌, nat_eq, leb, List, [], ◌∷◌, None, length, refl, sym, ap, subst, arith, ne_eqb}
use Rattle.std.specs.Option.{is_none}
use Rattle.pg_wire.specs.Frame.{Frame}
use Rattle.pg_wire.specs.Frontend.{FrontendMessage}
use Rattle.pg_call.specs.declared.answer.CallItem.{CallItem}
use Rattle.pg_call.specs.declared.calling.Call.{Call}
use Rattle.pg_call.specs.declared.calling.Call.TheVariants as calls
use Rattle.pg_call.specs.declared.ledger.Ledger.{Ledger}
use Rattle.pg_call.specs.declared.request.Request.{Request}
use Rattle.pg_call.specs.Calls.{CallIs, owes_own}
use Rattle.pg_call.specs.Hearing.{IsOpen}
use Rattle.pg_call.specs.Requests.{copy_fail, spelled}
use Rattle.pg_conn.specs.Cleanliness.{is_clean}
use Rattle.pg_conn.specs.Connections.{ConnOf, cleaned, copies, ended, has_room_for, left, may_open, owned, queued_group, restated, rollback, runs, unfed, with_copy_fail, with_group}
use Rattle.pg_conn.specs.Feeding.{IsFed}
use Rattle.pg_conn.specs.Statements.{moved, step_of, unmoved}
use Rattle.pg_pool.specs.PoolHistory.{state_of}
use Rattle.pg_pool.specs.Seats.{SeatSeen}
use Rattle.pg_pool.specs.declared.handed.Released.TheVariants as released
use Rattle.pg_listen.specs.Handed.{HeldOf, ReleasedOf}
use Rattle.pg_copying.specs.PoolCopies.{ReleasesTo, left_conn}

-- ---- what a copy owes while it is open

open_runs : (call : Call) → IsOpen call → runs call ≡ true
open_runs (calls.Own reply) o = refl
open_runs calls.Idle o = absurd o
open_runs (calls.Asked request) o = absurd o
open_runs (calls.Waiting waiting) o = absurd o
open_runs calls.Closing o = absurd o

owes_reply : (start : Ledger) (r : Request) (said : List FrontendMessage) (hs : List Frame) (items : List CallItem) (ledger : Ledger) (call : Call) → IsOpen call → CallIs start r said hs items ledger call → ledger ≡ owes_own
owes_reply start r said hs items ledger (calls.Own reply) o i = i.0
owes_reply start r said hs items ledger calls.Idle o i = absurd o
owes_reply start r said hs items ledger (calls.Asked request) o i = absurd o
owes_reply start r said hs items ledger (calls.Waiting waiting) o i = absurd o
owes_reply start r said hs items ledger calls.Closing o i = absurd o

fed_owes : {A : Type 0} (c : ConnOf A) → IsFed c → 0 < c.ledger.owed
fed_owes c f =
    let owes : c.ledger.owed ≡ 1 = ap (λ (l : Ledger). l.owed) (owes_reply f.0.0 f.0.1 f.0.2 f.0.3 f.0.4 c.ledger c.call f.1 f.0.6) in
    omega (arith, owes)

-- ---- what is owed is owed behind a cleanup

restated_ledger : {A : Type 0} (c : ConnOf A) → (restated c).ledger ≡ c.ledger
restated_ledger {A} c = by (nat_eq c.groups 0)
  where
    by : (b : Bool) → (cond b (record c { rule = unmoved c.keeping c.rule }) (record c { rule = moved c.keeping c.rule; cache = step_of c.keeping c.cache })).ledger ≡ c.ledger
    by true = refl
    by false = refl

queued_owes : {A : Type 0} (frame : List ℕ) (c : ConnOf A) → 0 < c.ledger.owed → 0 < (queued_group frame c).ledger.owed
queued_owes {A} frame c o = by (has_room_for frame c)
  where
    by : (b : Bool) → 0 < (cond b (with_group frame c) c).ledger.owed
    by true = omega arith
    by false = o

cleaned_owes : {A : Type 0} (c : ConnOf A) → 0 < c.ledger.owed → 0 < (cleaned c).ledger.owed
cleaned_owes {A} c o = by (may_open c.change c.groups c.rule.depth)
  where
    still : 0 < (restated c).ledger.owed
    still = subst (λ (l : Ledger). 0 < l.owed) (sym (restated_ledger c)) o

    by : (b : Bool) → 0 < (ended (cond b (queued_group (spelled (rollback 0)) (restated c)) (restated c))).ledger.owed
    by true = queued_owes (spelled (rollback 0)) (restated c) still
    by false = still

unfed_owes : {A : Type 0} (c : ConnOf A) → 0 < c.ledger.owed → 0 < (unfed false c).ledger.owed
unfed_owes {A} c o = by (copies c.change c.groups && (not false && leb (length (spelled (copy_fail ∷ []))) c.stream.spare))
  where
    by : (b : Bool) → 0 < (cond b (with_copy_fail c) (owned c)).ledger.owed
    by true = o
    by false = o

left_owes : {A : Type 0} (c : ConnOf A) → IsFed c → 0 < (left c).ledger.owed
left_owes c f = rw (open_runs c.call f.1) (cleaned_owes (unfed false c) (unfed_owes c (fed_owes c f)))

-- ---- so somebody else may not have it

unclean : (broken owes unsent calling locked deep : Bool) → owes ≡ false → broken && owes && unsent && calling && locked && deep ≡ false
unclean true false unsent calling locked deep e = refl
unclean false owes unsent calling locked deep e = refl
unclean true true unsent calling locked deep e = absurd cc

open_unclean : {A : Type 0} (c : ConnOf A) → IsFed c → is_clean (left c) ≡ false
open_unclean c f =
    unclean (is_none (left c).broken) (nat_eq (left c).ledger.owed 0) (nat_eq (length (left c).stream.unsent) 0) (not (runs (left c).call)) (nat_eq (left c).held 0) (nat_eq (left c).rule.depth 0)
    (ne_eqb (left c).ledger.owed 0 (λ z. absurd (omega (arith, z, left_owes c f))))

kept_clean : (usable unmarked clean : Bool) → usable && unmarked && clean ≡ true → clean ≡ false → ⊥
kept_clean true true true k e = absurd cc
kept_clean true true false k e = absurd cc
kept_clean true false clean k e = absurd cc
kept_clean false unmarked clean k e = absurd cc

-- and the pool doesn't keep it
pub never_kept : {A : Type 0} (most : ℕ) (s t : SeatSeen) (held : HeldOf A) (answer : ReleasedOf A) → IsFed held.conn → ReleasesTo is_clean most s t (left_conn None held) answer → answer ≡ released.Kept → ⊥
never_kept most s t held released.Kept f r e = kept_clean (not (state_of r.0.history).closed) (not held.close) (is_clean (left held.conn)) r.4.1 (open_unclean held.conn f)
never_kept most s t held (released.Foreign conn) f r e = absurd cc
never_kept most s t held (released.Closed conn) f r e = absurd cc
