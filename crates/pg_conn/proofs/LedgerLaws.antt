-- What is owed between any two polls follows from where the call stands before and behind each.
use Rattle.pg_learning.specs.declared.learnt.Learnt.{Learnt}
use Rattle.std.proofs.Common.{◌≡◌, ℕ, Bool, true, false, not, ◌&&◌, cond, List, [], ◌∷◌, ◌++◌, length, refl, sym, ap, ◌∙◌, subst, arith, Ok, Err, Option, Some, None, ◌-◌, nat_eq, leb}
use Rattle.pg_conn.proofs.CleanupLaws.{group_moves, fits_room}
use Rattle.std.specs.List.{count_by}
use Rattle.pg_conn.specs.Statements.{moved, unmoved, step_of}
use Rattle.futures.specs.declared.task.Poll.{Poll}
use Rattle.pg_wire.specs.declared.error.ServerFault.{ServerFault}
use Rattle.pg_wire.specs.Frame.{Frame}
use Rattle.pg_wire.specs.Parts.{is_ready}
use Rattle.pg_wire.specs.Frontend.{FrontendMessage, Query}
use Rattle.pg_request.specs.Texts.{rollback_text}
use Rattle.pg_stream.specs.Streams.{Sends, Takes, StreamSeen}
use Rattle.pg_stream.proofs.StreamLemmas.{Moves-none, Sends-then, Takes-then, cleans}
use Rattle.pg_stream.specs.Links.{LinkSeen}
use Rattle.std.proofs.lemmas.Bool.{leb-true}
use Rattle.pg_call.specs.declared.kind.Kind.{Kind}
use Rattle.pg_call.specs.declared.request.Request.{Request}
use Rattle.pg_call.specs.declared.answer.Turn.{Turn}
use Rattle.pg_call.specs.declared.calling.Call.{Call}
use Rattle.pg_call.specs.declared.calling.Call.TheVariants as calls
use Rattle.pg_call.specs.declared.calling.Beat.{Beat}
use Rattle.pg_call.specs.declared.calling.Beat.TheVariants as beats
use Rattle.pg_call.specs.Requests.{copy_fail, spelled}
use Rattle.pg_conn.proofs.StateLaws.{begins_keep, hands_keep, resolved_calls, handed_calls, looked_calls}
use Rattle.pg_conn.specs.Connections.{ConnSeen, with_depth, copies, ends_copy, owned, unfed, with_copy_fail, handed, idle, started_call, begun_with, left, cleaned, settled, ended, resolved, resolved_by, restated, rolled, rolled_back, counted_anew, queued_group, with_group, has_room_for, rollback, may_open, runs}
use Rattle.pg_conn.specs.Looking.{LooksUp}
use Rattle.pg_conn.specs.Turns.{ends_request, TakesBeat, Polled, PollsThrough, PollsBy, PollsWithin, beat_of, behind, broken_by}
use Rattle.pg_conn.specs.States.{IsCalling}
use Rattle.pg_conn.specs.Ledgers.{Owes, OwesSome}
use Rattle.pg_conn.proofs.OwedLaws.{call_counts, counts-append, readies-append, readies_heard, spelled-append, told_counts}

-- ---- a poll

owes_beat : (a b : ConnSeen) (kind : Kind) (beat : Beat) → TakesBeat a b beat → IsCalling kind a → OwesSome a b
owes_beat a b kind beat t i =
    let told = t.3.tells i.0 i.1 i.2 i.3 i.4 i.6 in
    let before = call_counts i.0 i.1 i.2 i.3 i.4 a.ledger a.call i.6 in
    let behind = told_counts a b i.0 i.1 (i.2 ++ told.0) (i.3 ++ t.2) i.4 beat told.3 in
    let same : count_by is_ready t.1 ≡ count_by is_ready t.2 = sym (readies_heard t.1) ∙ ap (count_by is_ready) t.3.hears in (
      told.0,
      t.1,
      record {
        sent = subst (Sends a.stream b.stream) (sym told.1) t.3.moves.sent;
        read = t.3.moves.read;
        owed = omega (arith, before, behind, same, readies-append i.3 t.2, counts-append i.2 told.0);
      },
    )

-- nothing was queued and nothing read
pub owes_same : (a b : ConnSeen) → b.stream ≡ a.stream → b.ledger ≡ a.ledger → Owes a b [] []
owes_same a b s l =
    let m = Moves-none a.stream in
    record { sent = subst (λ (t : StreamSeen). Sends a.stream t []) (sym s) m.sent; read = subst (λ (t : StreamSeen). Takes a.stream t []) (sym s) m.read; owed = rw l (omega arith) }

Owes-then : (a b c : ConnSeen) (said more : List FrontendMessage) (fs gs : List Frame) → Owes a b said fs → Owes b c more gs → Owes a c (said ++ more) (fs ++ gs)
Owes-then a b c said more fs gs s t = record {
  sent = subst (λ (q : List ℕ). Sends a.stream c.stream q) (sym (spelled-append said more)) (Sends-then a.stream b.stream c.stream (spelled said) (spelled more) s.sent t.sent);
  read = Takes-then a.stream b.stream c.stream fs gs s.read t.read;
  owed = omega (arith, s.owed, t.owed, readies-append fs gs, counts-append said more);
}

pub OwesSome-then : (a b c : ConnSeen) → OwesSome a b → OwesSome b c → OwesSome a c
OwesSome-then a b c s t = (s.0 ++ t.0, s.1 ++ t.1, Owes-then a b c s.0 t.0 s.1 t.1 s.2 t.2)

-- a Query is queued, where there is room for it
owes_query : (text : List ℕ) (c : ConnSeen) → has_room_for (spelled (Query text ∷ [])) c ≡ true → Owes c (with_group (spelled (Query text ∷ [])) c) (Query text ∷ []) []
owes_query text c e =
    let m = group_moves (spelled (Query text ∷ [])) c (fits_room (spelled (Query text ∷ [])) c e).0 in
    let one : count_by ends_request (Query text ∷ []) ≡ 1 = refl in
    record { sent = m.sent; read = m.read; owed = omega (arith, one) }

pub owes_group : (text : List ℕ) (c : ConnSeen) → OwesSome c (queued_group (spelled (Query text ∷ [])) c)
owes_group text c = by (has_room_for (spelled (Query text ∷ [])) c) refl
  where
    by : (b : Bool) → has_room_for (spelled (Query text ∷ [])) c ≡ b → OwesSome c (cond b (with_group (spelled (Query text ∷ [])) c) c)
    by true e = (Query text ∷ [], [], owes_query text c e)
    by false e = ([], [], owes_same c c refl refl)

owes_queued : (left : ℕ) (c : ConnSeen) → OwesSome c (queued_group (spelled (rollback left)) c)
owes_queued left c = owes_group (rollback_text left) c

-- the call and its numbers are no matter
pub owes_by : (a b c : ConnSeen) → OwesSome a b → c.stream ≡ record b.stream { waits = c.stream.waits; moves = c.stream.moves } → c.ledger ≡ b.ledger → OwesSome a c
owes_by a b c o s l = (
  o.0,
  o.1,
  record {
    sent = subst (λ (t : StreamSeen). Sends a.stream t (spelled o.0)) (sym s) o.2.sent;
    read = subst (λ (t : StreamSeen). Takes a.stream t o.1) (sym s) o.2.read;
    owed = rw l o.2.owed;
  },
)

restated_stream : (c : ConnSeen) → (restated c).stream ≡ c.stream
restated_stream c = by (nat_eq c.groups 0)
  where
    by : (b : Bool) → (cond b (record c { rule = unmoved c.keeping c.rule }) (record c { rule = moved c.keeping c.rule; cache = step_of c.keeping c.cache })).stream ≡ c.stream
    by true = refl
    by false = refl

restated_ledger : (c : ConnSeen) → (restated c).ledger ≡ c.ledger
restated_ledger c = by (nat_eq c.groups 0)
  where
    by : (b : Bool) → (cond b (record c { rule = unmoved c.keeping c.rule }) (record c { rule = moved c.keeping c.rule; cache = step_of c.keeping c.cache })).ledger ≡ c.ledger
    by true = refl
    by false = refl

resolved_stream : (c : ConnSeen) → (resolved c).stream ≡ c.stream
resolved_stream c = by c.call
  where
    by : (call : Call) → (resolved_by call c).stream ≡ c.stream
    by (calls.Asked r) = refl
    by _ = refl

resolved_ledger : (c : ConnSeen) → (resolved c).ledger ≡ c.ledger
resolved_ledger c = by c.call
  where
    by : (call : Call) → (resolved_by call c).ledger ≡ c.ledger
    by (calls.Asked r) = refl
    by _ = refl

owes_cleaned : (c : ConnSeen) → OwesSome c (cleaned c)
owes_cleaned c = by (may_open c.change c.groups c.rule.depth)
  where
    d : ConnSeen
    d = restated c

    same : OwesSome c d
    same = ([], [], owes_same c d (restated_stream c) (restated_ledger c))

    by : (b : Bool) → OwesSome c (ended (cond b (queued_group (spelled (rollback 0)) d) d))
    by true = owes_by c (queued_group (spelled (rollback 0)) d) (ended (queued_group (spelled (rollback 0)) d)) (OwesSome-then c d (queued_group (spelled (rollback 0)) d) same (owes_queued 0 d)) refl refl
    by false = owes_by c d (ended d) same refl refl

-- a CopyFail asks for no reply
owes_fail : (c : ConnSeen) → leb (length (spelled (copy_fail ∷ []))) c.stream.spare ≡ true → Owes c (with_copy_fail c) (copy_fail ∷ []) []
owes_fail c e =
    let m = (cleans (λ (link : LinkSeen). link) c.stream (with_copy_fail c).stream (spelled (copy_fail ∷ [])) (leb-true _ _ e) refl).0 in
    let none : count_by ends_request (copy_fail ∷ []) ≡ 0 = refl in
    record { sent = m.sent; read = m.read; owed = omega (arith, none) }

owes_owned : (c : ConnSeen) → Owes c (owned c) [] []
owes_owned c = let same = owes_same c c refl refl in record { sent = same.sent; read = same.read; owed = same.owed }

owes_unfed : (over : Bool) (c : ConnSeen) → OwesSome c (unfed over c)
owes_unfed over c = by (copies c.change c.groups) (not over) (leb (length (spelled (copy_fail ∷ []))) c.stream.spare) refl
  where
    by : (k o f : Bool) → leb (length (spelled (copy_fail ∷ []))) c.stream.spare ≡ f → OwesSome c (cond (k && (o && f)) (with_copy_fail c) (owned c))
    by true true true e = (copy_fail ∷ [], [], owes_fail c e)
    by true true false e = ([], [], owes_owned c)
    by true false f e = ([], [], owes_owned c)
    by false o f e = ([], [], owes_owned c)

pub owes_left : (c : ConnSeen) → OwesSome c (left c)
owes_left c = by (runs c.call)
  where
    d : ConnSeen
    d = unfed false c

    by : (b : Bool) → OwesSome c (cond b (idle (cleaned d)) c)
    by true = owes_by c (cleaned d) (idle (cleaned d)) (OwesSome-then c d (cleaned d) (owes_unfed false c) (owes_cleaned d)) refl refl
    by false = ([], [], owes_same c c refl refl)

pub owes_started : (a : ConnSeen) (request : Request) → OwesSome a (started_call request a)
owes_started a request = owes_by a (left a) (started_call request a) (owes_left a) refl refl

owes_rolled : (c : ConnSeen) → OwesSome c (rolled c)
owes_rolled c = by (nat_eq c.rule.depth 0)
  where
    by : (b : Bool) → OwesSome c (cond b c (queued_group (spelled (rollback (c.rule.depth - 1))) (record c { rule = with_depth (c.rule.depth - 1) c.rule })))
    by true = ([], [], owes_same c c refl refl)
    by false =
        let d : ConnSeen = record c { rule = with_depth (c.rule.depth - 1) c.rule } in
        let o = owes_queued (c.rule.depth - 1) d in
        (o.0, o.1, record { sent = o.2.sent; read = o.2.read; owed = o.2.owed })

pub owes_rolled_back : (a : ConnSeen) → OwesSome a (rolled_back a)
owes_rolled_back a =
    let d : ConnSeen = ended (counted_anew (left a)) in
    OwesSome-then a d (rolled d) (owes_by a (left a) d (owes_left a) refl refl) (owes_rolled d)

owes_behind : (beat : Beat) (c : ConnSeen) → OwesSome c (behind beat c)
owes_behind (beats.Ends (Ok answer)) c = ([], [], owes_same c (settled c) refl refl)
owes_behind (beats.HandsOn next) c = ([], [], owes_same c (settled c) refl refl)
owes_behind (beats.Ends (Err e)) c =
    let d : ConnSeen = record c { broken = broken_by (beats.Ends (Err e)) } in
    let f = unfed (ends_copy e) d in
    let o = OwesSome-then d f (cleaned f) (owes_unfed (ends_copy e) d) (owes_cleaned f) in
    (o.0, o.1, record { sent = o.2.sent; read = o.2.read; owed = o.2.owed })
owes_behind beats.More c = ([], [], owes_same c c refl refl)
owes_behind beats.Waits c = ([], [], owes_same c c refl refl)
owes_behind (beats.Yields item) c = ([], [], owes_same c c refl refl)
owes_behind (beats.Opens opened) c = ([], [], owes_same c c refl refl)

owes_polled : (kind : Kind) (begun b : ConnSeen) (beat : Beat) → IsCalling kind begun → Polled begun b beat → OwesSome begun b
owes_polled kind begun b beat i p = subst (OwesSome begun) (sym p.behind_is) (OwesSome-then begun p.stopped (behind beat p.stopped) (owes_beat begun p.stopped kind beat p.turns i) (owes_behind beat p.stopped))

-- what stands as an exchange owes what was owed
owes_resolved : (kind : Kind) (a b : ConnSeen) (beat : Beat) → IsCalling kind a → Polled (resolved a) b beat → OwesSome a b
owes_resolved kind a b beat i p =
    let first : OwesSome a (resolved a) = ([], [], owes_same a (resolved a) (resolved_stream a) (resolved_ledger a)) in
    OwesSome-then a (resolved a) b first (owes_polled kind (resolved a) b beat (resolved_calls kind a i) p)

owes_handed : (kind : Kind) (begun a b : ConnSeen) (next : Request) → Polled (resolved a) b (beats.HandsOn next) → IsCalling kind a × OwesSome begun a → IsCalling kind (handed next b) × OwesSome begun (handed next b)
owes_handed kind begun a b next p i = (
  handed_calls a b kind next p i.0,
  OwesSome-then begun a (handed next b) i.1 (owes_by a b (handed next b) (owes_resolved kind a b (beats.HandsOn next) i.0 p) refl refl),
)

owes_stands : (begun c : ConnSeen) → OwesSome begun c → OwesSome begun (resolved c)
owes_stands begun c o = OwesSome-then begun c (resolved c) o ([], [], owes_same c (resolved c) (resolved_stream c) (resolved_ledger c))

-- what is looked up asks nothing before it is polled
owes_looked : (begun b : ConnSeen) (told next : Request) (learnt : Learnt) → OwesSome begun (handed told b) → OwesSome begun (handed next (record b { learnt = learnt }))
owes_looked begun b told next learnt o = (o.0, o.1, record { sent = o.2.sent; read = o.2.read; owed = o.2.owed })

looks_owed : (kind : Kind) (begun b : ConnSeen) (told next : Request) (learnt : Learnt) → LooksUp told b.learnt next learnt → IsCalling kind (handed told b) × OwesSome begun (handed told b)
    → IsCalling kind (handed next (record b { learnt = learnt })) × OwesSome begun (handed next (record b { learnt = learnt }))
looks_owed kind begun b told next learnt u h = (looked_calls kind b told next learnt u h.0, owes_looked begun b told next learnt h.1)

owes_through : (kind : Kind) (begun b : ConnSeen) (answer : Poll Turn) → IsCalling kind begun → PollsThrough begun b answer → OwesSome begun b
owes_through kind begun b answer i (now, asks, p) =
    let first = begins_keep (λ (c : ConnSeen). IsCalling kind c × OwesSome begun c) (λ c h. (resolved_calls kind c h.0, owes_stands begun c h.1)) (looks_owed kind begun) begun now b answer asks (i, ([], [], owes_same begun begun refl refl)) in
    let k = hands_keep (λ (c : ConnSeen). IsCalling kind c × OwesSome begun c) (owes_handed kind begun) (looks_owed kind begun) p.later now p.last p.hands first in
    OwesSome-then begun p.last b k.1 (owes_resolved kind p.last b (beat_of answer) k.0 p.polled)

pub owes_poll : (kind : Kind) (left : ℕ) (a b : ConnSeen) (answer : Poll Turn) → IsCalling kind a → PollsWithin left a b answer → OwesSome a b
owes_poll kind left a b answer i p = by a.broken p
  where
    by : (o : Option ServerFault) → PollsBy o (begun_with left a) a b answer → OwesSome a b
    by None p =
        let some = owes_through kind (begun_with left a) b answer i p in
        (some.0, some.1, record { sent = some.2.sent; read = some.2.read; owed = some.2.owed })
    by (Some fault) p = subst (OwesSome a) (sym p.0) ([], [], owes_same a (ended (idle a)) refl refl)
