-- What polls read of notifications is kept and given, in order and once.
use Rattle.pg_request.specs.declared.naming.Declared.{Declared}
use Rattle.pg_conn.specs.Looking.{looks_for}
use Rattle.std.proofs.Common.{◌≡◌, inl, inr, ℕ, ◌-◌, Bool, true, false, cond, not, ◌&&◌, nat_eq, leb, List, [], ◌∷◌, ◌++◌, append-nil, append_assoc, length, refl, sym, ap, ◌∙◌, subst, arith, Option, Some, None, IsSome, Result, Ok, Err}
use Rattle.futures.specs.declared.task.Poll.{Poll}
use Rattle.futures.specs.declared.task.Poll.TheVariants.{Ready, Pending}
use Rattle.pg_wire.specs.declared.error.Error.{Error}
use Rattle.pg_wire.specs.declared.error.Error.TheVariants as errors
use Rattle.pg_wire.specs.declared.error.IoCause.TheVariants as io
use Rattle.pg_wire.specs.declared.error.ProtocolFault.TheVariants as protocol
use Rattle.pg_wire.specs.declared.error.ServerFault.{ServerFault}
use Rattle.pg_wire.specs.declared.error.ServerFault.TheVariants as faults
use Rattle.pg_wire.specs.declared.message.notification_response.Notification.{Notification}
use Rattle.pg_wire.specs.Frame.{Frame}
use Rattle.pg_wire.specs.Parts.{heard}
use Rattle.pg_stream.specs.Links.{LinkSeen, GrewBy, NoneFalls}
use Rattle.pg_stream.specs.Notifications.{KeptSeen, TakesOldest, kept_behind}
use Rattle.pg_stream.specs.declared.stream.Front.{Front}
use Rattle.pg_stream.specs.Streams.{AheadOnce, AllMoved, HeardCause, Moves, Passes, StreamOf, StreamSeen, Takes, stream_by}
use Rattle.pg_stream.proofs.Known.{NoneFalls-then}
use Rattle.pg_stream.proofs.NotificationLaws.{NotifiesAll-append}
use Rattle.pg_stream.proofs.StreamLemmas.{AllMoved-then, AllMoved-none, GrewBy-spent, GrewBy-then, Moves-none, PendingCause-after, Rose-after, Takes-then, took_frame}
use Rattle.pg_call.specs.declared.answer.CallAnswer.TheVariants as answers
use Rattle.pg_call.specs.declared.answer.Turn.{Turn}
use Rattle.pg_call.specs.declared.calling.Beat.{Beat}
use Rattle.pg_call.specs.declared.calling.Call.{Call}
use Rattle.pg_call.specs.declared.calling.Call.TheVariants as calls
use Rattle.pg_call.specs.declared.calling.Beat.TheVariants as beats
use Rattle.pg_call.specs.declared.kind.Change.{Change}
use Rattle.pg_call.specs.declared.kind.Change.TheVariants as changes
use Rattle.pg_call.specs.declared.request.Request.{Request}
use Rattle.pg_call.specs.declared.request.Request.TheVariants as requests
use Rattle.pg_call.specs.Answers.{unit_turn}
use Rattle.pg_call.specs.Calls.{CallEnds, CallIs, EndsFine}
use Rattle.pg_call.specs.declared.answer.CallItem.{CallItem}
use Rattle.pg_call.specs.declared.ledger.Ledger.{Ledger}
use Rattle.pg_wire.specs.Frontend.{FrontendMessage}
use Rattle.pg_call.specs.Requests.{Group, copy_fail, spelled}
use Rattle.pg_conn.specs.Connections.{ConnOf, ConnSeen, begun_by, begun_with, cleaned, ended, has_room_for, Standing, idle, left, may_open, queued_group, resolved, resolved_by, restated, rollback, runs, seen_by, settled, started_call, with_group, with_copy_fail, copies, ends_copy, has_fed, owned, unfed}
use Rattle.pg_conn.specs.States.{turn_of}
use Rattle.pg_conn.specs.Turns.{BeginsBy, EndsBy, FailsBy, FrontFails, HandsOver, Polled, PollsBy, PollsCall, PollsMore, PollsThrough, PollsWithin, beat_of, behind, broken_by}
use Rattle.pg_conn.specs.News.{AwaitsNews, AwaitsOn, AwaitsOnce, BreaksBy, DrainCause, Drains, FindsNews, GivesKept, NewsCause, NewsFails, NewsFault, NewsStep, PollsNews, ReadsNews, UnaskedCause, UnaskedFault, flushing, given, with_kept, without_news}
use Rattle.pg_conn.proofs.CleanupLaws.{stays_unfed}
use Rattle.pg_conn.proofs.RefusalLaws.{broken_started}
use Rattle.pg_conn.proofs.StateLaws.{begins_keep, hands_keep}
use Rattle.pg_conn.proofs.TurnLaws.{kept}
use Rattle.pg_conn.proofs.ViewLaws.{seen_started}

-- ---- moves of a stream

pub reads_moves : (a b : StreamSeen) (q : List ℕ) (fs : List Frame) → Moves a b q fs → a.notifications.keeping ≡ true → ReadsNews a b []
reads_moves a b q fs m k =
    let n = m.notifications in
    record {
      frames = fs;
      news = n.0;
      counts = m.counts;
      read = m.read;
      told = n.1;
      kept = ap (λ (x : KeptSeen). x.kept) n.2 ∙ ap (λ (x : Bool). kept_behind x n.0 a.notifications.kept) k;
      keeping = ap (λ (x : KeptSeen). x.keeping) n.2 ∙ k;
    }

pub step_moves : (a b : StreamSeen) (q : List ℕ) (fs : List Frame) → Moves a b q fs → a.notifications.keeping ≡ true → NewsStep a.left b.left a b []
step_moves a b q fs m k = record { reads = reads_moves a b q fs m k; fewer = m.left; calls = m.calls }

-- only what is to be sent has changed, and the calls of the link that are counted and left
pub reads_quiet : (a b : StreamSeen) → b ≡ record a { unsent = b.unsent; spare = b.spare; left = b.left; waits = b.waits; moves = b.moves } → a.notifications.keeping ≡ true → ReadsNews a b []
reads_quiet a b e k =
    let m = Moves-none a in
    let c : StreamSeen = record a { unsent = b.unsent; spare = b.spare; left = b.left; waits = b.waits; moves = b.moves } in
    let same : ReadsNews a c [] = record { frames = []; news = []; counts = m.counts; read = m.read; told = refl; kept = sym (append-nil a.notifications.kept); keeping = k } in
    subst (λ (s : StreamSeen). ReadsNews a s []) (sym e) same

pub ReadsNews-then : (a b c : StreamSeen) (xs ys : List Notification) → ReadsNews a b xs → ReadsNews b c ys → ReadsNews a c (xs ++ ys)
ReadsNews-then a b c xs ys p q = record {
  frames = p.frames ++ q.frames;
  news = p.news ++ q.news;
  counts = NoneFalls-then a.link b.link c.link p.counts q.counts;
  read = Takes-then a b c p.frames q.frames p.read q.read;
  told = NotifiesAll-append p.frames q.frames p.news q.news p.told q.told;
  kept = append_assoc xs ys c.notifications.kept
      ∙ ap (λ (l : List Notification). xs ++ l) q.kept
      ∙ sym (append_assoc xs b.notifications.kept q.news)
      ∙ ap (λ (l : List Notification). l ++ q.news) p.kept
      ∙ append_assoc a.notifications.kept p.news q.news;
  keeping = q.keeping;
}

pub NewsStep-then : (l m n : ℕ) (a b c : StreamSeen) (xs ys : List Notification) → NewsStep l m a b xs → NewsStep m n b c ys → NewsStep l n a c (xs ++ ys)
NewsStep-then l m n a b c xs ys p q = record {
  reads = ReadsNews-then a b c xs ys p.reads q.reads;
  fewer = omega (arith, p.fewer, q.fewer);
  calls = GrewBy-then (l - m) (m - n) (l - n) a.link.calls b.link.calls c.link.calls p.calls q.calls (omega (arith, p.fewer, q.fewer));
}

-- the oldest of those kept is given
pub reads_given : (a m b : StreamSeen) (n : Notification) → ReadsNews a m [] → b ≡ record m { notifications = b.notifications } → TakesOldest m.notifications b.notifications (Some n) → ReadsNews a b (n ∷ [])
reads_given a m b n p e t = record {
  frames = p.frames;
  news = p.news;
  counts = subst (λ (s : StreamSeen). NoneFalls a.link s.link) (sym e) p.counts;
  read = subst (λ (s : StreamSeen). Takes a s p.frames) (sym e) p.read;
  told = p.told;
  kept = ap (λ (x : KeptSeen). x.kept) (sym t) ∙ p.kept;
  keeping = ap (λ (x : KeptSeen). x.keeping) (sym t) ∙ p.keeping;
}

pub step_given : (l k : ℕ) (a m b : StreamSeen) (n : Notification) → NewsStep l k a m [] → b ≡ record m { notifications = b.notifications } → TakesOldest m.notifications b.notifications (Some n) → NewsStep l k a b (n ∷ [])
step_given l k a m b n p e t = record {
  reads = reads_given a m b n p.reads e t;
  fewer = p.fewer;
  calls = subst (λ (s : StreamSeen). GrewBy (l - k) a.link.calls s.link.calls) (sym e) p.calls;
}

-- ---- one notification is awaited

UnaskedFault-after : (a b c : StreamSeen) (e : Error) → NoneFalls a.link b.link → UnaskedFault b c e → UnaskedFault a c e
UnaskedFault-after a b c (errors.Io io.Fault) m f = Rose-after _ _ _ m.faults f
UnaskedFault-after a b c (errors.Io io.End) m f = (Rose-after _ _ _ m.ends f.0, f.1)
UnaskedFault-after a b c _ m f = f

told_fault : (a b : StreamSeen) (e : Error) → UnaskedFault a b e → NewsFault a b e
told_fault a b (errors.Database e) f = absurd f
told_fault a b _ f = f

-- why the stream fails
heard_fault : (a b : StreamSeen) (e : Error) → HeardCause a b e → UnaskedFault a b e
heard_fault a b (errors.Protocol (protocol.Server (faults.Malformed tag))) h = (record { front = h.frame; rest = h.rest; whole = h.whole; parts = h.parts; tagged = h.tag_is }, λ m. h.refused m.0 (m.1, m.2))
heard_fault a b (errors.Protocol (protocol.Server (faults.Unlawful tag))) h = absurd h
heard_fault a b _ h = h

pub awaits_none : (a : StreamSeen) → a.notifications.keeping ≡ true → a.notifications.kept ≡ [] → AwaitsOn a a
awaits_none a k none = record { step = step_moves a a [] [] (Moves-none a) k; moved = AllMoved-none a; none = none }

pub awaits_on : (a b c : StreamSeen) → AwaitsOn a b → AwaitsOn b c → AwaitsOn a c
awaits_on a b c p q = record {
  step = NewsStep-then a.left b.left c.left a b c [] [] p.step q.step;
  moved = AllMoved-then a b c p.moved p.step.fewer q.moved q.step.fewer;
  none = q.none;
}

pub awaits_last : (a b c : StreamSeen) (answer : Poll (Result Notification Error)) → AwaitsOn a b → AwaitsNews b c answer → AwaitsNews a c answer
awaits_last a b c (Ready (Ok n)) p q = record { step = NewsStep-then a.left b.left c.left a b c [] (n ∷ []) p.step q.step; cause = tt }
awaits_last a b c (Ready (Err e)) p q = record { step = NewsStep-then a.left b.left c.left a b c [] [] p.step q.step; cause = UnaskedFault-after a b c e p.step.reads.counts q.cause }
awaits_last a b c Pending p q = record { step = NewsStep-then a.left b.left c.left a b c [] [] p.step q.step; cause = (PendingCause-after a b c p.moved p.step.fewer q.step.fewer q.cause.0, q.cause.1) }

-- a frame was taken aside, and told no notification that is kept, or one
once_moved : (a b : StreamSeen) (frame : Frame) → Moves a b [] (frame ∷ []) → AllMoved a b → a.notifications.keeping ≡ true → b.notifications.kept ≡ [] → AwaitsOnce a b None
once_moved a b frame m all k none = (record { step = step_moves a b [] (frame ∷ []) m k; moved = all; none = none }, omega (arith, m.fuel))

pub aside_none : (a b c : StreamSeen) → a.notifications.keeping ≡ true → AheadOnce a b None → c ≡ record b { notifications = c.notifications } → TakesOldest b.notifications c.notifications None → AwaitsOnce a c None
aside_none a b c k h e t =
    let same : c ≡ b = e ∙ ap (λ (n : KeptSeen). record b { notifications = n }) t.1 in
    subst (λ (s : StreamSeen). AwaitsOnce a s None) (sym same) (once_moved a b h.0 h.2 h.3 k t.0)

pub aside_news : (a b c : StreamSeen) (n : Notification) → a.notifications.keeping ≡ true → AheadOnce a b None → c ≡ record b { notifications = c.notifications } → TakesOldest b.notifications c.notifications (Some n) → AwaitsNews a c (Ready (Ok n))
aside_news a b c n k h e t =
    let same : c.left ≡ b.left = ap (λ (s : StreamSeen). s.left) e in
    record { step = subst (λ (l : ℕ). NewsStep a.left l a c (n ∷ [])) (sym same) (step_given a.left b.left a b c n (step_moves a b [] (h.0 ∷ []) h.2 k) e t); cause = tt }

pub ahead_waits : (a b : StreamSeen) → a.notifications.keeping ≡ true → a.notifications.kept ≡ [] → AheadOnce a b (Some Pending) → AwaitsNews a b Pending
ahead_waits a b k none h = record { step = step_moves a b [] h.0.0 h.0.2 k; cause = (h.0.3, ap (λ (x : KeptSeen). x.kept) h.1 ∙ none) }

pub ahead_fails : (a b : StreamSeen) (e : Error) → a.notifications.keeping ≡ true → AheadOnce a b (Some (Ready (Err e))) → AwaitsNews a b (Ready (Err e))
ahead_fails a b e k h = record { step = step_moves a b [] h.0.0 h.0.2 k; cause = heard_fault a b e h.0.3 }

-- an ErrorResponse at the front is passed over
pub error_passed : {A : Type 0} (seen : A → LinkSeen) (a b c : StreamOf A) (front : Front) → a.notifications.keeping ≡ true → a.notifications.kept ≡ [] → AheadOnce (stream_by seen a) (stream_by seen b) (Some (Ready (Ok front))) → Passes front b c
    → AwaitsOnce (stream_by seen a) (stream_by seen c) None
error_passed {A} seen a b c front k none h p =
    let s = stream_by seen a in
    let t = stream_by seen b in
    let u = stream_by seen c in
    let heard = h.0.5 in
    let took = took_frame seen b c front heard.0 heard.1 heard.2 heard.3 p in
    let kept : b.notifications ≡ a.notifications = h.1 in
    let same : c.notifications ≡ b.notifications = ap (λ (x : StreamOf A). x.notifications) (p heard.0 heard.1 heard.2).0 in
    let first = step_moves s t [] h.0.0 h.0.2 k in
    let then_on = step_moves t u [] (heard.0 ∷ []) took.0 (ap (λ (x : KeptSeen). x.keeping) kept ∙ k) in (
      record { step = NewsStep-then s.left t.left u.left s t u [] [] first then_on; moved = AllMoved-then s t u h.0.4 h.0.2.left took.1 took.0.left; none = ap (λ (x : KeptSeen). x.kept) (same ∙ kept) ∙ none },
      omega (arith, h.0.2.fuel, took.0.fuel),
    )

-- any other message may not come
pub message_refused : (a b : StreamSeen) (front : Front) → a.notifications.keeping ≡ true → AheadOnce a b (Some (Ready (Ok front))) → (front.tag ≡ 69 → ⊥) → AwaitsNews a b (Ready (Err (errors.Protocol (protocol.Server (faults.Unlawful front.tag)))))
message_refused a b front k h other =
    let heard = h.0.5 in
    record { step = step_moves a b [] h.0.0 h.0.2 k; cause = (record { front = heard.0; rest = heard.1; whole = heard.2.whole; parts = heard.2.parts; tagged = heard.2.tag }, heard.3, other) }

-- ---- what is owed is read away

-- what an end and a drop queue is no more than a CopyFail and a rollback
abbrev OnlyQueued : ConnSeen → ConnSeen → Type 0
OnlyQueued c d = (unsent : List ℕ) × (spare : ℕ) × (d.stream ≡ record c.stream { unsent = unsent; spare = spare })

cleaned_queued : (c : ConnSeen) → OnlyQueued c (cleaned c)
cleaned_queued c = by (may_open c.change c.groups c.rule.depth) (has_room_for (spelled (rollback 0)) (restated c)) (nat_eq c.groups 0)
  where
    by : (m h z : Bool) → OnlyQueued c (ended (cond m (cond h (with_group (spelled (rollback 0)) (kept z c)) (kept z c)) (kept z c)))
    by false h true = (c.stream.unsent, c.stream.spare, refl)
    by false h false = (c.stream.unsent, c.stream.spare, refl)
    by true false true = (c.stream.unsent, c.stream.spare, refl)
    by true false false = (c.stream.unsent, c.stream.spare, refl)
    by true true true = (c.stream.unsent ++ spelled (rollback 0), c.stream.spare - length (spelled (rollback 0)), refl)
    by true true false = (c.stream.unsent ++ spelled (rollback 0), c.stream.spare - length (spelled (rollback 0)), refl)

unfed_queued : (over : Bool) (c : ConnSeen) → OnlyQueued c (unfed over c)
unfed_queued over c = by (copies c.change c.groups && (not over && leb (length (spelled (copy_fail ∷ []))) c.stream.spare))
  where
    by : (b : Bool) → OnlyQueued c (cond b (with_copy_fail c) (owned c))
    by true = (c.stream.unsent ++ spelled (copy_fail ∷ []), c.stream.spare - length (spelled (copy_fail ∷ [])), refl)
    by false = (c.stream.unsent, c.stream.spare, refl)

ended_queued : (over : Bool) (c : ConnSeen) → OnlyQueued c (cleaned (unfed over c))
ended_queued over c =
    let first = unfed_queued over c in
    let then_on = cleaned_queued (unfed over c) in
    (then_on.0, then_on.1, then_on.2 ∙ ap (λ (s : StreamSeen). record s { unsent = then_on.0; spare = then_on.1 }) first.2)

left_queued : (c : ConnSeen) → OnlyQueued c (left c)
left_queued c = by (runs c.call) (ended_queued false c)
  where
    by : (r : Bool) → OnlyQueued c (cleaned (unfed false c)) → OnlyQueued c (cond r (idle (cleaned (unfed false c))) c)
    by false q = (c.stream.unsent, c.stream.spare, refl)
    by true q = q

-- so nothing is read in it, whatever is counted anew
abbrev IsQuiet : StreamSeen → StreamSeen → Type 0
IsQuiet a b = b ≡ record a { unsent = b.unsent; spare = b.spare; left = b.left; waits = b.waits; moves = b.moves }

queued_quiet : (c d : ConnSeen) → OnlyQueued c d → IsQuiet c.stream d.stream
queued_quiet c d q =
    let by = λ (s : StreamSeen). record c.stream { unsent = s.unsent; spare = s.spare; left = s.left; waits = s.waits; moves = s.moves } in
    q.2 ∙ ap by (sym q.2)

counted_quiet : (a s : StreamSeen) (l w m : ℕ) → IsQuiet a s → IsQuiet a (record s { left = l; waits = w; moves = m })
counted_quiet a s l w m q = ap (λ (x : StreamSeen). record x { left = l; waits = w; moves = m }) q

started_quiet : (r : Request) (c : ConnSeen) → IsQuiet c.stream (started_call r c).stream
started_quiet r c = counted_quiet c.stream (left c).stream (left c).stream.left 0 0 (queued_quiet c (left c) (left_queued c))

flushing_quiet : (l : ℕ) (c : ConnSeen) → IsQuiet c.stream (flushing l c).stream
flushing_quiet l c = counted_quiet c.stream (left c).stream l 0 0 (queued_quiet c (left c) (left_queued c))

reads_flushing : (l : ℕ) (c : ConnSeen) → c.stream.notifications.keeping ≡ true → ReadsNews c.stream (flushing l c).stream []
reads_flushing l c k = reads_quiet c.stream (flushing l c).stream (flushing_quiet l c) k

link_flushing : (l : ℕ) (c : ConnSeen) → (flushing l c).stream.link ≡ c.stream.link
link_flushing l c = ap (λ (s : StreamSeen). s.link) (flushing_quiet l c)

-- no transaction that a flush may have opened is rolled back
opens_none : (groups depth : ℕ) → may_open changes.Stays groups depth ≡ false
opens_none groups depth = by (nat_eq groups 0) (nat_eq depth 0)
  where
    by : (g d : Bool) → not g && (d && false) ≡ false
    by true d = refl
    by false true = refl
    by false false = refl

-- nor is a copy from the client ended
copies_none : (groups : ℕ) → (copies changes.Stays groups ≡ false) × (has_fed changes.Stays groups ≡ false)
copies_none groups = by (nat_eq groups 0)
  where
    by : (g : Bool) → (not g && false ≡ false) × (not g && false ≡ false)
    by true = (refl, refl)
    by false = (refl, refl)

record IsKept (c d : ConnSeen) : Type 0 where
  stream : d.stream ≡ c.stream
  broken : d.broken ≡ c.broken

cleaned_kept : (c : ConnSeen) → c.change ≡ changes.Stays → IsKept c (cleaned c)
cleaned_kept c e = by (may_open c.change c.groups c.rule.depth) (nat_eq c.groups 0) (rw e (opens_none c.groups c.rule.depth))
  where
    by : (m z : Bool) → m ≡ false → IsKept c (ended (cond m (queued_group (spelled (rollback 0)) (kept z c)) (kept z c)))
    by false true e = record { stream = refl; broken = refl }
    by false false e = record { stream = refl; broken = refl }
    by true z e = absurd cc

-- the flush as it stands before its poll
abbrev flush : ℕ → ConnSeen → ConnSeen
flush l c = resolved (flushing l c)

flush_is : (l : ℕ) (c : ConnSeen) → CallIs (flush l c).ledger requests.Flush [] [] [] (flush l c).ledger (flush l c).call
flush_is l c = (refl, refl, refl, refl, refl)

-- it hands on nothing
fine_unit : (start ledger : Ledger) (said : List FrontendMessage) (hs : List Frame) (items : List CallItem) (next : Request) → EndsFine start requests.Flush said hs items ledger (beats.HandsOn next) → ⊥
fine_unit start ledger said hs items next f = absurd (differs next f.1)
  where
    differs : (next : Request) → beats.Ends (Ok answers.Unit) ≡ beats.HandsOn next → ⊥
    differs next e = cc

flush_alone : (l : ℕ) (c b : ConnSeen) (answer : Poll Turn) → PollsThrough (flushing l c) b answer → Polled (flush l c) b (beat_of answer)
flush_alone l c b answer (now, asks, p) = by p.later p.last (subst (λ (x : ConnSeen). HandsOver x p.later p.last) (first now asks) p.hands) p.polled
  where
    first : (now : ConnSeen) → BeginsBy (flushing l c) now b answer → now ≡ flushing l c
    first now (inl is) = is
    first now (inr (is, refuses)) = is

    by : (later : List Request) (last : ConnSeen) → HandsOver (flushing l c) later last → Polled (resolved last) b (beat_of answer) → Polled (flush l c) b (beat_of answer)
    by [] last h polled = subst (λ (x : ConnSeen). Polled (resolved x) b (beat_of answer)) h polled
    by (next ∷ later) last h polled =
        let p = h.1.2 in
        let told = p.turns.3.tells (flush l c).ledger requests.Flush [] [] [] (flush_is l c) in
        absurd (fine_unit (flush l c).ledger p.stopped.ledger ([] ++ told.0) ([] ++ p.turns.2) [] h.1.0 told.3.1)

-- why it fails
front_fault : (b : StreamSeen) (a : StreamSeen) (start : Ledger) (own : List Group) (hs : List Frame) (e : Error) (c : ConnSeen) → FrontFails c start requests.Flush own hs e → UnaskedFault a c.stream e
front_fault b a start own hs errors.OutOfMemory c f = tt
front_fault b a start own hs (errors.Protocol (protocol.Server (faults.Malformed tag))) c f =
    (record { front = f.0; rest = f.1; whole = f.2; parts = f.4; tagged = sym f.5.0 }, λ m. f.5.1 m.0 m.1 m.2)
front_fault b a start own hs (errors.Protocol (protocol.Server (faults.Unlawful tag))) c f = absurd (no_group f.5.4.0 f.5.4.1)
  where
    no_group : (group : Group) → ◌≡◌ {A = List Group} [] (group ∷ []) → ⊥
    no_group group e = cc
front_fault b a start own hs (errors.Protocol (protocol.Server _)) c f = absurd f.5
front_fault b a start own hs (errors.Protocol _) c f = absurd f.5
front_fault b a start own hs _ c f = absurd f.5

ends_fault : (s c : ConnSeen) (start : Ledger) (said : List FrontendMessage) (fs hs : List Frame) (e : Error) → Takes s.stream c.stream fs → heard fs ≡ hs → CallEnds start requests.Flush said hs [] c.ledger (Err e) → NewsFault s.stream c.stream e
ends_fault s c start said fs hs (errors.Database error) t h f = (fs, f.1.0, t, h ∙ f.1.1, f.1.2)
ends_fault s c start said fs hs errors.RowNotFound t h f = absurd (differs f.1)
  where
    differs : beats.Ends (Ok answers.Unit) ≡ beats.Ends (Err errors.RowNotFound) → ⊥
    differs e = cc
ends_fault s c start said fs hs (errors.BeginFailed status) t h f = absurd (differs f.1)
  where
    differs : beats.Ends (Ok answers.Unit) ≡ beats.Ends (Err (errors.BeginFailed status)) → ⊥
    differs e = cc
ends_fault s c start said fs hs (errors.Protocol (protocol.Reply tag)) t h f = absurd (none f.0.0.own f.0.1 f.0.2)
  where
    none : (own : List Group) → own ≡ [] → length own ≡ 1 → ⊥
    none [] e l = cc
    none (g ∷ own) e l = cc
ends_fault s c start said fs hs (errors.Protocol (protocol.Caller fault)) t h f = absurd (differs f.4)
  where
    differs : ◌≡◌ {A = Error} (errors.Protocol (protocol.Caller fault)) errors.OutOfMemory → ⊥
    differs e = cc
ends_fault s c start said fs hs (errors.Protocol _) t h f = absurd f
ends_fault s c start said fs hs _ t h f = absurd f

no_look : (names : List Declared) → looks_for requests.Flush ≡ Some names → ⊥
no_look names e = cc

fails_fault : (s c : ConnSeen) (start : Ledger) (own : List Group) (hs : List Frame) (e : Error) → FailsBy s c start requests.Flush own hs e → NewsFault s.stream c.stream e
fails_fault s c start own hs e f = elim f [
  | inl h ↦ told_fault s.stream c.stream e (heard_fault s.stream c.stream e h.0)
  | inr (inl h) ↦ told_fault s.stream c.stream e (front_fault c.stream s.stream start own hs e c h)
  | inr (inr h) ↦ absurd (no_look h.0 h.1)
]

error_fault : (s c : ConnSeen) (start : Ledger) (said : List FrontendMessage) (fs hs : List Frame) (e : Error) → Takes s.stream c.stream fs → heard fs ≡ hs → EndsBy s c start requests.Flush said hs [] e → NewsFault s.stream c.stream e
error_fault s c start said fs hs e t h ends = elim ends [
  | inl f ↦ ends_fault s c start said fs hs e t h f
  | inr f ↦ fails_fault s c start f.0.own hs e f.2
]

pub broken_for : (e : Error) (broken : Option ServerFault) → broken ≡ broken_by (beats.Ends (Err e)) → BreaksBy broken (Ready (Err e))
broken_for (errors.Protocol (protocol.Server fault)) broken b = b
broken_for (errors.Protocol (protocol.Reply tag)) broken b = tt
broken_for (errors.Protocol _) broken b = tt
broken_for _ broken b = tt

-- the poll of a flush on a connection that is whole
abbrev Drained : ℕ → ConnSeen → ConnSeen → Poll (Result (Unit {0}) Error) → Type 0
Drained l a f drained = NewsStep l f.stream.left a.stream f.stream [] × DrainCause None f.stream.left (flushing l a).stream f drained × BreaksBy f.broken (without_news drained)

flush_step : (l : ℕ) (a f : ConnSeen) (q : List ℕ) (fs : List Frame) → a.stream.notifications.keeping ≡ true → Moves (flush l a).stream f.stream q fs → NewsStep l f.stream.left a.stream f.stream []
flush_step l a f q fs k m =
    let first = reads_flushing l a k in
    let step = step_moves (flushing l a).stream f.stream q fs m first.keeping in
    record {
      reads = ReadsNews-then a.stream (flushing l a).stream f.stream [] [] first step.reads;
      fewer = step.fewer;
      calls = subst (λ (x : LinkSeen). GrewBy (l - f.stream.left) x.calls f.stream.link.calls) (link_flushing l a) step.calls;
    }

drained_stopped : (l : ℕ) (a : ConnSeen) (drained : Poll (Result (Unit {0}) Error)) (f : ConnSeen) → a.stream.notifications.keeping ≡ true → Polled (flush l a) f (beat_of (turn_of unit_turn drained)) → Drained l a f drained
drained_stopped l a Pending f k p =
    let t = p.turns.3 in
    subst (λ (c : ConnSeen). Drained l a c Pending) (sym p.behind_is) (flush_step l a p.stopped p.turns.0 p.turns.1 k t.moves, t.cause.0, tt)
drained_stopped l a (Ready (Ok u)) f k p =
    let t = p.turns.3 in
    let told = t.tells (flush l a).ledger requests.Flush [] [] [] (flush_is l a) in
    subst (λ (c : ConnSeen). Drained l a c (Ready (Ok u))) (sym p.behind_is) (flush_step l a (settled p.stopped) p.turns.0 p.turns.1 k t.moves, (refl, p.whole, t.cause, t.moves.left, told.3.2, told.3.1.0.owes, refl), tt)
drained_stopped l a (Ready (Err e)) f k p =
    let t = p.turns.3 in
    let told = t.tells (flush l a).ledger requests.Flush [] [] [] (flush_is l a) in
    let fault = error_fault (flush l a) p.stopped (flush l a).ledger ([] ++ told.0) p.turns.1 ([] ++ p.turns.2) e t.moves.read t.hears told.3.1 in
    let broken : ConnSeen = record p.stopped { broken = broken_by (beats.Ends (Err e)) } in
    let stays : broken.change ≡ changes.Stays = ap (λ (x : Standing). x.change) t.started.3 in
    let same = cleaned_kept broken stays in
    let none = subst (λ (x : Change). (copies x broken.groups ≡ false) × (has_fed x broken.groups ≡ false)) (sym stays) (copies_none broken.groups) in
    let is : f ≡ cleaned broken = p.behind_is ∙ ap (λ (c : ConnSeen). cleaned c) (stays_unfed (ends_copy e) broken none.0 none.1) in
    let stream : f.stream ≡ p.stopped.stream = ap (λ (c : ConnSeen). c.stream) is ∙ same.stream in
    let behind : f.broken ≡ broken_by (beats.Ends (Err e)) = ap (λ (c : ConnSeen). c.broken) is ∙ same.broken in (
      subst (λ (s : StreamSeen). NewsStep l s.left a.stream s []) (sym stream) (flush_step l a p.stopped p.turns.0 p.turns.1 k t.moves),
      subst (λ (s : StreamSeen). NewsFault (flushing l a).stream s e) (sym stream) fault,
      broken_for e f.broken behind,
    )

-- and on one that the server broke
told_again : (fault : ServerFault) (drained : Poll (Result (Unit {0}) Error)) → beat_of (turn_of unit_turn drained) ≡ beats.Ends (Err (errors.Protocol (protocol.Server fault))) → drained ≡ Ready (Err (errors.Protocol (protocol.Server fault)))
told_again fault Pending e = absurd cc
told_again fault (Ready (Ok u)) e = absurd cc
told_again fault (Ready (Err error)) e = ap (λ (b : Beat). by b) e
  where
    by : Beat → Poll (Result (Unit {0}) Error)
    by (beats.Ends (Err x)) = Ready (Err x)
    by _ = Pending

drained_broken : (l : ℕ) (a : ConnSeen) (fault : ServerFault) → a.stream.notifications.keeping ≡ true → a.broken ≡ Some fault → Drains l l a (ended (idle (started_call requests.Flush a))) (Ready (Err (errors.Protocol (protocol.Server fault))))
drained_broken l a fault k b =
    let first = reads_quiet a.stream (started_call requests.Flush a).stream (started_quiet requests.Flush a) k in
    record {
      step = record { reads = first; fewer = omega arith; calls = subst (λ (x : LinkSeen). GrewBy (l - l) a.stream.link.calls x.calls) (sym (link_flushing l a)) (GrewBy-spent l a.stream.link.calls) };
      cause = rw b refl;
      breaks = broken_started a requests.Flush ∙ b;
    }

pub drains : (l now : ℕ) (a f : ConnSeen) (drained : Poll (Result (Unit {0}) Error)) → a.stream.notifications.keeping ≡ true → PollsWithin l (started_call requests.Flush a) f (turn_of unit_turn drained) → (a.broken ≡ None → now ≡ f.stream.left) → (IsSome a.broken → now ≡ l) → Drains l now a f drained
drains l now a f drained k p rest same = by a.broken refl (subst (λ (o : Option ServerFault). PollsBy o (flushing l a) (started_call requests.Flush a) f (turn_of unit_turn drained)) (broken_started a requests.Flush) p)
  where
    by : (o : Option ServerFault) → a.broken ≡ o → PollsBy o (flushing l a) (started_call requests.Flush a) f (turn_of unit_turn drained) → Drains l now a f drained
    by None b p =
        let d = drained_stopped l a drained f k (flush_alone l a f (turn_of unit_turn drained) p) in
        rw (rest b) (record { step = d.0; cause = subst (λ (o : Option ServerFault). DrainCause o f.stream.left (flushing l a).stream f drained) (sym b) d.1; breaks = d.2 })
    by (Some fault) b p = rw (same (rw b refl), p.0, told_again fault drained p.1) (drained_broken l a fault k b)

pub drains_seen : {A : Type 0} (seen : A → LinkSeen) (l now : ℕ) (a s f : ConnOf A) (drained : Poll (Result (Unit {0}) Error)) → a.stream.notifications.keeping ≡ true → s ≡ started_call requests.Flush a → PollsWithin l (seen_by seen s) (seen_by seen f) (turn_of unit_turn drained)
    → (s.broken ≡ None → now ≡ f.stream.left) → (IsSome s.broken → now ≡ l) → Drains l now (seen_by seen a) (seen_by seen f) drained
drains_seen {A} seen l now a s f drained k e p rest same =
    let start : seen_by seen s ≡ started_call requests.Flush (seen_by seen a) = ap (λ (c : ConnOf A). seen_by seen c) e ∙ seen_started seen requests.Flush a in
    let broken : s.broken ≡ a.broken = ap (λ (c : ConnSeen). c.broken) start ∙ broken_started (seen_by seen a) requests.Flush in
    drains l now (seen_by seen a) (seen_by seen f) drained k (subst (λ (c : ConnSeen). PollsWithin l c (seen_by seen f) (turn_of unit_turn drained)) start p) (λ b. rest (broken ∙ b)) (λ b. same (rw broken b))

-- ---- the whole poll

-- there was none that is kept
pub untaken : {A : Type 0} (c d : ConnOf A) → d ≡ with_kept d.stream.notifications c → TakesOldest c.stream.notifications d.stream.notifications None → (d ≡ c) × (c.stream.notifications.kept ≡ [])
untaken c d e t = (e ∙ ap (λ (n : KeptSeen). with_kept n c) t.1, t.0)

pub finds_after : (l m now : ℕ) (a f b : ConnSeen) (answer : Poll (Result Notification Error)) → Drains l m a f (Ready (Ok tt)) → AwaitsNews f.stream b.stream answer → now ≡ b.stream.left → BreaksBy b.broken answer → FindsNews l now a b answer
finds_after l m now a f b answer d w e breaks =
    let c = d.cause in
    rw e (record { step = by answer w.step; cause = why answer w.cause; breaks = breaks })
  where
    first : NewsStep l f.stream.left a.stream f.stream []
    first = subst (λ (n : ℕ). NewsStep l n a.stream f.stream []) d.cause.6 d.step

    by : (answer : Poll (Result Notification Error)) → NewsStep f.stream.left b.stream.left f.stream b.stream (given answer) → NewsStep l b.stream.left a.stream b.stream (given answer)
    by answer w = NewsStep-then l f.stream.left b.stream.left a.stream f.stream b.stream [] (given answer) first w

    link : NoneFalls (flushing l a).stream.link f.stream.link
    link = subst (λ (x : LinkSeen). NoneFalls x f.stream.link) (sym (link_flushing l a)) d.step.reads.counts

    why : (answer : Poll (Result Notification Error)) → UnaskedCause f.stream b.stream answer → NewsCause a.broken (flushing l a).stream b.stream answer
    why (Ready (Ok n)) c = tt
    why (Ready (Err e)) c = subst (λ (o : Option ServerFault). NewsFails o (flushing l a).stream b.stream e) (sym d.cause.0) (told_fault (flushing l a).stream b.stream e (UnaskedFault-after (flushing l a).stream f.stream b.stream e link c))
    why Pending c = (PendingCause-after (flushing l a).stream f.stream b.stream d.cause.2 d.cause.3 w.step.fewer c.0, c.1)

pub finds_none : (l now : ℕ) (a f : ConnSeen) → Drains l now a f Pending → f.stream.notifications.kept ≡ [] → FindsNews l now a f Pending
finds_none l now a f d none = record { step = d.step; cause = (d.cause, none); breaks = tt }

pub finds_fault : (l now : ℕ) (a f : ConnSeen) (e : Error) → Drains l now a f (Ready (Err e)) → FindsNews l now a f (Ready (Err e))
finds_fault l now a f e d = record { step = d.step; cause = d.cause; breaks = d.breaks }

pub finds_kept : (l now : ℕ) (a f b : ConnSeen) (drained : Poll (Result (Unit {0}) Error)) (n : Notification) → Drains l now a f drained → b ≡ with_kept b.stream.notifications f → TakesOldest f.stream.notifications b.stream.notifications (Some n) → FindsNews l now a b (Ready (Ok n))
finds_kept l now a f b drained n d e t = record { step = step_given l now a.stream f.stream b.stream n d.step (ap (λ (c : ConnSeen). c.stream) e) t; cause = tt; breaks = tt }

head_same : {x y : Notification} {xs ys : List Notification} → x ∷ xs ≡ y ∷ ys → x ≡ y
head_same e = cc

tail_same : {x y : Notification} {xs ys : List Notification} → x ∷ xs ≡ y ∷ ys → xs ≡ ys
tail_same e = cc

-- one that was kept before
pub gives_oldest : (l now : ℕ) (a b : ConnSeen) (n : Notification) → a.stream.notifications.keeping ≡ true → now ≡ l → b ≡ with_kept b.stream.notifications a → TakesOldest a.stream.notifications b.stream.notifications (Some n) → PollsNews l now a b (Ready (Ok n))
gives_oldest l now a b n k still e t =
    let m = step_moves a.stream a.stream [] [] (Moves-none a.stream) k in
    let none : NewsStep l now a.stream a.stream [] = rw still (record { reads = m.reads; fewer = omega arith; calls = GrewBy-spent l a.stream.link.calls }) in
    record { finds = record { step = step_given l now a.stream a.stream b.stream n none (ap (λ (c : ConnSeen). c.stream) e) t; cause = tt; breaks = tt }; oldest = first a.stream.notifications.kept refl }
  where
    first : (kept : List Notification) → a.stream.notifications.kept ≡ kept → GivesKept l now a b (Ready (Ok n)) kept
    first [] i = tt
    first (oldest ∷ later) i =
        let both : n ∷ b.stream.notifications.kept ≡ oldest ∷ later = ap (λ (x : KeptSeen). x.kept) (sym t) ∙ i in
        let same : b.stream.notifications ≡ record a.stream.notifications { kept = later } = ap (λ (x : KeptSeen). record x { kept = b.stream.notifications.kept }) (sym t) ∙ ap (λ (l : List Notification). record a.stream.notifications { kept = l }) (tail_same both) in
        (ap (λ (x : Notification). Ready (Ok x)) (head_same both), still, e ∙ ap (λ (x : KeptSeen). with_kept x a) same)

pub polls_behind : (l now : ℕ) (a b : ConnSeen) (answer : Poll (Result Notification Error)) → a.stream.notifications.kept ≡ [] → FindsNews l now a b answer → PollsNews l now a b answer
polls_behind l now a b answer none f = record { finds = f; oldest = rw none tt }

-- ---- any other call

pub reads_started : (r : Request) (c : ConnSeen) → c.stream.notifications.keeping ≡ true → ReadsNews c.stream (started_call r c).stream []
reads_started r c k = reads_quiet c.stream (started_call r c).stream (started_quiet r c) k

pub reads_left : (c : ConnSeen) → c.stream.notifications.keeping ≡ true → ReadsNews c.stream (left c).stream []
reads_left c k = reads_quiet c.stream (left c).stream (queued_quiet c (left c) (left_queued c)) k

reads_behind : (beat : Beat) (c : ConnSeen) → c.stream.notifications.keeping ≡ true → ReadsNews c.stream (behind beat c).stream []
reads_behind (beats.Ends (Ok answer)) c k = reads_quiet c.stream c.stream refl k
reads_behind (beats.HandsOn next) c k = reads_quiet c.stream c.stream refl k
reads_behind (beats.Ends (Err e)) c k =
    let broken : ConnSeen = record c { broken = broken_by (beats.Ends (Err e)) } in
    let d = cleaned (unfed (ends_copy e) broken) in
    reads_quiet c.stream d.stream (queued_quiet broken d (ended_queued (ends_copy e) broken)) k
reads_behind beats.More c k = reads_quiet c.stream c.stream refl k
reads_behind beats.Waits c k = reads_quiet c.stream c.stream refl k
reads_behind (beats.Yields item) c k = reads_quiet c.stream c.stream refl k
reads_behind (beats.Opens opened) c k = reads_quiet c.stream c.stream refl k

resolved_stream : (c : ConnSeen) → (resolved c).stream ≡ c.stream
resolved_stream c = by c.call
  where
    by : (call : Call) → (resolved_by call c).stream ≡ c.stream
    by (calls.Asked r) = refl
    by _ = refl

reads_polled : (a b : ConnSeen) (beat : Beat) → Polled (resolved a) b beat → a.stream.notifications.keeping ≡ true → ReadsNews a.stream b.stream []
reads_polled a b beat p k =
    let first : ReadsNews a.stream p.stopped.stream [] = reads_moves a.stream p.stopped.stream p.turns.0 p.turns.1 (subst (λ (s : StreamSeen). Moves s p.stopped.stream p.turns.0 p.turns.1) (resolved_stream a) p.turns.3.moves) k in
    ReadsNews-then a.stream p.stopped.stream b.stream [] [] first (subst (λ (c : ConnSeen). ReadsNews p.stopped.stream c.stream []) (sym p.behind_is) (reads_behind beat p.stopped first.keeping))

reads_through : (a begun b : ConnSeen) (answer : Poll Turn) → PollsThrough begun b answer → ReadsNews a.stream begun.stream [] → ReadsNews a.stream b.stream []
reads_through a begun b answer (now, asks, p) begins =
    let first = begins_keep (λ (c : ConnSeen). ReadsNews a.stream c.stream []) (λ c h. subst (λ (s : StreamSeen). ReadsNews a.stream s []) (sym (resolved_stream c)) h) (λ b told next learnt u h. h) begun now b answer asks begins in
    let on = λ (x m : ConnSeen) (next : Request) (q : Polled (resolved x) m (beats.HandsOn next)) (h : ReadsNews a.stream x.stream []). ReadsNews-then a.stream x.stream m.stream [] [] h (reads_polled x m (beats.HandsOn next) q h.keeping) in
    let last = hands_keep (λ (c : ConnSeen). ReadsNews a.stream c.stream []) on (λ b told next learnt u h. h) p.later now p.last p.hands first in
    ReadsNews-then a.stream p.last.stream b.stream [] [] last (reads_polled p.last b (beat_of answer) p.polled last.keeping)

reads_by : (o : Option ServerFault) (a begun b : ConnSeen) (answer : Poll Turn) → PollsBy o begun a b answer → a.stream.notifications.keeping ≡ true → ReadsNews a.stream begun.stream [] → ReadsNews a.stream b.stream []
reads_by None a begun b answer p k first = reads_through a begun b answer p first
reads_by (Some fault) a begun b answer p k first = subst (λ (c : ConnSeen). ReadsNews a.stream c.stream []) (sym p.0) (reads_quiet a.stream a.stream refl k)

pub reads_within : (l : ℕ) (a b : ConnSeen) (answer : Poll Turn) → PollsWithin l a b answer → a.stream.notifications.keeping ≡ true → ReadsNews a.stream b.stream []
reads_within l a b answer p k = reads_by a.broken a (begun_with l a) b answer p k (reads_quiet a.stream (begun_with l a).stream refl k)

pub reads_more : (a b : ConnSeen) (answer : Poll Turn) → PollsMore a b answer → a.stream.notifications.keeping ≡ true → ReadsNews a.stream b.stream []
reads_more a b answer p k = reads_by a.broken a a b answer p k (reads_quiet a.stream a.stream refl k)

-- the poll of a state, which begins its call where it is the first
pub reads_state : {A : Type 0} (seen : A → LinkSeen) (request : Option Request) (a b : ConnOf A) (answer : Poll Turn) → PollsCall (seen_by seen (begun_by request a)) (seen_by seen b) answer → a.stream.notifications.keeping ≡ true
    → ReadsNews (stream_by seen a.stream) (stream_by seen b.stream) []
reads_state seen None a b answer p k = reads_within 256 (seen_by seen a) (seen_by seen b) answer p k
reads_state {A} seen (Some r) a b answer p k =
    let s : ConnSeen = started_call r (seen_by seen a) in
    let first = reads_started r (seen_by seen a) k in
    let polls : PollsCall s (seen_by seen b) answer = subst (λ (c : ConnSeen). PollsCall c (seen_by seen b) answer) (seen_started seen r a) p in
    ReadsNews-then (stream_by seen a.stream) s.stream (stream_by seen b.stream) [] [] first (reads_within 256 s (seen_by seen b) answer polls first.keeping)
