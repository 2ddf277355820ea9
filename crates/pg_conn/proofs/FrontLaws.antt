-- What a message of the server makes of a call, and what is left to send.
use Rattle.std.proofs.Common.{take_at, take, drop, ◌≡◌, ◌≢◌, ℕ, ◌+◌, ◌-◌, ◌<◌, ◌≤◌, inl, inr, Bool, true, false, ◌&&◌, ◌==◌, List, [], ◌∷◌, ◌++◌, length, refl, sym, ap, ◌∙◌, subst, append-nil, arith, ne_eqb, Ok, Err, Result, IfOk, IfErr, OnErr, Some}
use Rattle.pg_wire.proofs.Tests.{both_true}
use Rattle.pg_call.specs.declared.kind.Kind.{Kind}
use Rattle.pg_call.specs.declared.kind.Kind.TheVariants as kinds
use Rattle.std.proofs.lemmas.Bool.{eqb-true}
use Rattle.std.proofs.lemmas.List.{same_from_push}
use Rattle.futures.specs.declared.task.Poll.TheVariants.{Ready, Pending}
use Rattle.pg_wire.specs.declared.error.Error.{Error}
use Rattle.pg_wire.specs.declared.error.Error.TheVariants as errors
use Rattle.pg_wire.specs.declared.error.IoCause.TheVariants as io
use Rattle.pg_wire.specs.Frame.{Frame}
use Rattle.pg_wire.specs.Frontend.{FrontendMessage}
use Rattle.pg_wire.specs.Parts.{heard, is_asynchronous, is_ready}
use Rattle.pg_wire.specs.Backend.{Values, DataRow, backend_frame, HasBackendFrame}
use Rattle.pg_learning.specs.Learning.{TakesRow}
use Rattle.pg_learning.specs.declared.learnt.Learnt.{Learnt}
use Rattle.pg_conn.specs.Looking.{AreHeard, Learns, TakesFront, looks_for, wanted_by}
use Rattle.pg_request.specs.declared.naming.Declared.{Declared}
use Rattle.pg_wire.specs.Decoding.{Says}
use Rattle.pg_stream.specs.Links.{LinkSeen, GrewBy}
use Rattle.pg_stream.specs.declared.stream.Front.{Front}
use Rattle.pg_stream.specs.Streams.{fuel_of, StreamOf, StreamSeen, stream_by, Moves, AllMoved, Passes, IsFrontOf, IsHeardFront, AreAsynchronous, PollsAhead, PollsSend, SendGives, PendingCause}
use Rattle.pg_stream.proofs.StreamLemmas.{NoneWaited-none, Moves-none, Moves-then, AllMoved-then, queues_by, took_frame, front_frame, IsFront-from_heard}
use Rattle.pg_call.specs.declared.request.Request.{Request}
use Rattle.pg_call.specs.declared.request.Request.TheVariants as requests
use Rattle.pg_rows.specs.Rows.{RowSeen}
use Rattle.pg_call.specs.declared.answer.CallItem.{CallItem}
use Rattle.pg_call.specs.declared.answer.CallItem.TheVariants.{Row}
use Rattle.pg_call.specs.declared.ledger.Ledger.{Ledger}
use Rattle.pg_call.specs.declared.waiting.Waiting.{Waiting}
use Rattle.pg_call.specs.declared.calling.Call.{Call}
use Rattle.pg_call.specs.declared.calling.Call.TheVariants as calls
use Rattle.pg_call.specs.declared.calling.Beat.{Beat}
use Rattle.pg_call.specs.declared.calling.Beat.TheVariants as beats
use Rattle.pg_call.specs.declared.calling.Taken.{Taken}
use Rattle.pg_call.specs.declared.running.Running.{Running}
use Rattle.pg_call.specs.Requests.{Group, spelled, kind_of, rest_of, is_flush, is_close}
use Rattle.pg_call.specs.Hearing.{framed, fails_of, awaits, is_look, looks_up, sent_answer, IsReplied}
use Rattle.pg_call.specs.declared.after.Rest.{Rest}
use Rattle.pg_call.specs.Items.{yields}
use Rattle.pg_call.specs.Calls.{CallIs, IsAwaiting, CallEnds, CallTakes, Leaves, EndsByReady, PassesOf, PassesRowOf, StaysIn, TakesMessage, RefusesMessage}
use Rattle.pg_call.proofs.CallLaws.{own_errs}
use Rattle.pg_call.proofs.FitLaws.{shown_fits}
use Rattle.pg_call.proofs.LeaveLaws.{leaves_call, call_well, closing_fine, flush_fine}
use Rattle.pg_conn.specs.Connections.{ConnOf, ConnSeen, Standing, standing, seen_by, begun_with, idle, with_spare, queued_call, awaiting, closing, frames_in}
use Rattle.pg_conn.specs.Statements.{moved}
use Rattle.pg_conn.specs.Turns.{TakesHeard, HearsBy, kept_for, HearsFront, running_of, IsMissed, FailsBy, Tells, BeatCause, TakesBeat, IsAsked, cleanup_of, only_sends, Readies, Accepts, queued_copy_fail, level_of, behind, LearnsFrom, PassesFront, ShowsAtOnce, ShowsFront, TakesIn, TakesPlainly}
use Rattle.pg_startup.proofs.GreetLaws.{heard_none, heard_one}
use Rattle.pg_conn.proofs.OwedLaws.{is_Z, no_groups, none_asked}
use Rattle.pg_conn.proofs.TurnLaws.{TakesBeat-then, grew-none, Keeps, keeps, keeps_idle, same_level, stays, starved, refused, asks_reply, asks_nothing, kept}

-- ---- messages

-- a call that hears is owed a reply
awaiting_owed : (start : Ledger) (r : Request) (said : List FrontendMessage) (hs : List Frame) (items : List CallItem) (ledger : Ledger) (call : Call) → IsAwaiting ledger call → CallIs start r said hs items ledger call → 0 < ledger.owed
awaiting_owed start r said hs items ledger (calls.Waiting w) h i = h
awaiting_owed start r said hs items ledger (calls.Own reply) h i = rw i.0 (omega arith)
awaiting_owed start r said hs items ledger (calls.Asked asked) h i = absurd h
awaiting_owed start r said hs items ledger calls.Closing h i = absurd h
awaiting_owed start r said hs items ledger calls.Idle h i = absurd i

-- asynchronous messages alone were taken
asides : (a b : ConnSeen) (beat : Beat) (aside : List Frame) → AreAsynchronous aside → Moves a.stream b.stream [] aside → BeatCause a b beat → Keeps a.call b.call → b.broken ≡ a.broken → b.heard ≡ a.heard → b.groups ≡ a.groups → b.sent ≡ a.sent → b.read ≡ a.read → b.rule ≡ a.rule → standing b ≡ standing a → b.learnt ≡ a.learnt
    → ((start : Ledger) (r : Request) (said : List FrontendMessage) (hs : List Frame) (items : List CallItem) → CallIs start r said hs items a.ledger a.call → Tells a b start r said hs items beat)
    → TakesBeat a b beat
asides a b beat aside n m c keep k h g s t d e l tells = (
  [],
  aside,
  [],
  record {
    moves = m;
    hears = heard_none aside n;
    cause = c;
    broken = k;
    counted = rw h (grew-none a.heard);
    started = (s, t, d, e);
    learns = ([], tt, l);
    asked = keep.0;
    in_turn = λ start r said hs items i. none_asked a b beat [] aside [] start r said hs items m (heard_none aside n) refl i (rw (append-nil said, append-nil hs) (tells start r said hs items i));
    room = λ n l r. omega (arith, r, keep.1, m.spare, same_level a.change b.change a.groups b.groups (ap (λ (x : Standing). x.change) e) g);
    tells = λ start r said hs items i. ([], refl, rw g (grew-none a.groups), rw (append-nil said, append-nil hs) (tells start r said hs items i));
  },
)

-- and does more than send
hears_more : (ledger : Ledger) (call : Call) → IsAwaiting ledger call → only_sends ledger call ≡ true → ⊥
hears_more ledger (calls.Waiting w) h s = let z = eqb-true _ _ (both_true (is_flush w.kind) (ledger.owed == 0) s).1 in omega (arith, h, z)
hears_more ledger (calls.Own reply) h s = absurd cc
hears_more ledger (calls.Asked asked) h s = absurd h
hears_more ledger calls.Closing h s = absurd h
hears_more ledger calls.Idle h s = absurd cc

abbrev pub over_stream : ConnSeen → StreamSeen → ConnSeen
over_stream a t = record a { stream = t }

pub hears_nothing : (a : ConnSeen) (t : StreamSeen) → IsAwaiting a.ledger a.call → PollsAhead a.stream t Pending → TakesBeat a (over_stream a t) beats.Waits
hears_nothing a t w p = asides a (over_stream a t) beats.Waits p.0 p.1 p.2 (p.3, λ s. absurd (hears_more a.ledger a.call w s)) (keeps a.call) refl refl refl refl refl refl refl refl (λ start r said hs items i. (i, inl (awaiting_owed start r said hs items a.ledger a.call w i)))

missed : (ledger : Ledger) (e : Error) → 0 < ledger.owed → IsMissed ledger e
missed ledger (errors.Io io.End) h = h
missed ledger _ h = tt

pub hears_fault : (a : ConnSeen) (t : StreamSeen) (e : Error) → IsAwaiting a.ledger a.call → PollsAhead a.stream t (Ready (Err e)) → TakesBeat a (idle (over_stream a t)) (beats.Ends (Err e))
hears_fault a t e w p = asides a (idle (over_stream a t)) (beats.Ends (Err e)) p.0 p.1 p.2 p.5 (keeps_idle a.call) refl refl refl refl refl refl refl refl (λ start r said hs items i.
    (refl, inr (leaves_call start r said hs items a.ledger a.call i, call_well start r said hs items a.ledger a.call i, inl (p.3, missed a.ledger e (awaiting_owed start r said hs items a.ledger a.call w i)))))

pub hears_front : (a : ConnSeen) (t : StreamSeen) (front : Front) → PollsAhead a.stream t (Ready (Ok front)) → TakesBeat a (over_stream a t) beats.More
hears_front a t front p = asides a (over_stream a t) beats.More p.0 p.1 p.2 p.4 (keeps a.call) refl refl refl refl refl refl refl refl (λ start r said hs items i. i)

-- the cleanup reserve has grown
pub makes_room : (a : ConnSeen) (n : ℕ) → Moves a.stream (with_spare n a).stream [] [] × AllMoved a.stream (with_spare n a).stream → TakesBeat a (with_spare n a) beats.More
makes_room a n m = stays a (with_spare n a) beats.More m.0 m.1 (keeps a.call) refl refl refl refl refl refl refl refl (λ start r said hs items i. i)

-- ---- a message that is refused

pub front_refused : (a : ConnSeen) (front : Front) (body rest : List ℕ) (e : Error) → IsHeardFront a.stream.held front → IsFrontOf a.stream.held front (framed front.tag body) rest
    → RefusesMessage front.tag body (record { ledger = a.ledger; call = a.call }) e → TakesBeat a (idle a) (beats.Ends (Err e))
front_refused a front body rest e f of refuses = stays a (idle a) (beats.Ends (Err e)) (Moves-none a.stream) (NoneWaited-none a.stream) (keeps_idle a.call) refl refl refl refl refl refl refl refl (λ start r said hs items i.
    let x = refuses start r said hs items i in
    (refl, inr (x.0, x.1, inr (inl (framed front.tag body, rest, of.whole, heard_front a.stream.held front (framed front.tag body) rest f of, of.parts, x.2)))))
  where
    heard_front : (held : List ℕ) (front : Front) (frame : Frame) (rest : List ℕ) → IsHeardFront held front → IsFrontOf held front frame rest → is_asynchronous frame ≡ false
    heard_front held front frame rest f of = rw (of.tag) (rw (f.2.tag) at f.3)

-- ---- a message that is taken

-- a reply ends by its last message, for which no CopyFail is due
ready_last : (hs : List Frame) (f : Frame) → EndsByReady (hs ++ f ∷ []) → is_ready f ≡ true
ready_last [] f (inl e) = absurd cc
ready_last (h ∷ hs) f (inl e) = absurd cc
ready_last hs f (inr p) = let same = same_from_push hs p.0 f p.1 p.2 in rw same.1 p.3

plain_end : (fails : Bool) (f : Frame) → is_ready f ≡ true → (fails ≡ true → f.tag ≡ 71) → fails ≡ false
plain_end false f z copy = refl
plain_end true f z copy = let g = copy refl in let k = is_Z f z in absurd (omega (arith, g, k))

told : (a b : ConnSeen) (start : Ledger) (r : Request) (said : List FrontendMessage) (hs : List Frame) (f : Frame) (items : List CallItem) (beat : Beat) (fails : Bool) → (fails ≡ true → f.tag ≡ 71) → (fails ≡ false → b.stream.unsent ≡ [])
    → CallTakes start r said (hs ++ f ∷ []) items b.ledger b.call beat → Tells a b start r said (hs ++ f ∷ []) items beat
told a b start r said hs f items beats.More fails copy sent h = h
told a b start r said hs f items beats.Waits fails copy sent h = absurd h
told a b start r said hs f items (beats.Yields item) fails copy sent h = h
told a b start r said hs f items (beats.Opens opened) fails copy sent h = h
told a b start r said hs f items (beats.Ends (Ok answer)) fails copy sent h = (h.0, h.1, sent (plain_end fails f (ready_last hs f h.1.0.ends) copy))
told a b start r said hs f items (beats.Ends (Err e)) fails copy sent h = (h.0, inl h.1)
told a b start r said hs f items (beats.HandsOn next) fails copy sent h = (h.0, h.1, sent (plain_end fails f (ready_last hs f h.1.0.ends) copy))

taken_cause : (a b : ConnSeen) (beat : Beat) → (beat ≢ beats.Waits) → AllMoved a.stream b.stream → BeatCause a b beat
taken_cause a b beats.More n h = h
taken_cause a b beats.Waits n h = absurd (n refl)
taken_cause a b (beats.Yields item) n h = h.2
taken_cause a b (beats.Opens opened) n h = h.2
taken_cause a b (beats.Ends (Ok answer)) n h = h
taken_cause a b (beats.HandsOn next) n h = h
taken_cause a b (beats.Ends (Err e)) n h = h.2

fails_fit : (fails : Bool) (n : ℕ) → (fails ≡ true → 57 ≤ n) → n ≤ (n - length (spelled (fails_of fails))) + length (spelled (fails_of fails))
fails_fit true n h = let k = h refl in omega (arith, k)
fails_fit false n h = omega arith

pub not_asked : (call : Call) → ((request : Request) → call ≡ calls.Asked request → ⊥) → IsAsked call → ⊥
not_asked (calls.Asked request) n h = n request refl
not_asked calls.Idle n h = h
not_asked (calls.Waiting w) n h = h
not_asked (calls.Own reply) n h = h
not_asked calls.Closing n h = h

-- a message asks no call, and queues what it has room for
stays_asked : (before : Call) (fails : Bool) (behind : Call) → StaysIn before fails behind → IsAsked behind → IsAsked before
stays_asked calls.Idle fails (calls.Asked request) s i = absurd s
stays_asked (calls.Asked request) fails behind s i = tt
stays_asked (calls.Waiting w) fails (calls.Asked request) s i = absurd s
stays_asked (calls.Own reply) fails (calls.Asked request) s i = absurd s
stays_asked calls.Closing fails (calls.Asked request) s i = absurd s
stays_asked before fails calls.Idle s i = absurd i
stays_asked before fails (calls.Waiting w) s i = absurd i
stays_asked before fails (calls.Own reply) s i = absurd i
stays_asked before fails calls.Closing s i = absurd i

spares : (fails : Bool) (k n c : ℕ) → (fails ≡ true → k + 57 ≤ n) → k + c ≤ n → k + 0 ≤ n - length (spelled (fails_of fails))
spares true k n c h r = let x = h refl in omega (arith, x)
spares false k n c h r = omega (arith, r)

stays_room : (before : Call) (fails : Bool) (behind : Call) (k n : ℕ) → StaysIn before fails behind → (fails ≡ true → k + 57 ≤ n) → k + cleanup_of before ≤ n → k + cleanup_of behind ≤ n - length (spelled (fails_of fails))
stays_room (calls.Own old) fails (calls.Own new) k n s h r = rw s (omega (arith, r))
stays_room calls.Idle fails (calls.Own new) k n s h r = absurd s
stays_room (calls.Asked request) fails (calls.Own new) k n s h r = absurd s
stays_room (calls.Waiting w) fails (calls.Own new) k n s h r = absurd s
stays_room calls.Closing fails (calls.Own new) k n s h r = absurd s
stays_room before fails calls.Idle k n s h r = spares fails k n (cleanup_of before) h r
stays_room before fails (calls.Asked request) k n s h r = spares fails k n (cleanup_of before) h r
stays_room before fails (calls.Waiting w) k n s h r = spares fails k n (cleanup_of before) h r
stays_room before fails calls.Closing k n s h r = spares fails k n (cleanup_of before) h r

-- ---- over a link

room_moves : {A : Type 0} (seen : A → LinkSeen) (a : ConnOf A) (n : ℕ) → a.stream.spare ≤ n
    → Moves (stream_by seen a.stream) (stream_by seen (with_spare n a).stream) [] [] × AllMoved (stream_by seen a.stream) (stream_by seen (with_spare n a).stream)
room_moves {A} seen a n le = queues_by seen a.stream (with_spare n a).stream [] n (omega (arith, le)) (ap (λ (u : List ℕ). record a.stream { unsent = u; spare = n }) (sym (append-nil a.stream.unsent)))

-- memory is wanting, though the reserve may have grown
pub starves : {A : Type 0} (seen : A → LinkSeen) (a r b : ConnOf A) (e : Error) (beat : Beat) → r ≡ with_spare r.stream.spare a → a.stream.spare ≤ r.stream.spare → e ≡ errors.OutOfMemory → b ≡ idle r → beat ≡ beats.Ends (Err e) → TakesBeat (seen_by seen a) (seen_by seen b) beat
starves {A} seen a r b e beat room le oom is ends =
    let n = r.stream.spare in
    let m = room_moves seen a n le in
    rw (ends, oom) (subst (λ (x : ConnOf A). TakesBeat (seen_by seen a) (seen_by seen x) (beats.Ends (Err errors.OutOfMemory))) (sym (is ∙ ap (λ (x : ConnOf A). idle x) room)) (starved (seen_by seen a) n m.0))

-- what waited is queued
queued_moves : {A : Type 0} (seen : A → LinkSeen) (a : ConnOf A) (n : ℕ) (w : Waiting) → a.call ≡ calls.Waiting w → a.stream.spare ≤ n
    → Moves (stream_by seen a.stream) (stream_by seen (queued_call n a).stream) w.frames [] × AllMoved (stream_by seen a.stream) (stream_by seen (queued_call n a).stream)
queued_moves {A} seen a n w k le =
    queues_by seen a.stream (queued_call n a).stream w.frames n (omega (arith, le)) (ap (λ (c : Call). record a.stream { unsent = a.stream.unsent ++ frames_in c; spare = n }) k)

pub asks_closing : {A : Type 0} (seen : A → LinkSeen) (a q b : ConnOf A) (w : Waiting) → a.call ≡ calls.Waiting w → a.ledger.owed ≡ 0 → is_close w.kind ≡ true → a.stream.spare ≤ q.stream.spare → kept_for q + level_of q.change 1 + 128 ≤ q.stream.spare → q ≡ queued_call q.stream.spare a → b ≡ closing q
    → Readies (seen_by seen a) (seen_by seen b)
asks_closing {A} seen a q b w k z c le room is closes =
    let n = q.stream.spare in
    let kept = subst (λ (x : ConnOf A). kept_for x + level_of x.change 1 + 128 ≤ n) is room in
    subst (λ (x : ConnOf A). Readies (seen_by seen a) (seen_by seen x)) (sym (closes ∙ ap (λ (x : ConnOf A). closing x) is)) (asks_nothing (seen_by seen a) n w k z c (queued_moves seen a n w k le) kept)

pub asks_own : {A : Type 0} (seen : A → LinkSeen) (a q b : ConnOf A) (w : Waiting) → a.call ≡ calls.Waiting w → a.ledger.owed ≡ 0 → only_sends a.ledger a.call ≡ false → is_close w.kind ≡ false → a.stream.spare ≤ q.stream.spare → kept_for q + level_of q.change 1 + 128 ≤ q.stream.spare → q ≡ queued_call q.stream.spare a
    → b ≡ awaiting b.groups q → GrewBy 1 q.groups b.groups → Readies (seen_by seen a) (seen_by seen b)
asks_own {A} seen a q b w k z f c le room is awaits grew =
    let n = q.stream.spare in
    let g = b.groups in
    let same : q.groups ≡ a.groups = ap (λ (x : ConnOf A). x.groups) is in
    let kept = subst (λ (x : ConnOf A). kept_for x + level_of x.change 1 + 128 ≤ n) is room in
    subst (λ (x : ConnOf A). Readies (seen_by seen a) (seen_by seen x)) (sym (awaits ∙ ap (λ (x : ConnOf A). awaiting g x) is)) (asks_reply (seen_by seen a) n g w k z f c (queued_moves seen a n w k le) kept (rw same at grew))

pub with_room : {A : Type 0} (seen : A → LinkSeen) (a r : ConnOf A) → r ≡ with_spare r.stream.spare a → a.stream.spare ≤ r.stream.spare → TakesBeat (seen_by seen a) (seen_by seen r) beats.More
with_room {A} seen a r room le =
    let n = r.stream.spare in
    subst (λ (x : ConnOf A). TakesBeat (seen_by seen a) (seen_by seen x) beats.More) (sym room) (makes_room (seen_by seen a) n (room_moves seen a n le))

heard_tag : (front : Front) (held : List ℕ) (body rest : List ℕ) → IsHeardFront held front → IsFrontOf held front (framed front.tag body) rest → is_asynchronous (framed front.tag body) ≡ false
heard_tag front held body rest f of = rw f.2.tag at f.3

-- a message at the front is taken
taken_moves : {A : Type 0} (seen : A → LinkSeen) (a t : StreamOf A) (front : Front) (body rest : List ℕ) (fails : Bool) → IsHeardFront a.held front → IsFrontOf a.held front (framed front.tag body) rest → (fails ≡ true → 57 ≤ t.spare) → Passes front a t
    → Moves (stream_by seen a) (stream_by seen (queued_copy_fail fails t)) (spelled (fails_of fails)) (framed front.tag body ∷ []) × AllMoved (stream_by seen a) (stream_by seen (queued_copy_fail fails t))
taken_moves seen a t front body rest fails f of room p =
    let q = spelled (fails_of fails) in
    let frame = framed front.tag body in
    let took = took_frame seen a t front frame rest of (heard_tag front a.held body rest f of) p in
    let queued = queues_by seen t (queued_copy_fail fails t) q (t.spare - length q) (fails_fit fails t.spare room) refl in (
      Moves-then (stream_by seen a) (stream_by seen t) (stream_by seen (queued_copy_fail fails t)) [] q (frame ∷ []) [] took.0 queued.0,
      AllMoved-then (stream_by seen a) (stream_by seen t) (stream_by seen (queued_copy_fail fails t)) took.1 took.0.left queued.1 queued.0.left,
    )

sends_none : {A : Type 0} (t : StreamOf A) (fails : Bool) → t.unsent ≡ [] → fails ≡ false → (queued_copy_fail fails t).unsent ≡ []
sends_none t false u e = append-nil t.unsent ∙ u
sends_none t true u e = absurd cc

-- the message at the front was taken, what it tells was learnt, and this is what the call has come to
takes_by : {A : Type 0} (seen : A → LinkSeen) (a b : ConnOf A) (new : Running) (l : Learnt) (front : Front) (body rest : List ℕ) (fails : Bool) (beat : Beat) → IsHeardFront a.stream.held front → IsFrontOf a.stream.held front (framed front.tag body) rest
    → StaysIn a.call fails new.call → (fails ≡ true → kept_for a + level_of a.change a.groups + 57 ≤ a.stream.spare) → a.stream.unsent ≡ [] → Accepts front fails (record a { ledger = new.ledger; call = new.call; learnt = l }) b → Learns (framed front.tag body ∷ []) a.learnt l
    → ((c : ConnSeen) → AllMoved (stream_by seen a.stream) c.stream → BeatCause (seen_by seen a) c beat)
    → ((c : ConnSeen) → c.ledger ≡ new.ledger → c.call ≡ new.call → c.learnt ≡ l → (fails ≡ false → c.stream.unsent ≡ []) → (start : Ledger) (r : Request) (said : List FrontendMessage) (hs : List Frame) (items : List CallItem) → CallIs start r said hs items a.ledger a.call
    → Tells (seen_by seen a) c start r (said ++ fails_of fails) (hs ++ framed front.tag body ∷ []) items beat)
    → TakesBeat (seen_by seen a) (seen_by seen b) beat
takes_by {A} seen a b new l front body rest fails beat f of stays_in room sent acc learns cause tells =
    let t = acc.0 in
    let frame = framed front.tag body in
    let h = b.heard in
    let spare : t.spare ≡ a.stream.spare = ap (λ (x : StreamOf A). x.spare) (acc.1 frame rest of).0 in
    let unsent : t.unsent ≡ [] = ap (λ (x : StreamOf A). x.unsent) (acc.1 frame rest of).0 ∙ sent in
    let m = taken_moves seen a.stream t front body rest fails f of (λ e. let x = room e in omega (arith, x, spare)) acc.1 in
    let c : ConnSeen = record (seen_by seen a) { stream = stream_by seen (queued_copy_fail fails t); ledger = new.ledger; call = new.call; learnt = l; heard = h } in
    subst (λ (x : ConnOf A). TakesBeat (seen_by seen a) (seen_by seen x) beat) (sym acc.2) (
      spelled (fails_of fails),
      frame ∷ [],
      frame ∷ [],
      record {
        moves = m.0;
        hears = heard_one frame (heard_tag front a.stream.held body rest f of);
        cause = cause c m.1;
        broken = refl;
        counted = acc.3;
        started = (refl, refl, refl, refl);
        asked = stays_asked a.call fails new.call stays_in;
        room = λ k l h. omega (arith, spare, stays_room a.call fails new.call (k + level_of a.change a.groups) a.stream.spare stays_in (λ e. let x = room e in omega (arith, x, l)) h);
        learns = learns;
        tells = λ start r said hs items i.
            let none = no_groups fails in
            (fails_of fails, refl, rw none (grew-none a.groups), tells c refl refl refl (sends_none t fails unsent) start r said hs items i);
        in_turn = λ start r said hs items i.
            none_asked (seen_by seen a) c beat (fails_of fails) (frame ∷ []) (frame ∷ []) start r said hs items m.0 (heard_one frame (heard_tag front a.stream.held body rest f of)) (no_groups fails) i (tells c refl refl refl (sends_none t fails unsent) start r said hs items i);
      },
    )

pub takes_message : {A : Type 0} (seen : A → LinkSeen) (a b : ConnOf A) (new : Running) (l : Learnt) (front : Front) (body rest : List ℕ) (taken : Taken) → IsHeardFront a.stream.held front → IsFrontOf a.stream.held front (framed front.tag body) rest
    → TakesMessage front.tag body (record { ledger = a.ledger; call = a.call }) new taken → StaysIn a.call taken.fails_copy new.call → (taken.fails_copy ≡ true → kept_for a + level_of a.change a.groups + 57 ≤ a.stream.spare) → (taken.fails_copy ≡ true → front.tag ≡ 71) → a.stream.unsent ≡ [] → (taken.beat ≢ beats.Waits)
    → Accepts front taken.fails_copy (record a { ledger = new.ledger; call = new.call; learnt = l }) b → Learns (framed front.tag body ∷ []) a.learnt l → TakesBeat (seen_by seen a) (seen_by seen b) taken.beat
takes_message {A} seen a b new l front body rest taken f of takes stays_in room copy sent goes acc learns =
    takes_by seen a b new l front body rest taken.fails_copy taken.beat f of stays_in room sent acc learns (λ c m. taken_cause (seen_by seen a) c taken.beat goes m)
    (λ c k w n u start r said hs items i. told (seen_by seen a) c start r (said ++ fails_of taken.fails_copy) hs (framed front.tag body) items taken.beat taken.fails_copy copy u (rw (k, w) (takes start r said hs items i)))

-- ---- what the call makes of the message at the front

pub hears_by : (tag : ℕ) (body : List ℕ) (a b : Running) (r : Result Taken Error) → IfOk r (TakesMessage tag body a b) → IfOk r (λ taken. taken.fails_copy ≡ true → tag ≡ 71) → IfOk r (λ taken. taken.beat ≢ beats.Waits)
    → IfOk r (λ taken. StaysIn a.call taken.fails_copy b.call) → IfErr r (RefusesMessage tag body a) → OnErr r (b.ledger ≡ a.ledger) → HearsBy tag body a b r
hears_by tag body a b (Ok taken) takes copy goes stays refuses ledger = (takes, copy, goes, stays)
hears_by tag body a b (Err e) takes copy goes stays refuses ledger = (refuses, ledger)

pub hears_row : (tag : ℕ) (body : List ℕ) (a b : Running) (r : Result Taken Error) → tag ≡ 68 → IfOk r (TakesMessage 68 body a b) → IfOk r (λ taken. taken.fails_copy ≡ false) → IfOk r (λ taken. taken.beat ≢ beats.Waits)
    → IfOk r (λ taken. StaysIn a.call taken.fails_copy b.call) → IfErr r (RefusesMessage 68 body a) → OnErr r (b.ledger ≡ a.ledger) → HearsBy tag body a b r
hears_row tag body a b (Ok taken) is takes copy goes stays refuses ledger = (rw is takes, λ e. absurd cc, goes, stays)
hears_row tag body a b (Err e) is takes copy goes stays refuses ledger = (rw is refuses, ledger)

-- a frame at the front, by the front's tag
pub framed_front : (held : List ℕ) (front : Front) (frame : Frame) (rest : List ℕ) → IsFrontOf held front frame rest → IsFrontOf held front (framed front.tag frame.body) rest
framed_front held front frame rest is = subst (λ (t : ℕ). IsFrontOf held front (framed t frame.body) rest) is.tag is

-- want of memory leaves the message at the front
pub starves_message : (tag : ℕ) (body : List ℕ) (a : Running) → IsReplied a.call → RefusesMessage tag body a errors.OutOfMemory
starves_message tag body a replied = by a.call refl replied
  where
    by : (call : Call) → a.call ≡ call → IsReplied call → RefusesMessage tag body a errors.OutOfMemory
    by (calls.Own reply) e h = own_errs tag body a reply errors.OutOfMemory e tt
    by calls.Idle e h = absurd h
    by (calls.Asked asked) e h = absurd h
    by (calls.Waiting waiting) e h = absurd h
    by calls.Closing e h = absurd h

pub starves_front : (held : List ℕ) (front : Front) (a b : Running) → IsHeardFront held front → IsReplied a.call → b.ledger ≡ a.ledger
    → (body : List ℕ) × (rest : List ℕ) × IsFrontOf held front (framed front.tag body) rest × HearsBy front.tag body a b (Err errors.OutOfMemory)
starves_front held front a b f replied same =
    let body : List ℕ = take (front.total - 5) (drop 5 held) in
    (body, drop front.total held, front_frame held front (IsFront-from_heard held front f), (starves_message front.tag body a replied, same))

-- ---- what it tells of a lookup

-- there is one frame at the front
front_body : (held : List ℕ) (front : Front) (frame : Frame) (rest : List ℕ) → IsFrontOf held front frame rest → take (front.total - 5) (drop 5 held) ≡ frame.body
front_body held front frame rest is = ap (λ (b : List ℕ). take (front.total - 5) (drop 5 b)) is.parts ∙ take_at frame.body rest (front.total - 5) (omega (arith, is.total))

-- a row of it that was read is what stands there
pub takes_row : (held : List ℕ) (front : Front) (tag : ℕ) (read rest : List ℕ) (values : Values) (a b : Learnt) (result : Result (Unit {0}) Error) → front.tag ≡ tag → IsFrontOf held front (framed front.tag read) rest → Says tag read (DataRow values) → HasBackendFrame (DataRow values) → TakesRow values a b result
    → (body rest' : List ℕ) → IsFrontOf held front (framed front.tag body) rest' → TakesFront (framed front.tag body) a b result
takes_row held front tag read rest values a b result t is says have takes body rest' of =
    let same : read ≡ body = sym (front_body held front (framed front.tag read) rest is) ∙ front_body held front (framed front.tag body) rest' of in
    inl (values, ap (λ (x : List ℕ). framed front.tag x) (sym same) ∙ ap (λ (n : ℕ). framed n read) t ∙ sym says.1, have, takes)

one_row_heard : (f : Frame) (values : Values) → f ≡ backend_frame (DataRow values) → AreHeard (f ∷ []) (values ∷ [])
one_row_heard f values e = (inl (sym e), tt)

learns_one : (f : Frame) (a b : Learnt) (result : Result (Unit {0}) Error) → TakesFront f a b result → Learns (f ∷ []) a b
learns_one f a b result (inl (values, is, have, takes)) = (values ∷ [], one_row_heard f values is, (b, result, takes, refl))
learns_one f a b result (inr same) = ([], tt, same.0)

learns_from : {A : Type 0} (a m : ConnOf A) (front : Front) (body rest : List ℕ) (result : Result (Unit {0}) Error) → IsFrontOf a.stream.held front (framed front.tag body) rest → LearnsFrom front a m result → Learns (framed front.tag body ∷ []) a.learnt m.learnt
learns_from a m front body rest result of (now, inl (looks, learns)) = learns_one (framed front.tag body) a.learnt m.learnt result (learns body rest of)
learns_from a m front body rest result of (now, inr (none, same, okay)) = ([], tt, same)

-- what runs is a lookup
look_of : (r : Request) → is_look (rest_of r) ≡ true → (names : List Declared) × (looks_for r ≡ Some names)
look_of (requests.Look lookup) e = (wanted_by lookup.extended lookup.extended.described, refl)
look_of (requests.Fill filling) e = (filling.bound.arguments.holes, refl)
look_of _ e = absurd cc

looks_by : (start : Ledger) (r : Request) (said : List FrontendMessage) (hs : List Frame) (items : List CallItem) (ledger : Ledger) (call : Call) → CallIs start r said hs items ledger call → looks_up call ≡ true → (names : List Declared) × (looks_for r ≡ Some names)
looks_by start r said hs items ledger (calls.Own reply) i e = look_of r (subst (λ (x : Rest). is_look x ≡ true) i.2.rest_is e)
looks_by start r said hs items ledger _ i e = absurd cc

-- a row of it that isn't taken ends the call
fails_at : (a c : ConnSeen) (start : Ledger) (r : Request) (own : List Group) (hs : List Frame) (f : Frame) (names : List Declared) (x y : Learnt) (e : Error) → looks_for r ≡ Some names → TakesFront f x y (Err e) → c.learnt ≡ y → FailsBy a c start r own (hs ++ f ∷ []) e
fails_at a c start r own hs f names x y e is (inl (values, same, have, takes)) m = inr (inr (names, is, inr (inl (hs, values, x, ap (λ (g : Frame). hs ++ g ∷ []) same, have, subst (λ (l : Learnt). TakesRow values x l (Err e)) (sym m) takes))))
fails_at a c start r own hs f names x y e is (inr (same, refused)) m = rw (refused_by e refused) (inl (tt, tt))
  where
    refused_by : (e : Error) → ◌≡◌ {A = Result (Unit {0}) Error} (Err e) (Err errors.OutOfMemory) → e ≡ errors.OutOfMemory
    refused_by e is = cc

idle_looks_none : looks_up calls.Idle ≡ true → ⊥
idle_looks_none e = cc

still_runs : (start : Ledger) (r : Request) (said : List FrontendMessage) (hs : List Frame) (items : List CallItem) (ledger : Ledger) (call : Call) (beat : Beat) → looks_up call ≡ true → CallTakes start r said hs items ledger call beat
    → CallIs start r said hs items ledger call × ((names : List Declared) × (looks_for r ≡ Some names))
still_runs start r said hs items ledger call beats.More looks h = (h, looks_by start r said hs items ledger call h looks)
still_runs start r said hs items ledger call beats.Waits looks h = absurd h
still_runs start r said hs items ledger call (beats.Yields item) looks h =
    let look = looks_by start r said hs (items ++ item ∷ []) ledger call h looks in
    absurd (shows_none (kind_of r) item (look_kind r look.0 look.1) (shown_fits start r said hs items item ledger call h))
  where
    look_kind : (r : Request) (names : List Declared) → looks_for r ≡ Some names → kind_of r ≡ kinds.Describe
    look_kind (requests.Look lookup) names e = refl
    look_kind (requests.Fill filling) names e = refl
    look_kind _ names e = absurd cc

    none : (item : CallItem) → yields kinds.Describe item ≡ true → ⊥
    none item e = cc

    shows_none : (kind : Kind) (item : CallItem) → kind ≡ kinds.Describe → yields kind item ≡ true → ⊥
    shows_none kind item k e = none item (subst (λ (d : Kind). yields d item ≡ true) k e)
still_runs start r said hs items ledger call (beats.Opens opened) looks h = (h.0, looks_by start r said hs items ledger call h.0 looks)
still_runs start r said hs items ledger call (beats.Ends answer) looks h = absurd (idle_looks_none (subst (λ (x : Call). looks_up x ≡ true) h.0 looks))
still_runs start r said hs items ledger call (beats.HandsOn next) looks h = absurd (idle_looks_none (subst (λ (x : Call). looks_up x ≡ true) h.0 looks))

accepts_idle : {A : Type 0} (a c b : ConnOf A) (front : Front) (fails : Bool) → Accepts front fails a c → b ≡ idle c → Accepts front fails (idle a) b
accepts_idle {A} a c b front fails (t, passes, is, grew) stops =
    let same : b.heard ≡ c.heard = ap (λ (x : ConnOf A). x.heard) stops in
    (t, passes, stops ∙ ap (λ (x : ConnOf A). idle x) is ∙ ap (λ (n : ℕ). record a { stream = queued_copy_fail fails t; heard = n; call = calls.Idle }) (sym same), rw same grew)

pub taken_in : {A : Type 0} (seen : A → LinkSeen) (a h m b : ConnOf A) (front : Front) (taken : Taken) (learnt : Result (Unit {0}) Error) (beat : Beat) → IsHeardFront a.stream.held front → (front.tag ≡ 71 → kept_for a + level_of a.change a.groups + 57 ≤ a.stream.spare) → a.stream.unsent ≡ [] → h ≡ record a { ledger = h.ledger; call = h.call }
    → HearsFront front a h (Ok taken) → LearnsFrom front h m learnt → TakesIn front taken m b learnt beat → TakesBeat (seen_by seen a) (seen_by seen b) beat
taken_in {A} seen a h m b front taken (Ok u) beat f room sent now hears learns (acc, is) =
    let of : IsFrontOf h.stream.held front (framed front.tag hears.0) hears.1 = rw (ap (λ (x : ConnOf A). x.stream.held) now) hears.2 in
    let l = learns_from h m front hears.0 hears.1 (Ok u) of learns in
    let same : m ≡ record a { ledger = h.ledger; call = h.call; learnt = m.learnt } = learns.0 ∙ ap (λ (x : ConnOf A). record x { learnt = m.learnt }) now in
    rw is (takes_message seen a b (running_of h) m.learnt front hears.0 hears.1 taken f hears.2 hears.3.0 hears.3.3 (λ e. room (hears.3.1 e)) hears.3.1 sent hears.3.2
    (subst (λ (x : ConnOf A). Accepts front taken.fails_copy x b) same acc) (subst (λ (x : Learnt). Learns (framed front.tag hears.0 ∷ []) x m.learnt) (ap (λ (x : ConnOf A). x.learnt) now) l))
taken_in {A} seen a h m b front taken (Err e) beat f room sent now hears (stays, inr (none, kept, okay)) (c, acc, stops, is) = absurd cc
taken_in {A} seen a h m b front taken (Err e) beat f room sent now hears (stays, inl (looks, learns)) (c, acc, stops, is) =
    let held = ap (λ (x : ConnOf A). x.stream.held) now in
    let of : IsFrontOf h.stream.held front (framed front.tag hears.0) hears.1 = rw held hears.2 in
    let at : IsFrontOf a.stream.held front (framed front.tag hears.0) hears.1 = hears.2 in
    let takes = learns hears.0 hears.1 of in
    let l : Learns (framed front.tag hears.0 ∷ []) h.learnt m.learnt = learns_one (framed front.tag hears.0) h.learnt m.learnt (Err e) takes in
    let same : m ≡ record a { ledger = h.ledger; call = h.call; learnt = m.learnt } = stays ∙ ap (λ (x : ConnOf A). record x { learnt = m.learnt }) now in
    let stopped : Running = record { ledger = h.ledger; call = calls.Idle } in
    let ends : Accepts front taken.fails_copy (record a { ledger = h.ledger; call = h.call; learnt = m.learnt }) c = subst (λ (x : ConnOf A). Accepts front taken.fails_copy x c) same acc in
    let over : Accepts front taken.fails_copy (record a { ledger = h.ledger; call = calls.Idle; learnt = m.learnt }) b = accepts_idle (record a { ledger = h.ledger; call = h.call; learnt = m.learnt }) c b front taken.fails_copy ends stops in
    rw is (takes_by seen a b stopped m.learnt front hears.0 hears.1 taken.fails_copy (beats.Ends (Err e)) f at tt (λ w. room (hears.3.1 w)) sent over (subst (λ (x : Learnt). Learns (framed front.tag hears.0 ∷ []) x m.learnt) (ap (λ (x : ConnOf A). x.learnt) now) l)
    (λ d moved. moved.2)
    (λ d k w n u start r said hs items i.
    let on = still_runs start r (said ++ fails_of taken.fails_copy) (hs ++ framed front.tag hears.0 ∷ []) items h.ledger h.call taken.beat looks (hears.3.0 start r said hs items i) in
    let leaves = leaves_call start r (said ++ fails_of taken.fails_copy) (hs ++ framed front.tag hears.0 ∷ []) items h.ledger h.call on.0 in
    let left : Leaves start r (said ++ fails_of taken.fails_copy) (hs ++ framed front.tag hears.0 ∷ []) items d.ledger false = rw k leaves in
    (w, inr (left, call_well start r (said ++ fails_of taken.fails_copy) (hs ++ framed front.tag hears.0 ∷ []) items h.ledger h.call on.0, fails_at (seen_by seen a) d start r left.own hs (framed front.tag hears.0) on.1.0 h.learnt m.learnt e on.1.1 takes n))))

pub refused_front : {A : Type 0} (seen : A → LinkSeen) (a m b : ConnOf A) (front : Front) (e : Error) (beat : Beat) → IsHeardFront a.stream.held front → m ≡ record a { ledger = m.ledger; call = m.call } → HearsFront front a m (Err e) → b ≡ idle m → beat ≡ beats.Ends (Err e)
    → TakesBeat (seen_by seen a) (seen_by seen b) beat
refused_front {A} seen a m b front e beat f now h stops ends =
    let same : idle m ≡ idle a = ap (λ (x : ConnOf A). idle x) now ∙ ap (λ (l : Ledger). record a { ledger = l; call = calls.Idle }) h.3.1 in
    rw ends (subst (λ (x : ConnOf A). TakesBeat (seen_by seen a) (seen_by seen x) (beats.Ends (Err e))) (sym (stops ∙ same)) (front_refused (seen_by seen a) front h.0 h.1 e f h.2 h.3.0))

-- ---- what was heard of it is told

pub heard_in : {A : Type 0} (seen : A → LinkSeen) (a h b : ConnOf A) (front : Front) (told : Result Taken Error) (beat : Beat) → IsHeardFront a.stream.held front → (front.tag ≡ 71 → kept_for a + level_of a.change a.groups + 57 ≤ a.stream.spare) → a.stream.unsent ≡ [] → h ≡ record a { ledger = h.ledger; call = h.call }
    → HearsFront front a h told → TakesHeard front told h b beat → TakesBeat (seen_by seen a) (seen_by seen b) beat
heard_in seen a h b front (Ok taken) beat f room sent now hears takes = taken_in seen a h takes.0 b front taken takes.1 beat f room sent now hears takes.2 takes.3
heard_in seen a h b front (Err e) beat f room sent now hears takes = refused_front seen a h b front e beat f now hears takes.0 takes.1

-- it came ahead, and room was made for it
pub ahead_in : {A : Type 0} (seen : A → LinkSeen) (v r h b : ConnOf A) (front : Front) (told : Result Taken Error) (beat : Beat) → IsHeardFront v.stream.held front → v.stream.unsent ≡ [] → r ≡ with_spare r.stream.spare v → v.stream.spare ≤ r.stream.spare
    → (front.tag ≡ 71 → kept_for r + level_of r.change r.groups + 57 ≤ r.stream.spare) → h ≡ record r { ledger = h.ledger; call = h.call } → HearsFront front r h told → TakesHeard front told h b beat → TakesBeat (seen_by seen v) (seen_by seen b) beat
ahead_in {A} seen v r h b front told beat f sent room le roomy now hears takes =
    TakesBeat-then (seen_by seen v) (seen_by seen r) (seen_by seen b) beat (with_room seen v r room le)
    (heard_in seen r h b front told beat (subst (λ (x : ConnOf A). IsHeardFront x.stream.held front) (sym room) f) roomy (ap (λ (x : ConnOf A). x.stream.unsent) room ∙ sent) now hears takes)

-- one that isn't learnt from
taken_plainly : {A : Type 0} (h b : ConnOf A) (front : Front) (told : Result Taken Error) (beat : Beat) → told ≡ Ok (record { beat = beat; fails_copy = false }) → (front.tag == 68 && looks_up h.call) ≡ false → Accepts front false h b → TakesHeard front told h b beat
taken_plainly h b front told beat is plain accepts = rw is (h, Ok tt, (refl, inr (plain, refl, refl)), (accepts, refl))

-- one that shows nothing, and isn't learnt from
pub passed_in : {A : Type 0} (h b : ConnOf A) (front : Front) (told : Result Taken Error) → told ≡ Ok (record { beat = beats.More; fails_copy = false }) → (front.tag == 68 && looks_up h.call) ≡ false → Accepts front false h b → TakesHeard front told h b beats.More
passed_in h b front told more plain accepts = taken_plainly h b front told beats.More more plain accepts

no_copy : (tag : ℕ) → tag ≡ 68 → tag ≡ 71 → ⊥
no_copy tag row copy = absurd (omega (arith, row, copy))

pub plainly_row : (tag : ℕ) (body : List ℕ) (a b : Running) → tag ≡ 68 → PassesRowOf body a b → TakesPlainly tag body a b
plainly_row tag body a b is (takes, stay, own, plain) = subst (λ (t : ℕ). TakesPlainly t body a b) (sym is) (takes, stay, own, plain, λ e. no_copy 68 refl e)

not_row : (tag : ℕ) (b : Bool) → tag ≢ 68 → (tag == 68 && b) ≡ false
not_row tag b no_row = ap (λ (x : Bool). x && b) (ne_eqb tag 68 no_row)

pub plainly_other : (tag : ℕ) (body : List ℕ) (a b : Running) → PassesOf tag body a b → TakesPlainly tag body a b
plainly_other tag body a b (no_row, copy, takes, stay, own) = (takes, stay, own, not_row tag (looks_up b.call) no_row, copy)

-- a message that shows nothing at once, and from which nothing is learnt
pub plainly_in : {A : Type 0} (seen : A → LinkSeen) (a h b : ConnOf A) (front : Front) → IsHeardFront a.stream.held front → a.stream.unsent ≡ [] → PassesFront front a h → Accepts front false h b → TakesBeat (seen_by seen a) (seen_by seen b) beats.More
plainly_in {A} seen a h b front f sent (now, body, rest, of, (takes, stay, own, plain, copy)) accepts =
    let told : Result Taken Error = Ok (record { beat = beats.More; fails_copy = false }) in
    let hears : HearsFront front a h told = (body, rest, of, (takes, (λ e. absurd cc), (λ e. absurd cc), stay)) in
    heard_in seen a h b front told beats.More f (λ e. absurd (copy e)) sent now hears (passed_in h b front told refl plain accepts)

-- a row that is shown at once
shown_in : {A : Type 0} (seen : A → LinkSeen) (a h b : ConnOf A) (front : Front) (row : RowSeen) → IsHeardFront a.stream.held front → a.stream.unsent ≡ [] → ShowsFront front row a h → Accepts front false h b → TakesBeat (seen_by seen a) (seen_by seen b) (beats.Yields (Row row))
shown_in {A} seen a h b front row f sent (tag, now, body, rest, of, (takes, stay, own, plain)) accepts =
    let told : Result Taken Error = Ok (record { beat = beats.Yields (Row row); fails_copy = false }) in
    let hears : HearsFront front a h told = (body, rest, of, (subst (λ (t : ℕ). TakesMessage t body (running_of a) (running_of h) (record { beat = beats.Yields (Row row); fails_copy = false })) (sym tag) takes, (λ e. absurd cc), (λ e. absurd cc), stay)) in
    heard_in seen a h b front told (beats.Yields (Row row)) f (λ e. absurd (no_copy front.tag tag e)) sent now hears (taken_plainly h b front told (beats.Yields (Row row)) refl (rw (plain, tag) refl) accepts)

stays_replied : (before : Call) (call : Call) → StaysIn before false call → IsReplied call → IsReplied before
stays_replied (calls.Own old) call stay own = tt
stays_replied (calls.Waiting w) (calls.Own new) stay own = absurd stay
stays_replied (calls.Asked asked) (calls.Own new) stay own = absurd stay
stays_replied calls.Idle (calls.Own new) stay own = absurd stay
stays_replied calls.Closing (calls.Own new) stay own = absurd stay
stays_replied (calls.Waiting w) _ stay own = absurd own
stays_replied (calls.Asked asked) _ stay own = absurd own
stays_replied calls.Idle _ stay own = absurd own
stays_replied calls.Closing _ stay own = absurd own

-- all that a poll does is to show it
shows_only : {A : Type 0} (seen : A → LinkSeen) (a h b : ConnOf A) (front : Front) (row : RowSeen) → IsHeardFront a.stream.held front → a.stream.unsent ≡ [] → ShowsFront front row a h → Accepts front false h b → ShowsAtOnce (seen_by seen a) (seen_by seen b) row
shows_only {A} seen a h b front row f sent shows accepts = (
  shown_in seen a h b front row f sent shows accepts,
  stays_replied a.call h.call shows.5.1 shows.5.2,
  subst (λ (k : Call). IsReplied k) (sym (ap (λ (x : ConnOf A). x.call) accepts.2)) shows.5.2,
)

-- which has so many calls of the link, and makes none
pub shown_at_once : {A : Type 0} (seen : A → LinkSeen) (a h b : ConnOf A) (front : Front) (row : RowSeen) (left : ℕ) → IsHeardFront a.stream.held front → a.stream.unsent ≡ [] → ShowsFront front row a h → Accepts front false (begun_with left h) b
    → ShowsAtOnce (seen_by seen (begun_with left a)) (seen_by seen b) row
shown_at_once {A} seen a h b front row left f sent (tag, now, body, rest, of, shows) accepts =
    shows_only seen (begun_with left a) (begun_with left h) b front row f sent (tag, ap (λ (x : ConnOf A). begun_with left x) now, body, rest, of, shows) accepts

-- what was heard of it takes nothing of what the link may still give
pub same_fuel : {A : Type 0} (seen : A → LinkSeen) (r h : ConnOf A) → h ≡ record r { ledger = h.ledger; call = h.call } → fuel_of (stream_by seen h.stream) ≡ fuel_of (stream_by seen r.stream)
same_fuel {A} seen r h now = ap (λ (x : ConnOf A). fuel_of (stream_by seen x.stream)) now

replied_awaits : (ledger : Ledger) (call : Call) → IsReplied call → IsAwaiting ledger call
replied_awaits ledger (calls.Own reply) own = tt
replied_awaits ledger _ own = absurd own

pub passed_awaits : {A : Type 0} (h b : ConnOf A) (front : Front) → IsReplied h.call → Accepts front false h b → IsAwaiting b.ledger b.call
passed_awaits {A} h b front own accepts = subst (λ (k : Call). IsAwaiting b.ledger k) (sym (ap (λ (x : ConnOf A). x.call) accepts.2)) (replied_awaits b.ledger h.call own)

-- ---- the rest is sent

sends_fine : (start : Ledger) (r : Request) (said : List FrontendMessage) (hs : List Frame) (items : List CallItem) (ledger : Ledger) (call : Call) → only_sends ledger call ≡ true → CallIs start r said hs items ledger call → CallEnds start r said hs items ledger (Ok (sent_answer call))
sends_fine start r said hs items ledger (calls.Waiting w) s i = let b = both_true (is_flush w.kind) (ledger.owed == 0) s in flush_fine start r said hs items ledger w b.0 (eqb-true _ _ b.1) i
sends_fine start r said hs items ledger calls.Closing s i = closing_fine start r said hs items ledger i
sends_fine start r said hs items ledger (calls.Asked asked) s i = absurd cc
sends_fine start r said hs items ledger (calls.Own reply) s i = absurd cc
sends_fine start r said hs items ledger calls.Idle s i = absurd i

pub rest_waits : (a : ConnSeen) (t : StreamSeen) → only_sends a.ledger a.call ≡ true → PollsSend a.stream t Pending → TakesBeat a (over_stream a t) beats.Waits
rest_waits a t k p = stays a (over_stream a t) beats.Waits p.moves (sent_cause a.stream t p.gives, λ s. p.gives) (keeps a.call) refl refl refl refl refl refl refl refl (λ start r said hs items i. (i, inr k))
  where
    sent_cause : (s t : StreamSeen) → SendGives s t Pending → PendingCause s t
    sent_cause s t (inl w) = inl w
    sent_cause s t (inr f) = inr (inr f)

pub rest_fails : (a : ConnSeen) (t : StreamSeen) (e : Error) → PollsSend a.stream t (Ready (Err e)) → TakesBeat a (idle (over_stream a t)) (beats.Ends (Err e))
rest_fails a t e p = rw p.gives.0 (stays a (idle (over_stream a t)) (beats.Ends (Err (errors.Io io.Fault))) p.moves p.gives.2 (keeps_idle a.call) refl refl refl refl refl refl refl refl (λ start r said hs items i.
    (refl, inr (leaves_call start r said hs items a.ledger a.call i, call_well start r said hs items a.ledger a.call i, inl (p.gives.1, tt)))))

pub rest_sent : (a : ConnSeen) (t : StreamSeen) (u : Unit {0}) → only_sends a.ledger a.call ≡ true → PollsSend a.stream t (Ready (Ok u)) → TakesBeat a (idle (over_stream a t)) (beats.Ends (Ok (sent_answer a.call)))
rest_sent a t u k p = stays a (idle (over_stream a t)) (beats.Ends (Ok (sent_answer a.call))) p.moves p.gives.1 (keeps_idle a.call) refl refl refl refl refl refl refl refl (λ start r said hs items i.
    (refl, sends_fine start r said hs items a.ledger a.call k i, p.gives.0))

-- ---- a front is accepted, step by step

no_copy_fail : {A : Type 0} (s : StreamOf A) → s ≡ queued_copy_fail false s
no_copy_fail s =
    let z : s.spare ≡ s.spare - 0 = omega arith in
    ap (λ (u : List ℕ). record s { unsent = u }) (sym (append-nil s.unsent)) ∙ ap (λ (n : ℕ). record s { unsent = s.unsent ++ []; spare = n }) z

pub accepts_by : {A : Type 0} (front : Front) (fails : Bool) (a p h b : ConnOf A) → Passes front a.stream p.stream → p ≡ record a { stream = p.stream } → h ≡ record p { heard = h.heard } → GrewBy 1 p.heard h.heard → b ≡ record h { stream = queued_copy_fail fails h.stream }
    → Accepts front fails a b
accepts_by {A} front fails a p h b passes pq hq grew bq =
    let n = h.heard in
    let t = p.stream in
    let e : b ≡ record a { stream = queued_copy_fail fails t; heard = n } =
    bq
    ∙ ap (λ (x : ConnOf A). record x { stream = queued_copy_fail fails x.stream }) hq
    ∙ ap (λ (x : ConnOf A). record x { stream = queued_copy_fail fails t; heard = n }) pq in
    let same : b.heard ≡ n = ap (λ (x : ConnOf A). x.heard) e in
    let before : p.heard ≡ a.heard = ap (λ (x : ConnOf A). x.heard) pq in (
      t,
      passes,
      e ∙ ap (λ (m : ℕ). record a { stream = queued_copy_fail fails t; heard = m }) (sym same),
      rw (same, ← before) grew,
    )

pub accepts_plain : {A : Type 0} (front : Front) (a p h : ConnOf A) → Passes front a.stream p.stream → p ≡ record a { stream = p.stream } → h ≡ record p { heard = h.heard } → GrewBy 1 p.heard h.heard → Accepts front false a h
accepts_plain {A} front a p h passes pq hq grew = accepts_by front false a p h h passes pq hq grew (ap (λ (s : StreamOf A). record h { stream = s }) (no_copy_fail h.stream))

pub room_after : {A : Type 0} (front : Front) (a p h : ConnOf A) → IsHeardFront a.stream.held front → Passes front a.stream p.stream → h ≡ record p { heard = h.heard } → h.stream.spare ≡ a.stream.spare
room_after {A} front a p h f passes hq = ap (λ (x : ConnOf A). x.stream.spare) hq ∙ ap (λ (x : StreamOf A). x.spare) (passes f.0 f.1 f.2).0
