-- How the beats of a call follow one another.
use Rattle.std.proofs.Common.{ap₂, ◌≡◌, ◌≢◌, ◌⊎◌, ℕ, Option, ◌+◌, ◌-◌, ◌<◌, ◌≤◌, cond, inl, inr, Bool, true, false, ◌&&◌, ◌==◌, nat_eq, leb, not, List, [], ◌∷◌, ◌++◌, length, map, refl, sym, ap, ◌∙◌, subst, append_assoc, append-nil, length-append, arith, Ok, Err, None, Some, min, ◌^◌}
use Rattle.pg_wire.proofs.Tests.{both_true}
use Rattle.pg_call.specs.declared.kind.Change.{Change}
use Rattle.pg_call.specs.declared.kind.Kind.{Kind}
use Rattle.pg_call.specs.declared.kind.Kind.TheVariants as kinds
use Rattle.pg_call.specs.declared.kind.Keeping.TheVariants as keepings
use Rattle.pg_call.specs.declared.statement.Goal.{Goal}
use Rattle.pg_call.specs.declared.statement.Goal.TheVariants as goals
use Rattle.pg_call.specs.declared.after.After.{After}
use Rattle.pg_call.specs.declared.after.After.TheVariants as afters
use Rattle.pg_call.specs.declared.answer.Turn.TheVariants as turns
use Rattle.pg_wire.specs.declared.error.ServerFault.{ServerFault}
use Rattle.std.specs.List.{count_by}
use Rattle.std.proofs.lemmas.Bool.{eqb-true}
use Rattle.pg_wire.specs.declared.error.Error.{Error}
use Rattle.pg_wire.specs.declared.error.Error.TheVariants as errors
use Rattle.pg_wire.specs.declared.error.ProtocolFault.TheVariants as protocol
use Rattle.pg_wire.specs.Frame.{Frame}
use Rattle.pg_wire.specs.Frontend.{FrontendMessage}
use Rattle.pg_wire.specs.Parts.{heard}
use Rattle.pg_wire.specs.Backend.{Values, DataRow, backend_frame}
use Rattle.pg_resolve.proofs.SettlingLaws.{has_left, has_right}
use Rattle.pg_learning.specs.declared.learnt.Seeking.{Seeking}
use Rattle.pg_learning.specs.declared.learnt.Seeking.TheVariants as seekings
use Rattle.pg_learning.specs.Learning.{FailsSeeking}
use Rattle.pg_request.specs.Asked.{RefusesType}
use Rattle.pg_learning.specs.declared.learnt.Learnt.{Learnt}
use Rattle.pg_learning.specs.Naming.{unknown_name}
use Rattle.pg_conn.specs.Looking.{AreHeard, Learns, LearnsRows, MayLook, MissesName, looks_for, unlooked, vain_lookup, wanted_by, wanted_in}
use Rattle.pg_request.specs.declared.naming.Declared.{Declared}
use Rattle.pg_call.specs.declared.statement.Described.{Described}
use Rattle.pg_call.specs.declared.statement.Extended.{Extended}
use Rattle.pg_wire.proofs.PartLaws.{heard-append}
use Rattle.pg_stream.specs.Links.{LinkSeen, NoneFalls, GrewBy}
use Rattle.pg_stream.specs.Streams.{Moves, AllMoved}
use Rattle.pg_stream.proofs.StreamLemmas.{NoneWaited-none, NoneWaited-then, Moves-none, Moves-then, AllMoved-none, AllMoved-then, WriteWaited-after, PendingCause-after, GrewBy-then, HeardCause-after}
use Rattle.pg_call.specs.declared.request.Request.{Request}
use Rattle.pg_call.specs.declared.request.Request.TheVariants as requests
use Rattle.pg_call.specs.declared.answer.CallItem.{CallItem}
use Rattle.pg_call.specs.declared.ledger.Ledger.{Ledger}
use Rattle.pg_call.specs.declared.waiting.Waiting.{Waiting}
use Rattle.pg_call.specs.declared.calling.Call.{Call}
use Rattle.pg_call.specs.declared.calling.Call.TheVariants as calls
use Rattle.pg_call.specs.declared.calling.Beat.{Beat}
use Rattle.pg_call.specs.declared.calling.Beat.TheVariants as beats
use Rattle.pg_call.specs.Requests.{Group, spelled, copy_fail, feeding, kind_of, after_kind, goal_kind, main_kind, messages_of, name_of, running_bound, is_flush, is_close, CanBeSaid, IsRefusal}
use Rattle.pg_call.specs.Hearing.{fresh_reply, awaits, waits, waiting_for, sent_answer}
use Rattle.pg_call.specs.Calls.{owes_own, CallIs, CallEnds}
use Rattle.pg_call.proofs.RefusalLaws.{refusal_is, memory_refuses}
use Rattle.pg_call.proofs.LeaveLaws.{leaves_call, call_well, flush_fine, draining_none, replying_from, closing_from}
use Rattle.pg_rule.specs.declared.rule.Rule.{Rule}
use Rattle.pg_conn.specs.Connections.{ConnOf, ConnSeen, Standing, handed, standing, seen_by, idle, with_spare, queued_call, awaiting, closing, copies, ends_copy, owned, cleaned, unfed, with_copy_fail, resolved, resolved_by, restated, unasked, IsUnresolved, may_open, has_room_for, rollback, queued_group, with_group, ended}
use Rattle.pg_conn.specs.Statements.{asked_by, moved, unmoved, step_of}
use Rattle.pg_conn.proofs.StatementLaws.{asked_main}
use Rattle.pg_exchanges.specs.Answering.{closing as closing_group}
use Rattle.pg_conn.specs.Turns.{kept_for, ends_request, FailsBy, EndsBy, Tells, SendCause, BeatCause, Turns, TakesBeat, IsAsked, cleanup_of, IsSayable, Prepares, Refuses, Refused, Polled, broken_by, only_sends, flushes, only_flushes, is_flushed, EndsFlush, IsAhead, wants_level, Readies, level_of, HasRoomBeside, behind, Falls, EndsPoll}
use Rattle.pg_conn.proofs.OwedLaws.{InTurn-then, closes_said, counts-append, feed_asks, none_asked, one_asked, run_asks, spelled-append}

pub grew-none : (a : ℕ) → GrewBy 0 a a
grew-none a = omega arith

-- ---- what rows tell

rows-append : (rows more : List Values) (a b c : Learnt) → LearnsRows rows a b → LearnsRows more b c → LearnsRows (rows ++ more) a c
rows-append [] more a b c e h = subst (λ (x : Learnt). LearnsRows more x c) e h
rows-append (values ∷ rows) more a b c h k = (h.0, h.1, h.2, rows-append rows more h.0 b c h.3 k)

heard_front_of : (hs more : List Frame) (rows : List Values) → AreHeard hs rows → AreHeard (hs ++ more) rows
heard_front_of hs more [] h = tt
heard_front_of hs more (values ∷ rows) h = (has_left hs more (backend_frame (DataRow values)) h.0, heard_front_of hs more rows h.1)

heard_behind : (hs more : List Frame) (rows : List Values) → AreHeard more rows → AreHeard (hs ++ more) rows
heard_behind hs more [] h = tt
heard_behind hs more (values ∷ rows) h = (has_right hs more (backend_frame (DataRow values)) h.0, heard_behind hs more rows h.1)

heard_both : (hs : List Frame) (rows more : List Values) → AreHeard hs rows → AreHeard hs more → AreHeard hs (rows ++ more)
heard_both hs [] more h k = k
heard_both hs (values ∷ rows) more h k = (h.0, heard_both hs rows more h.1 k)

pub Learns-then : (hs hs' : List Frame) (a b c : Learnt) → Learns hs a b → Learns hs' b c → Learns (hs ++ hs') a c
Learns-then hs hs' a b c h k = (h.0 ++ k.0, heard_both (hs ++ hs') h.0 k.0 (heard_front_of hs hs' h.0 h.1) (heard_behind hs hs' k.0 k.1), rows-append h.0 k.0 a b c h.2 k.2)

-- ---- a beat after beats that went on

fails_from : (a b c : ConnSeen) (start : Ledger) (r : Request) (own : List Group) (hs : List Frame) (e : Error) → NoneFalls a.stream.link b.stream.link → FailsBy b c start r own hs e → FailsBy a c start r own hs e
fails_from a b c start r own hs e m (inl h) = inl (HeardCause-after a.stream b.stream c.stream e m h.0, h.1)
fails_from a b c start r own hs e m (inr f) = inr f

pub tells_from : (a b c : ConnSeen) (start : Ledger) (r : Request) (said : List FrontendMessage) (hs : List Frame) (items : List CallItem) (beat : Beat) → NoneFalls a.stream.link b.stream.link
    → Tells b c start r said hs items beat → Tells a c start r said hs items beat
tells_from a b c start r said hs items beats.More m t = t
tells_from a b c start r said hs items beats.Waits m t = t
tells_from a b c start r said hs items (beats.Yields item) m t = t
tells_from a b c start r said hs items (beats.Opens opened) m t = t
tells_from a b c start r said hs items (beats.Ends (Ok answer)) m t = t
tells_from a b c start r said hs items (beats.HandsOn next) m t = t
tells_from a b c start r said hs items (beats.Ends (Err e)) m t = (
  t.0,
  elim t.1 [
    | inl ends ↦ inl ends
    | inr f ↦ inr (f.0, f.1, fails_from a b c start r f.0.own hs e m f.2)
  ],
)

send_after : (a b c : ConnSeen) → AllMoved a.stream b.stream → b.stream.left ≤ a.stream.left → c.stream.left ≤ b.stream.left → SendCause b c → SendCause a c
send_after a b c h k l (inl w) = inl (WriteWaited-after a.stream b.stream c.stream h.2 w)
send_after a b c h k l (inr f) = inr (f.0, AllMoved-then a.stream b.stream c.stream h k f.1 l)

cause_after : (a b c : ConnSeen) (beat : Beat) → AllMoved a.stream b.stream → b.stream.left ≤ a.stream.left → c.stream.left ≤ b.stream.left → BeatCause b c beat → BeatCause a c beat
cause_after a b c beats.More h k l t = AllMoved-then a.stream b.stream c.stream h k t l
cause_after a b c beats.Waits h k l t = (PendingCause-after a.stream b.stream c.stream h k l t.0, λ s. send_after a b c h k l (t.1 s))
cause_after a b c (beats.Yields item) h k l t = NoneWaited-then a.stream b.stream c.stream h.2 t
cause_after a b c (beats.Opens opened) h k l t = NoneWaited-then a.stream b.stream c.stream h.2 t
cause_after a b c (beats.Ends (Ok answer)) h k l t = AllMoved-then a.stream b.stream c.stream h k t l
cause_after a b c (beats.HandsOn next) h k l t = AllMoved-then a.stream b.stream c.stream h k t l
cause_after a b c (beats.Ends (Err e)) h k l t = NoneWaited-then a.stream b.stream c.stream h.2 t

pub Turns-then : (a b c : ConnSeen) (beat : Beat) (q q' : List ℕ) (fs fs' hs hs' : List Frame) → Turns a b beats.More q fs hs → Turns b c beat q' fs' hs' → Turns a c beat (q ++ q') (fs ++ fs') (hs ++ hs')
Turns-then a b c beat q q' fs fs' hs hs' s t = record {
  moves = Moves-then a.stream b.stream c.stream q q' fs fs' s.moves t.moves;
  hears = heard-append fs fs' ∙ ap (λ (x : List Frame). x ++ heard fs') s.hears ∙ ap (λ (x : List Frame). hs ++ x) t.hears;
  cause = cause_after a b c beat s.cause s.moves.left t.moves.left t.cause;
  broken = t.broken ∙ s.broken;
  counted = GrewBy-then (length hs) (length hs') (length (hs ++ hs')) a.heard b.heard c.heard s.counted t.counted (length-append hs hs');
  started = (t.started.0 ∙ s.started.0, t.started.1 ∙ s.started.1, t.started.2 ∙ s.started.2, t.started.3 ∙ s.started.3);
  asked = λ i. s.asked (t.asked i);
  room = λ n l h. t.room n (omega (arith, l, ap (λ (r : Rule). r.depth) s.started.2, ap (λ (x : Standing). x.held) s.started.3)) (s.room n l h);
  learns = Learns-then hs hs' a.learnt b.learnt c.learnt s.learns t.learns;
  in_turn = λ start r said heards items i.
      let one = s.tells start r said heards items i in
      InTurn-then a b c q q' fs fs' (s.in_turn start r said heards items i) (t.in_turn start r (said ++ one.0) (heards ++ hs) items one.3);
  tells = λ start r said heards items i.
      let one = s.tells start r said heards items i in
      let two = t.tells start r (said ++ one.0) (heards ++ hs) items one.3 in (
        one.0 ++ two.0,
        spelled-append one.0 two.0 ∙ ap (λ (x : List ℕ). x ++ spelled two.0) one.1 ∙ ap (λ (x : List ℕ). q ++ x) two.1,
        GrewBy-then (count_by ends_request one.0) (count_by ends_request two.0) (count_by ends_request (one.0 ++ two.0)) a.groups b.groups c.groups one.2 two.2 (counts-append one.0 two.0),
        tells_from a b c start r (said ++ (one.0 ++ two.0)) (heards ++ (hs ++ hs')) items beat s.moves.counts
            (rw (← append_assoc said one.0 two.0, ← append_assoc heards hs hs') two.3),
      );
}

pub TakesBeat-then : (a b c : ConnSeen) (beat : Beat) → TakesBeat a b beats.More → TakesBeat b c beat → TakesBeat a c beat
TakesBeat-then a b c beat s t = (s.0 ++ t.0, s.1 ++ t.1, s.2 ++ t.2, Turns-then a b c beat s.0 t.0 s.1 t.1 s.2 t.2 s.3 t.3)

-- ---- beats that move nothing of the link

-- a call is asked only where it was, and wants no more room
abbrev pub Keeps : Call → Call → Type 0
Keeps before behind = (IsAsked behind → IsAsked before) × (cleanup_of behind ≤ cleanup_of before)

pub keeps : (call : Call) → Keeps call call
keeps call = (λ i. i, omega arith)

pub keeps_idle : (call : Call) → Keeps call calls.Idle
keeps_idle call = (λ i. absurd i, omega arith)

pub same_level : (c d : Change) (m n : ℕ) → d ≡ c → n ≡ m → level_of d n ≡ level_of c m
same_level c d m n e f = rw (e, f) refl

-- the stream has moved by nothing, and nothing was heard
pub stays : (a b : ConnSeen) (beat : Beat) → Moves a.stream b.stream [] [] → BeatCause a b beat → Keeps a.call b.call → b.broken ≡ a.broken → b.heard ≡ a.heard → b.groups ≡ a.groups → b.sent ≡ a.sent → b.read ≡ a.read → b.rule ≡ a.rule → standing b ≡ standing a → b.learnt ≡ a.learnt
    → ((start : Ledger) (r : Request) (said : List FrontendMessage) (hs : List Frame) (items : List CallItem) → CallIs start r said hs items a.ledger a.call → Tells a b start r said hs items beat)
    → TakesBeat a b beat
stays a b beat m c keep k h g s t d e l tells = (
  [],
  [],
  [],
  record {
    moves = m;
    hears = refl;
    cause = c;
    broken = k;
    counted = rw h (grew-none a.heard);
    started = (s, t, d, e);
    learns = ([], tt, l);
    asked = keep.0;
    in_turn = λ start r said hs items i. none_asked a b beat [] [] [] start r said hs items m refl refl i (rw (append-nil said, append-nil hs) (tells start r said hs items i));
    room = λ n l r. omega (arith, r, keep.1, m.spare, same_level a.change b.change a.groups b.groups (ap (λ (x : Standing). x.change) e) g);
    tells = λ start r said hs items i. ([], refl, rw g (grew-none a.groups), rw (append-nil said, append-nil hs) (tells start r said hs items i));
  },
)

pub TakesBeat-none : (a : ConnSeen) → TakesBeat a a beats.More
TakesBeat-none a = stays a a beats.More (Moves-none a.stream) (AllMoved-none a.stream) (keeps a.call) refl refl refl refl refl refl refl refl (λ start r said hs items i. i)

call_at : (start : Ledger) (r : Request) (said : List FrontendMessage) (hs : List Frame) (items : List CallItem) (l : Ledger) (k k' : Call) → k ≡ k' → CallIs start r said hs items l k → CallIs start r said hs items l k'
call_at start r said hs items l k k' e i = subst (λ (c : Call). CallIs start r said hs items l c) e i

-- what is asked stands as frames
asked_waits : (start : Ledger) (r asked : Request) (said : List FrontendMessage) (hs : List Frame) (items : List CallItem) (ledger : Ledger) (frames : List ℕ) → frames ≡ spelled (messages_of asked) → CanBeSaid asked → CallIs start r said hs items ledger (calls.Asked asked)
    → CallIs start r said hs items ledger (calls.Waiting (waiting_for asked frames ledger.is_copy_failed))
asked_waits start r asked said hs items ledger frames f can i =
    rw (← i.0, i.1, i.2, i.3, i.4) (refl, f, can, draining_none start, refl, refl, refl)

pub prepared : (a : ConnSeen) (asked : Request) (frames : List ℕ) → a.call ≡ calls.Asked asked → frames ≡ spelled (messages_of asked) → CanBeSaid asked
    → TakesBeat a (record a { call = calls.Waiting (waiting_for asked frames a.ledger.is_copy_failed) }) beats.More
prepared a asked frames e f can = stays a _ beats.More (Moves-none a.stream) (AllMoved-none a.stream) (λ i. absurd i, omega arith) refl refl refl refl refl refl refl refl (λ start r said hs items i. asked_waits start r asked said hs items a.ledger frames f can (call_at start r said hs items a.ledger a.call (calls.Asked asked) e i))

pub prepares : (a : ConnSeen) (asked : Request) (frames : List ℕ) → a.call ≡ calls.Asked asked → frames ≡ spelled (messages_of asked) → CanBeSaid asked → Prepares a (record a { call = waits frames a.ledger.is_copy_failed a.call })
prepares a asked frames e f can =
    subst (λ (k : Call). Prepares a (record a { call = waits frames a.ledger.is_copy_failed k })) (sym e) (record { beat = prepared a asked frames e f can; asked = λ w. w; sayable = subst IsSayable (sym e) can })

pub prepares_none : (a : ConnSeen) → (IsAsked a.call → ⊥) → Prepares a a
prepares_none a n = record { beat = TakesBeat-none a; asked = n; sayable = not_asked_sayable a.call n }
  where
    not_asked_sayable : (call : Call) → (IsAsked call → ⊥) → IsSayable call
    not_asked_sayable (calls.Asked request) n = absurd (n tt)
    not_asked_sayable calls.Idle n = tt
    not_asked_sayable (calls.Waiting w) n = tt
    not_asked_sayable (calls.Own reply) n = tt
    not_asked_sayable calls.Closing n = tt

-- memory is wanting
pub starved : (a : ConnSeen) (n : ℕ) → Moves a.stream (with_spare n a).stream [] [] → TakesBeat a (idle (with_spare n a)) (beats.Ends (Err errors.OutOfMemory))
starved a n m = stays a (idle (with_spare n a)) (beats.Ends (Err errors.OutOfMemory)) m (NoneWaited-none a.stream) (keeps_idle a.call) refl refl refl refl refl refl refl refl (λ start r said hs items i. (refl, inr (leaves_call start r said hs items a.ledger a.call i, call_well start r said hs items a.ledger a.call i, inl (tt, tt))))

-- a request that has no frame
refusal_by : (a : ConnSeen) (asked : Request) (e : Error) → IsRefusal asked e → (start : Ledger) (r : Request) (said : List FrontendMessage) (hs : List Frame) (items : List CallItem) → CallIs start r said hs items a.ledger (calls.Asked asked) → EndsBy a (idle a) start r said hs items e
refusal_by a asked e h start r said hs items i = elim (refusal_is asked e h) [
  | inl memory ↦ rw memory (inr (leaves_call start r said hs items a.ledger (calls.Asked asked) i, call_well start r said hs items a.ledger (calls.Asked asked) i, inl (tt, tt)))
  | inr (fault, is) ↦ rw is (inl (i.2, i.3, i.4, i.1, subst (λ (q : Request). IsRefusal q (errors.Protocol (protocol.Caller fault))) i.0 (rw is at h)))
]

pub refused : (a : ConnSeen) (e : Error) → Refuses a.call e → TakesBeat a (idle a) (beats.Ends (Err e))
refused a e h = by a.call refl h
  where
    by : (call : Call) → a.call ≡ call → Refuses call e → TakesBeat a (idle a) (beats.Ends (Err e))
    by (calls.Asked asked) k h = stays a (idle a) (beats.Ends (Err e)) (Moves-none a.stream) (NoneWaited-none a.stream) (keeps_idle a.call) refl refl refl refl refl refl refl refl (λ start r said hs items i. (refl, refusal_by a asked e h start r said hs items (call_at start r said hs items a.ledger a.call (calls.Asked asked) k i)))
    by calls.Idle k h = absurd h
    by (calls.Waiting w) k h = absurd h
    by (calls.Own reply) k h = absurd h
    by calls.Closing k h = absurd h

pub refused_now : (a : ConnSeen) (e : Error) → Refuses a.call e → Refused a (idle a) (beats.Ends (Err e))
refused_now a e h = (h, refl)

-- ---- what waited is queued

groups_said : (r : Request) → is_flush (kind_of r) ≡ false → is_close (kind_of r) ≡ false → count_by ends_request (messages_of r) ≡ 1
groups_said (requests.Execute query) f c = refl
groups_said (requests.ExecuteMany query) f c = refl
groups_said (requests.Fetch query) f c = refl
groups_said (requests.FetchMany query) f c = refl
groups_said (requests.FetchAll query) f c = refl
groups_said (requests.FetchOptional query) f c = refl
groups_said (requests.FetchOne query) f c = refl
groups_said (requests.Begin depth) f c = refl
groups_said (requests.BeginWith query) f c = refl
groups_said (requests.CopyOut query) f c = refl
groups_said (requests.CopyIn feed) f c = rw (append-nil (feeding feed ++ []), append-nil (feeding feed)) (feed_asks feed)
groups_said (requests.Commit left) f c = refl
groups_said (requests.Rollback left) f c = refl
groups_said (requests.Describe extended) f c = refl
groups_said (requests.Run bound) f c = rw (append-nil (running_bound bound ++ []), append-nil (running_bound bound)) (run_asks (name_of bound.statement) bound.arguments.types bound.arguments.values bound.again)
groups_said (requests.Look lookup) f c = refl
groups_said (requests.Fill filling) f c = refl
groups_said (requests.Evict eviction) f c = refl
groups_said (requests.Clear statements) f c = rw (append-nil (closing_group (map name_of statements)), append-nil (closing_group (map name_of statements))) (closes_said (map name_of statements))
groups_said (requests.Prepare prepared) f c = absurd cc
groups_said requests.Ping f c = refl
groups_said requests.Flush f c = absurd cc
groups_said requests.Close f c = absurd cc

groups_farewell : (r : Request) → is_close (kind_of r) ≡ true → count_by ends_request (messages_of r) ≡ 0
groups_farewell requests.Close c = refl
groups_farewell requests.Flush c = absurd cc
groups_farewell (requests.Evict eviction) c = absurd cc
groups_farewell (requests.Look lookup) c = absurd cc
groups_farewell (requests.Fill filling) c = absurd cc
groups_farewell (requests.Clear statements) c = absurd cc
groups_farewell (requests.Prepare prepared) c = absurd cc
groups_farewell requests.Ping c = absurd cc
groups_farewell (requests.Describe extended) c = absurd cc
groups_farewell (requests.Run bound) c = absurd cc
groups_farewell (requests.Execute query) c = absurd cc
groups_farewell (requests.ExecuteMany query) c = absurd cc
groups_farewell (requests.Fetch query) c = absurd cc
groups_farewell (requests.FetchMany query) c = absurd cc
groups_farewell (requests.FetchAll query) c = absurd cc
groups_farewell (requests.FetchOptional query) c = absurd cc
groups_farewell (requests.FetchOne query) c = absurd cc
groups_farewell (requests.Begin depth) c = absurd cc
groups_farewell (requests.BeginWith query) c = absurd cc
groups_farewell (requests.CopyOut query) c = absurd cc
groups_farewell (requests.CopyIn feed) c = absurd cc
groups_farewell (requests.Commit left) c = absurd cc
groups_farewell (requests.Rollback left) c = absurd cc

flush_false : (b : Bool) (n : ℕ) → n ≡ 0 → b && n == 0 ≡ false → b ≡ false
flush_false true n z e = let w : true && 0 == 0 ≡ false = rw z at e in absurd cc
flush_false false n z e = refl

-- the state b stands where what waited was queued
queues_waiting : (a b : ConnSeen) (w : Waiting) → a.call ≡ calls.Waiting w → a.ledger.owed ≡ 0 → Moves a.stream b.stream w.frames [] → AllMoved a.stream b.stream → (IsAsked b.call → ⊥) → ((n : ℕ) → n ≤ kept_for a → HasRoomBeside n b) → b.broken ≡ a.broken → b.heard ≡ a.heard → b.sent ≡ a.sent → b.read ≡ a.read → b.rule ≡ a.rule → standing b ≡ standing a → b.learnt ≡ a.learnt
    → ((start : Ledger) (r : Request) (said : List FrontendMessage) (hs : List Frame) (items : List CallItem) → CallIs start r said hs items a.ledger (calls.Waiting w) → GrewBy (count_by ends_request (messages_of r)) a.groups b.groups × CallIs start r (said ++ messages_of r) hs items b.ledger b.call)
    → TakesBeat a b beats.More
queues_waiting a b w k z m moved asked room broken h s t d e l tells = (
  w.frames,
  [],
  [],
  record {
    moves = m;
    hears = refl;
    cause = moved;
    broken = broken;
    counted = rw h (grew-none a.heard);
    started = (s, t, d, e);
    learns = ([], tt, l);
    asked = λ i. absurd (asked i);
    in_turn = λ start r said hs items i. one_asked a b w.frames z m;
    room = λ n l r. room n l;
    tells = λ start r said hs items i.
        let j = call_at start r said hs items a.ledger a.call (calls.Waiting w) k i in
        let g = tells start r said hs items j in
        (messages_of r, sym j.1, g.0, rw (append-nil hs) g.1);
  },
)

-- what is kept for a begin once its group is queued is the most
level_most : (c : Change) (g : ℕ) → level_of c g ≤ level_of c 1
level_most c g = by (nat_eq g 0)
  where
    by : (b : Bool) → cond b 0 (cond (wants_level c) 64 0) ≤ cond (wants_level c) 64 0
    by true = omega arith
    by false = omega arith

pub asks_reply : (a : ConnSeen) (n g : ℕ) (w : Waiting) → a.call ≡ calls.Waiting w → a.ledger.owed ≡ 0 → only_sends a.ledger a.call ≡ false → is_close w.kind ≡ false → Moves a.stream (queued_call n a).stream w.frames [] × AllMoved a.stream (queued_call n a).stream → kept_for a + level_of a.change 1 + 128 ≤ n → GrewBy 1 a.groups g
    → Readies a (awaiting g (queued_call n a))
asks_reply a n g w k z f c m room grew =
    let flush : is_flush w.kind ≡ false = flush_false (is_flush w.kind) a.ledger.owed z (subst (λ (x : Call). only_sends a.ledger x ≡ false) k f) in
    let b : ConnSeen = record (queued_call n a) { ledger = owes_own; call = calls.Own (fresh_reply w); groups = g } in
    subst (λ (x : Call). Readies a (record (queued_call n a) { ledger = owes_own; call = awaits x; groups = g })) (sym k) (record {
      beat = queues_waiting a b w k z m.0 m.1 (λ i. i) (λ k l. omega (arith, room, l, level_most a.change g)) refl refl refl refl refl refl refl (λ start r said hs items i.
          let one = groups_said r (rw i.0 at flush) (rw i.0 at c) in
          (rw one grew, replying_from start r said hs items a.ledger w flush c z i));
      ahead = tt;
    })

pub asks_nothing : (a : ConnSeen) (n : ℕ) (w : Waiting) → a.call ≡ calls.Waiting w → a.ledger.owed ≡ 0 → is_close w.kind ≡ true → Moves a.stream (queued_call n a).stream w.frames [] × AllMoved a.stream (queued_call n a).stream → kept_for a + level_of a.change 1 + 128 ≤ n
    → Readies a (closing (queued_call n a))
asks_nothing a n w k z c m room = record {
  beat = queues_waiting a (closing (queued_call n a)) w k z m.0 m.1 (λ i. i) (λ k l. omega (arith, room, l, level_most a.change a.groups)) refl refl refl refl refl refl refl (λ start r said hs items i.
      let none = groups_farewell r (rw i.0 at c) in
      (rw none (grew-none a.groups), closing_from start r said hs items a.ledger w c z i));
  ahead = tt;
}

pub readies_none : (a : ConnSeen) → IsAhead a.ledger a.call → Readies a a
readies_none a h = record { beat = TakesBeat-none a; ahead = h }

pub ahead_waiting : (ledger : Ledger) (call : Call) (w : Waiting) → call ≡ calls.Waiting w → 0 < ledger.owed → IsAhead ledger call
ahead_waiting ledger call w k h = rw k h

pub ahead_other : (ledger : Ledger) (call : Call) → (IsAsked call → ⊥) → ((w : Waiting) → call ≡ calls.Waiting w → ⊥) → IsAhead ledger call
ahead_other ledger (calls.Asked request) n h = absurd (n tt)
ahead_other ledger (calls.Waiting w) n h = absurd (h w refl)
ahead_other ledger (calls.Own reply) n h = tt
ahead_other ledger calls.Closing n h = tt
ahead_other ledger calls.Idle n h = tt

-- ---- a flush is done

flush_said : (r : Request) → only_flushes (kind_of r) ≡ true → CanBeSaid r
flush_said requests.Flush e = (tt, tt)
flush_said _ e = absurd cc

flush_alone : (kind : Kind) → only_flushes kind ≡ true → is_flush kind ≡ true
flush_alone kinds.Flush f = refl
flush_alone _ f = absurd cc

-- a flush that is owed nothing ends, whether its frames are written or not
flush_ends : (start : Ledger) (r : Request) (said : List FrontendMessage) (hs : List Frame) (items : List CallItem) (ledger : Ledger) (call : Call) → flushes call ≡ true → ledger.owed ≡ 0 → CallIs start r said hs items ledger call → CallEnds start r said hs items ledger (Ok (sent_answer call))
flush_ends start r said hs items ledger (calls.Asked asked) f z i =
    let frames = spelled (messages_of asked) in
    let flush = flush_alone (kind_of asked) f in
    flush_fine start r said hs items ledger (waiting_for asked frames ledger.is_copy_failed) flush z (asked_waits start r asked said hs items ledger frames refl (flush_said asked f) i)
flush_ends start r said hs items ledger (calls.Waiting w) f z i = flush_fine start r said hs items ledger w (flush_alone w.kind f) z i
flush_ends start r said hs items ledger (calls.Own reply) f z i = absurd cc
flush_ends start r said hs items ledger calls.Closing f z i = absurd cc
flush_ends start r said hs items ledger calls.Idle f z i = absurd i

all_sent : (bytes : List ℕ) → nat_eq (length bytes) 0 ≡ true → bytes ≡ []
all_sent [] e = refl
all_sent (b ∷ bytes) e = let z = eqb-true _ _ e in absurd (omega (arith, z))

pub flushed : (a : ConnSeen) → is_flushed a ≡ true → TakesBeat a (idle a) (beats.Ends (Ok (sent_answer a.call)))
flushed a f =
    let sent = both_true (flushes a.call && a.ledger.owed == 0) (nat_eq (length a.stream.unsent) 0) f in
    let owed = both_true (flushes a.call) (a.ledger.owed == 0) sent.0 in
    stays a (idle a) (beats.Ends (Ok (sent_answer a.call))) (Moves-none a.stream) (AllMoved-none a.stream) (keeps_idle a.call) refl refl refl refl refl refl refl refl (λ start r said hs items i.
    (refl, flush_ends start r said hs items a.ledger a.call owed.0 (eqb-true _ _ owed.1) i, all_sent a.stream.unsent sent.1))

pub flush_done : (a : ConnSeen) → EndsFlush a (idle a) (beats.Ends (Ok (sent_answer a.call)))
flush_done a f = (refl, refl)

pub flush_sayable : (a : ConnSeen) → is_flushed a ≡ true → IsSayable a.call
flush_sayable a f = by a.call (both_true (flushes a.call) (a.ledger.owed == 0) (both_true (flushes a.call && a.ledger.owed == 0) (nat_eq (length a.stream.unsent) 0) f).0).0
  where
    by : (call : Call) → flushes call ≡ true → IsSayable call
    by (calls.Asked asked) e = flush_said asked e
    by calls.Idle e = tt
    by (calls.Waiting w) e = tt
    by (calls.Own reply) e = tt
    by calls.Closing e = tt

-- ---- a poll

-- what is made of a connection by the end of a call is seen alike
abbrev pub kept : {B : Type 0} → Bool → ConnOf B → ConnOf B
kept n d = cond n (record d { rule = unmoved d.keeping d.rule }) (record d { rule = moved d.keeping d.rule; cache = step_of d.keeping d.cache })

pub seen_cleaned : {A : Type 0} (seen : A → LinkSeen) (c : ConnOf A) → seen_by seen (cleaned c) ≡ cleaned (seen_by seen c)
seen_cleaned {A} seen c = by (nat_eq c.groups 0) (may_open c.change c.groups c.rule.depth)
  where
    queued : (d : ConnOf A) → seen_by seen (ended (queued_group (spelled (rollback 0)) d)) ≡ ended (queued_group (spelled (rollback 0)) (seen_by seen d))
    queued d = by (has_room_for (spelled (rollback 0)) d)
      where
        by : (r : Bool) → seen_by seen (ended (cond r (with_group (spelled (rollback 0)) d) d)) ≡ ended (cond r (with_group (spelled (rollback 0)) (seen_by seen d)) (seen_by seen d))
        by true = refl
        by false = refl

    by : (n b : Bool) → seen_by seen (ended (cond b (queued_group (spelled (rollback 0)) (kept n c)) (kept n c))) ≡ ended (cond b (queued_group (spelled (rollback 0)) (kept n (seen_by seen c))) (kept n (seen_by seen c)))
    by true true = queued (kept true c)
    by false true = queued (kept false c)
    by true false = refl
    by false false = refl

pub seen_unfed : {A : Type 0} (seen : A → LinkSeen) (over : Bool) (c : ConnOf A) → seen_by seen (unfed over c) ≡ unfed over (seen_by seen c)
seen_unfed {A} seen over c = by (copies c.change c.groups && (not over && leb (length (spelled (copy_fail ∷ []))) c.stream.spare))
  where
    by : (b : Bool) → seen_by seen (cond b (with_copy_fail c) (owned c)) ≡ cond b (with_copy_fail (seen_by seen c)) (owned (seen_by seen c))
    by true = refl
    by false = refl

pub seen_behind : {A : Type 0} (seen : A → LinkSeen) (beat : Beat) (c : ConnOf A) → seen_by seen (behind beat c) ≡ behind beat (seen_by seen c)
seen_behind seen (beats.Ends (Ok answer)) c = refl
seen_behind seen (beats.HandsOn next) c = refl
seen_behind seen (beats.Ends (Err e)) c =
    let d = record c { broken = broken_by (beats.Ends (Err e)) } in
    seen_cleaned seen (unfed (ends_copy e) d) ∙ ap (λ (x : ConnSeen). cleaned x) (seen_unfed seen (ends_copy e) d)
seen_behind seen beats.More c = refl
seen_behind seen beats.Waits c = refl
seen_behind seen (beats.Yields item) c = refl
seen_behind seen (beats.Opens opened) c = refl

-- it has the same call
restated_call : {A : Type 0} (c : ConnOf A) → (restated c).call ≡ c.call
restated_call {A} c = by (nat_eq c.groups 0)
  where
    by : (n : Bool) → (cond n (record c { rule = unmoved c.keeping c.rule }) (record c { rule = moved c.keeping c.rule; cache = step_of c.keeping c.cache })).call ≡ c.call
    by true = refl
    by false = refl

pub cleaned_call : {A : Type 0} (c : ConnOf A) → (cleaned c).call ≡ c.call
cleaned_call {A} c = by (may_open c.change c.groups c.rule.depth) (has_room_for (spelled (rollback 0)) (restated c)) ∙ restated_call c
  where
    by : (b r : Bool) → (ended (cond b (cond r (with_group (spelled (rollback 0)) (restated c)) (restated c)) (restated c))).call ≡ (restated c).call
    by true true = refl
    by true false = refl
    by false r = refl

unfed_call : {A : Type 0} (over : Bool) (c : ConnOf A) → (unfed over c).call ≡ c.call
unfed_call {A} over c = by (copies c.change c.groups && (not over && leb (length (spelled (copy_fail ∷ []))) c.stream.spare))
  where
    by : (b : Bool) → (cond b (with_copy_fail c) (owned c)).call ≡ c.call
    by true = refl
    by false = refl

pub behind_call : {A : Type 0} (beat : Beat) (c : ConnOf A) → (behind beat c).call ≡ c.call
behind_call (beats.Ends (Ok answer)) c = refl
behind_call (beats.HandsOn next) c = refl
behind_call (beats.Ends (Err e)) c =
    let d = record c { broken = broken_by (beats.Ends (Err e)) } in
    cleaned_call (unfed (ends_copy e) d) ∙ unfed_call (ends_copy e) d
behind_call beats.More c = refl
behind_call beats.Waits c = refl
behind_call (beats.Yields item) c = refl
behind_call (beats.Opens opened) c = refl

-- a beat on a connection that is whole, and what its end makes of it
pub polled : {A : Type 0} (seen : A → LinkSeen) (a m b : ConnOf A) (beat : Beat) → a.broken ≡ None → TakesBeat (seen_by seen a) (seen_by seen m) beat → IsSayable a.call ⊎ Refused (seen_by seen a) (seen_by seen m) beat → EndsFlush (seen_by seen a) (seen_by seen m) beat → (IsAsked m.call → ⊥)
    → b ≡ behind beat m → Polled (seen_by seen a) (seen_by seen b) beat
polled {A} seen a m b beat whole takes says flush asked is = record {
  stopped = seen_by seen m;
  turns = takes;
  whole = takes.3.broken ∙ whole;
  behind_is = ap (λ (x : ConnOf A). seen_by seen x) is ∙ seen_behind seen beat m;
  says = says;
  flush = flush;
  asked = λ i. asked (subst IsAsked (ap (λ (x : ConnOf A). x.call) is ∙ behind_call beat m) i);
}

-- behind what hands on, the connection is whole, and less is held or may be read
pub whole_behind : {A : Type 0} (seen : A → LinkSeen) (a m b : ConnOf A) (beat : Beat) (next : Request) → a.broken ≡ None → TakesBeat (seen_by seen a) (seen_by seen m) beat → b ≡ behind beat m → beat ≡ beats.HandsOn next → b.broken ≡ None
whole_behind {A} seen a m b beat next whole takes is e = ap (λ (x : ConnOf A). x.broken) (is ∙ ap (λ (w : Beat). behind w m) e) ∙ takes.3.broken ∙ whole

pub falls_behind : {A : Type 0} (seen : A → LinkSeen) (a m b : ConnOf A) (beat : Beat) → b ≡ behind beat m → Falls (seen_by seen a) (seen_by seen m) beat → Falls (seen_by seen a) (seen_by seen b) beat
falls_behind {A} seen a m b beats.More is f = subst (λ (x : ConnOf A). Falls (seen_by seen a) (seen_by seen x) beats.More) (sym is) f
falls_behind {A} seen a m b (beats.HandsOn next) is f = subst (λ (x : ConnOf A). Falls (seen_by seen a) (seen_by seen x) (beats.HandsOn next)) (sym is) f
falls_behind seen a m b _ is f = λ goes. absurd goes

-- what neither goes on nor hands on ends the poll
pub ends_poll : (beat : Beat) → beat ≢ beats.More → ((next : Request) → beat ≡ beats.HandsOn next → ⊥) → EndsPoll beat
ends_poll beats.More m n = m refl
ends_poll (beats.HandsOn next) m n = n next refl
ends_poll _ m n = tt

-- an exchange that was not asked for want of memory has done nothing, and is over
flush_main : (r : Request) → only_flushes (kind_of r) ≡ true → main_kind r ≡ kinds.Flush
flush_main requests.Flush f = refl
flush_main _ f = absurd cc

goal_no_flush : (goal : Goal) → goal_kind goal ≡ kinds.Flush → ⊥
goal_no_flush (goals.Run how) k = cc
goal_no_flush goals.Prepare k = cc

asks_flush : (r : Request) → main_kind r ≡ kinds.Flush → r ≡ requests.Flush
asks_flush requests.Flush k = refl
asks_flush (requests.Describe x) k = absurd (goal_no_flush x.goal k)
asks_flush (requests.Look lookup) k = absurd (goal_no_flush lookup.extended.goal k)
asks_flush (requests.Evict eviction) k = absurd (after_no_flush eviction.after k)
  where
    after_no_flush : (after : After) → after_kind after ≡ kinds.Flush → ⊥
    after_no_flush (afters.Run bound) k = cc
    after_no_flush (afters.Fill filling) k = cc
    after_no_flush (afters.Prepare prepared) k = cc
asks_flush _ k = absurd cc

refuses_flush : (rule : Rule) (r : Request) (c : ConnSeen) → (r ≡ requests.Flush → ⊥) → c.call ≡ calls.Asked (asked_by rule r) → is_flushed c ≡ true → ⊥
refuses_flush rule r c n e f =
    let flushing = (both_true (flushes c.call) (c.ledger.owed == 0) (both_true (flushes c.call && c.ledger.owed == 0) (nat_eq (length c.stream.unsent) 0) f).0).0 in
    n (asks_flush r (sym (asked_main rule r) ∙ flush_main (asked_by rule r) (subst (λ (x : Call). flushes x ≡ true) e flushing)))

pub unresolved : {A : Type 0} (seen : A → LinkSeen) (a b : ConnOf A) (e : Error) → a.broken ≡ None → IsUnresolved a b → e ≡ errors.OutOfMemory → Polled (resolved (seen_by seen a)) (seen_by seen b) (beats.Ends (Err e))
unresolved {A} seen a b e whole (r, asked, is, wants) memory =
    let begun : ConnSeen = resolved_by (calls.Asked r) (seen_by seen a) in
    let x : Request = asked_by a.rule r in
    let same : seen_by seen b ≡ cleaned (unfed false (record (idle begun) { broken = None })) = ap (λ (c : ConnOf A). seen_by seen c) is ∙ ap (λ (o : Option ServerFault). seen_by seen (unasked r (record a { broken = o }))) whole in
    rw (memory, asked) (record {
      stopped = idle begun;
      turns = refused begun errors.OutOfMemory (memory_refuses x);
      whole = whole;
      behind_is = same;
      says = inr (refused_now begun errors.OutOfMemory (memory_refuses x));
      flush = λ f. absurd (refuses_flush a.rule r begun wants refl f);
      asked = λ i. subst IsAsked (ap (λ (c : ConnOf A). c.call) is) i;
    })

-- a lookup that can't be asked ends the call, as an exchange that has done nothing
abbrev pub CantLook : List Declared → Learnt → Error → Type 0
CantLook names learnt e = (e ≡ errors.OutOfMemory) ⊎ (FailsSeeking learnt.seeking e ⊎ MissesName names learnt e)

-- such an error breaks nothing, and ends no copy
abbrev IsHarmless : Error → Type 0
IsHarmless e = (broken_by (beats.Ends (Err e)) ≡ None) × (ends_copy e ≡ false)

fails_harmless : (seeking : Seeking) (e : Error) → FailsSeeking seeking e → IsHarmless e
fails_harmless (seekings.Types s) e h = elim h.1.0 [
  | inl memory ↦ rw memory (refl, refl)
  | inr is ↦ rw is (refl, refl)
]
fails_harmless _ e h = absurd h

missed_harmless : (missing : Option (List ℕ)) (e : Error) → RefusesType missing e → IsHarmless e
missed_harmless missing errors.OutOfMemory h = (refl, refl)
missed_harmless missing (errors.TypeNotFound name) h = (refl, refl)
missed_harmless missing _ h = absurd h

unlooked_harmless : (names : List Declared) (learnt : Learnt) (e : Error) → CantLook names learnt e → IsHarmless e
unlooked_harmless names learnt e (inl memory) = rw memory (refl, refl)
unlooked_harmless names learnt e (inr (inl fails)) = fails_harmless learnt.seeking e fails
unlooked_harmless names learnt e (inr (inr misses)) = missed_harmless (unknown_name learnt.types names) e misses

-- the exchange that stands there: it is one of its own, and makes nothing of what is kept
abbrev vain_at : Request → ConnSeen → ConnSeen
vain_at q m = record m { call = calls.Asked q; keeping = keepings.Stays; groups = 0; earlier = min (m.earlier + m.groups) (2 ^ 64 - 1) }

unlooked_turns : (m : ConnSeen) (q : Request) (names : List Declared) (e : Error) → looks_for q ≡ Some names → CantLook names m.learnt e → TakesBeat (vain_at q m) (idle (vain_at q m)) (beats.Ends (Err e))
unlooked_turns m q names e for h =
    let a = vain_at q m in
    stays a (idle a) (beats.Ends (Err e)) (Moves-none a.stream) (NoneWaited-none a.stream) (keeps_idle a.call) refl refl refl refl refl refl refl refl (λ start r said hs items i.
    (refl, inr (leaves_call start r said hs items a.ledger a.call i, call_well start r said hs items a.ledger a.call i, by start r said hs items i h)))
  where
    by : (start : Ledger) (r : Request) (said : List FrontendMessage) (hs : List Frame) (items : List CallItem) (i : CallIs start r said hs items m.ledger (calls.Asked q)) → CantLook names m.learnt e
        → FailsBy (vain_at q m) (idle (vain_at q m)) start r (leaves_call start r said hs items m.ledger (calls.Asked q) i).own hs e
    by start r said hs items i (inl memory) = rw memory (inl (tt, tt))
    by start r said hs items i (inr (inl fails)) = inr (inr (names, ap looks_for (sym i.0) ∙ for, inl fails))
    by start r said hs items i (inr (inr misses)) = inr (inr (names, ap looks_for (sym i.0) ∙ for, inr (inr misses)))

unlooks_at : (m b : ConnSeen) (q : Request) (names : List Declared) (e : Error) → m.broken ≡ None → CanBeSaid q → flushes (calls.Asked q) ≡ false → looks_for q ≡ Some names → CantLook names m.learnt e → b ≡ unlooked m → Polled (vain_at q m) b (beats.Ends (Err e))
unlooks_at m b q names e whole can stays for h is = record {
  stopped = idle (vain_at q m);
  turns = unlooked_turns m q names e for h;
  whole = whole;
  behind_is = is ∙ ap (λ (o : Option ServerFault). unlooked (record m { broken = o })) whole ∙ ap₂ (λ (o : Option ServerFault) (copies : Bool). cleaned (unfed copies (record (idle (vain_at q m)) { broken = o }))) (sym (unlooked_harmless names m.learnt e h).0) (sym (unlooked_harmless names m.learnt e h).1);
  says = inl can;
  flush = λ f. absurd (differs (sym stays ∙ (both_true (flushes (calls.Asked q)) (m.ledger.owed == 0) (both_true (flushes (calls.Asked q) && m.ledger.owed == 0) (nat_eq (length m.stream.unsent) 0) f).0).0));
  asked = λ i. subst IsAsked (ap (λ (c : ConnSeen). c.call) is) i;
}
  where
    differs : false ≡ true → ⊥
    differs e = cc

wanted_same : (x : Extended) (d : Option Described) → wanted_by (record x { is_looked_up = true }) d ≡ wanted_by x d
wanted_same x None = refl
wanted_same x (Some d) = refl

pub unlooks : (m b : ConnSeen) (told : Request) (e : Error) → m.broken ≡ None → MayLook told → CantLook (wanted_in told) m.learnt e → b ≡ unlooked m → Polled (resolved (handed (vain_lookup told) m)) b (beats.Ends (Err e))
unlooks m b (requests.Describe x) e whole may h is = unlooks_at m b (vain_lookup (requests.Describe x)) (wanted_by x x.described) e whole ((refl, tt), tt) refl (ap (λ (names : List Declared). Some names) (wanted_same x x.described)) h is
unlooks m b (requests.Run bound) e whole may h is = unlooks_at m b (vain_lookup (requests.Run bound)) bound.arguments.holes e whole ((refl, tt), tt) refl refl h is
unlooks m b _ e whole may h is = absurd may
