-- One more poll of an exchange of a call that is played.
use Rattle.std.proofs.Common.{◌≡◌, ◌≢◌, ◌⊎◌, ℕ, ◌+◌, ◌*◌, ◌<◌, ◌≤◌, inl, inr, cond, Bool, true, false, List, [], ◌∷◌, ◌++◌, length, map, refl, sym, ap, ◌∙◌, subst, arith, append_assoc, append-nil, Option, Some, None, Ok, Err, not, ◌&&◌, nat_eq, Result, ◌-◌, ◌==◌}
use Rattle.pg_call.specs.declared.kind.Kind.{Kind}
use Rattle.pg_call.specs.declared.kind.Kind.TheVariants as kinds
use Rattle.pg_call.specs.declared.kind.Keeping.TheVariants as keepings
use Rattle.pg_conn.proofs.StateLaws.{runs_on, same_kept}
use Rattle.pg_conn.specs.Statements.{moved, step_of, unmoved}
use Rattle.pg_call.specs.Drains.{drain_fails, before_readys}
use Rattle.pg_call.specs.Hearing.{sent_answer}
use Rattle.pg_wire.proofs.Tests.{both_true}
use Rattle.std.proofs.lemmas.Bool.{eqb-true}
use Rattle.pg_call.specs.declared.kind.Change.{Change}
use Rattle.pg_wire.specs.declared.status.TransactionStatus.TheVariants as statuses
use Rattle.pg_wire.specs.declared.status.TransactionStatus.{TransactionStatus}
use Rattle.pg_call.specs.declared.kind.Change.TheVariants as changes
use Rattle.pg_call.specs.Items.{begun as begun_by_status, own_items, shown}
use Rattle.std.specs.List.{count_by}
use Rattle.std.proofs.lemmas.List.{map-append, length-append, length-map}
use Rattle.std.proofs.lemmas.List.Sums.{sum_by-append}
use Rattle.pg_wire.specs.declared.error.Error.{Error}
use Rattle.pg_wire.specs.declared.error.Error.TheVariants as errors
use Rattle.pg_wire.specs.declared.error.IoCause.TheVariants as io
use Rattle.pg_wire.specs.declared.error.ProtocolFault.TheVariants as protocol
use Rattle.pg_wire.specs.declared.error.ServerFault.{ServerFault}
use Rattle.pg_wire.specs.declared.error.ServerFault.TheVariants as faults
use Rattle.pg_wire.specs.Frame.{Frame}
use Rattle.pg_wire.specs.Parts.{heard}
use Rattle.pg_wire.specs.Frontend.{FrontendMessage}
use Rattle.pg_wire.specs.Backend.{BackendMessage}
use Rattle.pg_wire.proofs.PartLaws.{heard-append}
use Rattle.pg_stream.specs.Links.{NoneFalls, GrewBy}
use Rattle.pg_stream.specs.Streams.{StreamSeen, Moves, Tallies, NoneWaited, PendingCause, HeardCause, fuel_of}
use Rattle.pg_stream.proofs.StreamLemmas.{AreFrames-append, Tallies-then, Tallies-none, GrewBy-then}
use Rattle.pg_call.specs.declared.request.Request.{Request}
use Rattle.pg_call.specs.declared.request.Request.TheVariants as requests
use Rattle.pg_call.specs.declared.answer.CallItem.{CallItem}
use Rattle.pg_call.specs.declared.answer.CallAnswer.{CallAnswer}
use Rattle.pg_call.specs.declared.answer.CallAnswer.TheVariants as answers
use Rattle.pg_call.specs.declared.calling.Call.{Call}
use Rattle.pg_call.specs.declared.calling.Call.TheVariants as calls
use Rattle.pg_call.specs.declared.calling.Beat.{Beat}
use Rattle.pg_call.specs.declared.calling.Beat.TheVariants as beats
use Rattle.pg_call.specs.declared.ledger.Ledger.{Ledger}
use Rattle.pg_call.specs.Requests.{name_of, running_bound, spelled, CanBeSaid, IsRefusal, messages_of}
use Rattle.pg_call.specs.Calls.{CallIs, Leaves, answer_by, EndsFine}
use Rattle.pg_call.proofs.LeaveLaws.{leaves_call, call_well}
use Rattle.pg_conn.proofs.CleanupLaws.{stays_unfed}
use Rattle.pg_conn.specs.Connections.{ConnSeen, idle, begins_copy, begun_with, is_fed, unfed, runs, ended, settled, cleaned, left, may_open, queued_group, rollback, depth_behind, with_depth, Standing, standing, restated, resolved, resolved_by}
use Rattle.pg_conn.specs.Turns.{ends_request, Tells, IsWaited, BeatCause, IsSayable, Refuses, Refused, broken_by, is_flushed, behind, TakesBeat, EndsFlush, HasAllRoom, HasRoomBeside, kept_for, IsAsked, flushes}
use Rattle.pg_report.specs.declared.outcome.Item.{Item}
use Rattle.pg_report.specs.declared.outcome.Answer.{Answer}
use Rattle.pg_report.specs.declared.outcome.End.{End}
use Rattle.pg_report.specs.declared.outcome.End.TheVariants as ends
use Rattle.pg_call.proofs.FitLaws.{the_ok}
use Rattle.pg_call.specs.declared.query_result.PgQueryResult.{PgQueryResult}
use Rattle.pg_play.specs.declared.tally.Limits.{Limits}
use Rattle.pg_play.specs.Shown.{item_of, items_with, has_rows, answer_of}
use Rattle.pg_startup.specs.Flows.{Flows}
use Rattle.pg_startup.proofs.FlowLaws.{Flows-then, Flows-none, flows_begun}
use Rattle.pg_play.proofs.WaitLaws.{still_grown, waits_none, waits_on}
use Rattle.pg_play.specs.Calls.{Bounds, bounds, again, change_for, Waited, Went, InPlay, IsPlayingOn, EndsStarved, IsDropped, broken_after, HasWaitedFew, IsFresh, IsHeldBack, EndsAtOnce, EndsOn, HasEnded, IsLast, EndsCall, Ended, StopsBy, AnswersBy, IsAnswered}
use Rattle.pg_conn.specs.Looking.{Learns, named_by, named_in}
use Rattle.pg_conn.proofs.OwedLaws.{run_asks, spelled-append, counts-append}
use Rattle.pg_conn.proofs.TurnLaws.{Learns-then, tells_from, kept}

-- ---- the stream, over any number of polls

count-append : (t : FrontendMessage → Bool) (xs ys : List FrontendMessage) → count_by t (xs ++ ys) ≡ count_by t xs + count_by t ys
count-append t xs ys = sum_by-append (λ (y : FrontendMessage). cond (t y) 1 0) xs ys

-- ---- one poll more

-- a poll that waits has one more cause
pub waited_more : (n : ℕ) (a b c : StreamSeen) → NoneFalls b.link c.link → b.moves ≤ c.moves → Waited n a b → PendingCause (record b { left = 256 }) c → Waited (n + 1) a c
waited_more n a b c m v h p = elim p [
  | inl x ↦ record {
    write_waits = h.write_waits + 1;
    read_waits = h.read_waits;
    spent = h.spent;
    all = omega (arith, h.all);
    writes = GrewBy-then _ _ _ _ _ _ h.writes x.0 refl;
    reads = still_grown _ _ _ _ h.reads x.3;
    moved = omega (arith, h.moved, m.moved);
    waits = GrewBy-then _ _ _ _ _ _ h.waits x.1 (omega arith);
    moves = omega (arith, h.moves, v);
  }
  | inr y ↦ elim y [
    | inl x ↦ record {
      write_waits = h.write_waits;
      read_waits = h.read_waits + 1;
      spent = h.spent;
      all = omega (arith, h.all);
      writes = still_grown _ _ _ _ h.writes x.0.3;
      reads = GrewBy-then _ _ _ _ _ _ h.reads x.0.0 refl;
      moved = omega (arith, h.moved, m.moved);
      waits = GrewBy-then _ _ _ _ _ _ h.waits x.0.1 (omega arith);
      moves = omega (arith, h.moves, v);
    }
    | inr x ↦ record {
      write_waits = h.write_waits;
      read_waits = h.read_waits;
      spent = h.spent + 1;
      all = omega (arith, h.all);
      writes = still_grown _ _ _ _ h.writes x.1.2.2.0;
      reads = still_grown _ _ _ _ h.reads x.1.2.2.1;
      moved = omega (arith, h.moved, x.0, x.1.0);
      waits = still_grown _ _ _ _ h.waits x.1.2.0;
      moves = omega (arith, h.moves, x.0, x.1.1);
    }
  ]
]

pub waited_after : (n : ℕ) (a b c : StreamSeen) → NoneFalls b.link c.link → NoneWaited b c → b.moves ≤ c.moves → Waited n a b → Waited n a c
waited_after n a b c m w v h = record {
  write_waits = h.write_waits;
  read_waits = h.read_waits;
  spent = h.spent;
  all = h.all;
  writes = still_grown _ _ _ _ h.writes w.2.0;
  reads = still_grown _ _ _ _ h.reads w.2.1;
  moved = omega (arith, h.moved, m.moved);
  waits = still_grown _ _ _ _ h.waits w.0;
  moves = omega (arith, h.moves, v);
}

pub waited_none : (a b : StreamSeen) → a ≡ b → Waited 0 a b
waited_none a b e = rw (← e) (record { write_waits = 0; read_waits = 0; spent = 0; all = refl; writes = omega arith; reads = omega arith; moved = omega arith; waits = omega arith; moves = omega arith })

-- nothing was shown and taken
abbrev pub BeatStays : ConnSeen → ConnSeen → List CallItem → List Frame → Type 0
BeatStays a c items fs = (items ≡ []) × (fs ≡ []) × (record c { stream = record c.stream { left = a.stream.left } } ≡ idle a)

-- what can be said, and has no such type, is asked
pub not_held_back : (r : Request) → CanBeSaid r → named_in r ≡ None → IsHeldBack r → ⊥
not_held_back r can none (inl u) = u can
not_held_back r can none (inr (told, e)) = none_some (sym none ∙ e)
  where
    none_some : None ≡ Some told → ⊥
    none_some e = cc

-- what isn't asked is refused by the beat, which does nothing else
abbrev pub BeatRefuses : ConnSeen → ConnSeen → Request → List CallItem → List Frame → Beat → Type 0
BeatRefuses a c r items fs (beats.Ends (Err e)) = IsRefusal r e × BeatStays a c items fs
BeatRefuses a c r items fs _ = ⊥

-- a flush with nothing to do ends, and does nothing
abbrev pub BeatFlushes : ConnSeen → ConnSeen → List CallItem → List Frame → Beat → Type 0
BeatFlushes a c items fs (beats.Ends (Ok answer)) = (answer ≡ answers.Unit) × BeatStays a c items fs
BeatFlushes a c items fs _ = ⊥

-- behind a poll, of the whole call, where so many items were shown before it
pub record OverPoll (first : StreamSeen) (a c : ConnSeen) (waits items : ℕ) (beat : Beat) : Type 0 where
  pub waited : beat ≢ beats.Waits → Waited waits first c.stream
  pub calls : c.stream.link.calls ≤ first.link.calls + 256 * (waits + items + 1)
  pub waits_more : beat ≡ beats.Waits → Waited (waits + 1) first c.stream
  pub starved : beat ≡ beats.Waits → IsWaited c → EndsStarved first a c

-- what the beat of a poll has in common, from the state a in which the exchange began
pub record AfterBeat (first : StreamSeen) (a c : ConnSeen) (r : Request) (waits : ℕ) (items : List CallItem) (beat : Beat) (said : List FrontendMessage) (fs : List Frame) : Type 0 where
  pub went : Went a c said fs
  pub broken : c.broken ≡ None
  pub asked : a.change ≡ change_for r
  pub room : HasAllRoom a → HasAllRoom c
  pub tells : Tells a c a.ledger r said (heard fs) items beat
  pub over : OverPoll first a c waits (length items + again r) beat
  pub unsaid : IsHeldBack r → BeatRefuses a c r items fs beat
  pub unflushed : is_flushed a ≡ true → BeatFlushes a c items fs beat

pub heard_cause : (a b c : StreamSeen) (e : Error) → NoneFalls a.link b.link → HeardCause (record b { left = 256 }) c e → HeardCause a c e
heard_cause a b c errors.OutOfMemory m h = tt
heard_cause a b c (errors.Io io.Fault) m h = omega (arith, h, m.faults)
heard_cause a b c (errors.Io io.End) m h = (omega (arith, h.0, m.ends), h.1)
heard_cause a b c (errors.Protocol (protocol.Server (faults.Malformed tag))) m h = h
heard_cause a b c (errors.Protocol (protocol.Server fault)) m h = h
heard_cause a b c _ m h = absurd h

cause_of : (b c : ConnSeen) (beat : Beat) → BeatCause b c beat → beat ≡ beats.Waits → BeatCause b c beats.Waits
cause_of b c beats.Waits h e = h
cause_of b c beats.More h e = absurd cc
cause_of b c (beats.Yields item) h e = absurd cc
cause_of b c (beats.Opens opened) h e = absurd cc
cause_of b c (beats.Ends answer) h e = absurd cc
cause_of b c (beats.HandsOn next) h e = absurd cc

none_waited : (b c : ConnSeen) (beat : Beat) → BeatCause b c beat → beat ≢ beats.Waits → NoneWaited b.stream c.stream
none_waited b c beats.More h n = h.2
none_waited b c beats.Waits h n = absurd (n refl)
none_waited b c (beats.Yields item) h n = h
none_waited b c (beats.Opens opened) h n = h
none_waited b c (beats.Ends (Ok answer)) h n = h.2
none_waited b c (beats.HandsOn next) h n = h.2
none_waited b c (beats.Ends (Err e)) h n = h

-- a beat waits or not
waits_or_not : (b c : ConnSeen) (beat : Beat) → BeatCause b c beat → NoneWaited b.stream c.stream ⊎ PendingCause b.stream c.stream
waits_or_not b c beats.More h = inl h.2
waits_or_not b c beats.Waits h = inr h.0
waits_or_not b c (beats.Yields item) h = inl h
waits_or_not b c (beats.Opens opened) h = inl h
waits_or_not b c (beats.Ends (Ok answer)) h = inl h.2
waits_or_not b c (beats.HandsOn next) h = inl h.2
waits_or_not b c (beats.Ends (Err e)) h = inl h

starved_now : (n : ℕ) (first : StreamSeen) (a b c : ConnSeen) → a.stream.link.write_waits ≤ b.stream.link.write_waits → Waited n first b.stream → BeatCause (begun_with 256 b) c beats.Waits → IsWaited c → EndsStarved first a c
starved_now n first a b c m v p w = elim w [
  | inl o ↦ elim p.0 [
    | inl x ↦ inl (omega (arith, x.0, m))
    | inr y ↦ elim y [
      | inl x ↦ inr (inr (x.1, x.2, o))
      | inr x ↦ inr (inl (omega (arith, x.0, x.1.1, v.moves)))
    ]
  ]
  | inr only ↦ elim (p.1 only) [
    | inl x ↦ inl (omega (arith, x.0, m))
    | inr x ↦ inr (inl (omega (arith, x.0, x.1.1, v.moves)))
  ]
]

abbrev pub AfterSome : StreamSeen → ConnSeen → ConnSeen → Request → ℕ → List CallItem → Beat → Type 0
AfterSome first a c r waits items beat = (said : List FrontendMessage) × (fs : List Frame) × AfterBeat first a c r waits items beat said fs

tallies_begun : (left : ℕ) (a b : StreamSeen) → Tallies (record a { left = left }) b → Tallies a b
tallies_begun left a b t = record { write_waits = t.write_waits; read_waits = t.read_waits; moved = t.moved; waits = t.waits; moves = t.moves; writes = t.writes; reads = t.reads; moving = t.moving }

-- however many calls it might still make
waits_freely : (left : ℕ) (b c : StreamSeen) → NoneWaited b c ⊎ PendingCause (record b { left = left }) c → NoneWaited b c ⊎ PendingCause (record b { left = 256 }) c
waits_freely left b c (inl n) = inl n
waits_freely left b c (inr (inl x)) = inr (inl x)
waits_freely left b c (inr (inr (inl x))) = inr (inr (inl x))
waits_freely left b c (inr (inr (inr x))) = inl x.1.2

pub went_on : (left : ℕ) (a b c : ConnSeen) (said more : List FrontendMessage) (q : List ℕ) (fs gs : List Frame) → Went a b said fs → Moves (record b.stream { left = left }) c.stream q gs → spelled more ≡ q → GrewBy (count_by ends_request more) b.groups c.groups
    → GrewBy (length (heard gs)) b.heard c.heard → (c.sent ≡ b.sent) × (c.read ≡ b.read) × (c.rule ≡ b.rule) × (standing c ≡ standing b) → Learns (heard gs) b.learnt c.learnt → NoneWaited b.stream c.stream ⊎ PendingCause (record b.stream { left = left }) c.stream → Went a c (said ++ more) (fs ++ gs)
went_on left a b c said more q fs gs w m e g h s l waited = record {
  flows = subst (λ (t : List ℕ). Flows a.stream c.stream t (fs ++ gs)) (ap (λ (t : List ℕ). spelled said ++ t) (sym e) ∙ sym (spelled-append said more)) (Flows-then a.stream b.stream c.stream (spelled said) q fs gs w.flows (flows_begun b.stream c.stream left q gs m));
  tallies = Tallies-then a.stream b.stream c.stream w.tallies (tallies_begun left b.stream c.stream m.tallies);
  waits = waits_on a.stream b.stream c.stream fs gs w.waits (AreFrames-append fs gs w.flows.read.3 m.read.3) m.read (waits_freely left b.stream c.stream waited);
  groups = GrewBy-then _ _ _ _ _ _ w.groups g (count-append ends_request said more);
  heard = GrewBy-then _ _ _ _ _ _ w.heard h (ap (λ (t : List Frame). length t) (heard-append fs gs) ∙ length-append (heard fs) (heard gs));
  started = (s.0 ∙ w.started.0, s.1 ∙ w.started.1, s.2 ∙ w.started.2, s.3 ∙ w.started.3);
  learns = subst (λ (x : List Frame). Learns x a.learnt c.learnt) (sym (heard-append fs gs)) (Learns-then (heard fs) (heard gs) a.learnt b.learnt c.learnt w.learns l);
}

-- the first poll of a call took no frame, where it left the stream as it was
first_stays : (left : ℕ) (first : StreamSeen) (a b c : ConnSeen) (r : Request) (waits : ℕ) (items : List CallItem) (said : List FrontendMessage) (fs gs : List Frame) (q : List ℕ) → InPlay first a b r waits items said fs → IsFresh a b r fs → Moves (record b.stream { left = left }) c.stream q gs
    → c ≡ idle (begun_with left b) → BeatStays a c items (fs ++ gs)
first_stays left first a b c r waits items said fs gs q i f m e = (
  (subst (λ (k : Call). CallIs a.ledger r said (heard fs) items b.ledger k) (ap (λ (x : ConnSeen). x.call) f.0 ∙ f.1) i.call).4,
  ap (λ (x : List Frame). x ++ gs) f.2 ∙ no_frame gs (omega (arith, m.fuel, ap (λ (x : ConnSeen). fuel_of x.stream) e)),
  ap (λ (x : ConnSeen). record x { stream = record x.stream { left = a.stream.left } }) (e ∙ ap (λ (x : ConnSeen). idle (begun_with left x)) f.0),
)
  where
    no_frame : (xs : List Frame) → length xs ≡ 0 → xs ≡ []
    no_frame [] k = refl
    no_frame (x ∷ xs) k = absurd (omega (arith, k))

refuses_beat : (left : ℕ) (first : StreamSeen) (a b c : ConnSeen) (r : Request) (waits : ℕ) (items : List CallItem) (beat : Beat) (said : List FrontendMessage) (fs gs : List Frame) (q : List ℕ) → InPlay first a b r waits items said fs → (IsSayable b.call × (named_by b.call ≡ None)) ⊎ Refused (begun_with left b) c beat → Moves (record b.stream { left = left }) c.stream q gs
    → IsHeldBack r → BeatRefuses a c r items (fs ++ gs) beat
refuses_beat left first a b c r waits items beat said fs gs q i says m u = elim says [
  | inl can ↦ absurd (not_held_back r (subst IsSayable asked can.0) (sym (ap named_by asked) ∙ can.1) u)
  | inr refused ↦ by beat refused
]
  where
    asked : b.call ≡ calls.Asked r
    asked = ap (λ (x : ConnSeen). x.call) (i.unsaid u).0 ∙ (i.unsaid u).1

    by : (beat : Beat) → Refused (begun_with left b) c beat → BeatRefuses a c r items (fs ++ gs) beat
    by (beats.Ends (Err e)) h = (subst (λ (k : Call). Refuses k e) asked h.0, first_stays left first a b c r waits items said fs gs q i (i.unsaid u) m h.1)
    by (beats.Ends (Ok answer)) h = absurd h
    by (beats.Yields item) h = absurd h
    by (beats.Opens opened) h = absurd h
    by (beats.HandsOn next) h = absurd h
    by beats.More h = absurd h
    by beats.Waits h = absurd h

-- what is flushed so answers nothing of its own
flush_answers : (r : Request) → flushes (calls.Asked r) ≡ true → sent_answer (calls.Asked r) ≡ answers.Unit
flush_answers requests.Flush e = refl
flush_answers _ e = absurd cc

flushes_beat : (left : ℕ) (first : StreamSeen) (a b c : ConnSeen) (r : Request) (waits : ℕ) (items : List CallItem) (beat : Beat) (said : List FrontendMessage) (fs gs : List Frame) (q : List ℕ) → InPlay first a b r waits items said fs → EndsFlush (begun_with left b) c beat → Moves (record b.stream { left = left }) c.stream q gs
    → is_flushed a ≡ true → BeatFlushes a c items (fs ++ gs) beat
flushes_beat left first a b c r waits items beat said fs gs q i flush m f =
    let done = flush (ap is_flushed (i.unflushed f).0 ∙ f) in
    let called : b.call ≡ calls.Asked r = ap (λ (x : ConnSeen). x.call) (i.unflushed f).0 ∙ (i.unflushed f).1 in
    let flushing : flushes b.call ≡ true = (both_true (flushes b.call) (b.ledger.owed == 0) (both_true (flushes b.call && b.ledger.owed == 0) (nat_eq (length b.stream.unsent) 0) (ap is_flushed (i.unflushed f).0 ∙ f)).0).0 in
    let answers_unit : sent_answer b.call ≡ answers.Unit = ap sent_answer called ∙ flush_answers r (subst (λ (k : Call). flushes k ≡ true) called flushing) in
    subst (BeatFlushes a c items (fs ++ gs)) (sym (done.0 ∙ ap (λ (x : CallAnswer). beats.Ends (Ok x)) answers_unit)) (refl, first_stays left first a b c r waits items said fs gs q i (i.unflushed f) m done.1)

-- what holds of the whole call behind a poll, whose last beat is this one
pub over_poll : (first : StreamSeen) (a b c : ConnSeen) (waits items : ℕ) (beat : Beat) (q : List ℕ) (fs : List Frame) → a.stream.link.write_waits ≤ b.stream.link.write_waits → Waited waits first b.stream → b.stream.link.calls ≤ first.link.calls + 256 * (waits + items)
    → Moves (record b.stream { left = 256 }) c.stream q fs → BeatCause (begun_with 256 b) c beat → OverPoll first a c waits items beat
over_poll first a b c waits items beat q fs w v k moves cause = record {
  waited = λ n. waited_after waits first b.stream c.stream moves.counts (none_waited (begun_with 256 b) c beat cause n) moves.tallies.moves.0 v;
  calls = omega (arith, k, moves.calls);
  waits_more = λ e. waited_more waits first b.stream c.stream moves.counts moves.tallies.moves.0 v (cause_of (begun_with 256 b) c beat cause e).0;
  starved = λ e o. starved_now waits first a b c w v (cause_of (begun_with 256 b) c beat cause e) o;
}

-- A beat that begins with so many calls left. What it goes on from is counted from any stream.
some_item : (items : List CallItem) (item : CallItem) → items ++ item ∷ [] ≡ [] → ⊥
some_item [] item h = absurd cc
some_item (i ∷ is) item h = absurd cc

-- a copy that was fed to its end shows no item
fed_shows_none : (start : Ledger) (r : Request) (said : List FrontendMessage) (hs : List Frame) (items : List CallItem) (item : CallItem) (ledger : Ledger) (call : Call) → CallIs start r said hs (items ++ item ∷ []) ledger call → again r ≡ 0
fed_shows_none start (requests.CopyIn feed) said hs items item ledger (calls.Asked asked) i = absurd (some_item items item i.4)
fed_shows_none start (requests.CopyIn feed) said hs items item ledger (calls.Waiting w) i = absurd (some_item items item i.3.items_are)
fed_shows_none start (requests.CopyIn feed) said hs items item ledger (calls.Own reply) i =
    let c = i.2 in
    absurd (some_item items item (c.items_are ∙ ap (λ (k : Kind). shown k (own_items (requests.CopyIn feed) c.own)) c.kind_is ∙ none (own_items (requests.CopyIn feed) c.own)))
  where
    none : (xs : List CallItem) → shown kinds.CopyIn xs ≡ []
    none [] = refl
    none (x ∷ xs) = none xs
fed_shows_none start (requests.CopyIn feed) said hs items item ledger calls.Closing i = let k = i.0 in absurd cc
fed_shows_none start (requests.CopyIn feed) said hs items item ledger calls.Idle i = absurd i
fed_shows_none start _ said hs items item ledger call i = refl

pub after_beat : (left : ℕ) (old first : StreamSeen) (a b m : ConnSeen) (r : Request) (before waits : ℕ) (items : List CallItem) (beat : Beat) (said : List FrontendMessage) (fs : List Frame) → InPlay old a b r before items said fs → TakesBeat (begun_with left b) m beat → m.broken ≡ None
    → (IsSayable b.call × (named_by b.call ≡ None)) ⊎ Refused (begun_with left b) m beat → EndsFlush (begun_with left b) m beat → OverPoll first a m waits (length items + again r) beat → AfterSome first a m r waits items beat
after_beat left old first a b m r before waits items beat said fs i t whole says flush over =
    let turns = t.3 in
    let told = turns.tells a.ledger r said (heard fs) items i.call in
    let all : heard fs ++ t.2 ≡ heard (fs ++ t.1) = ap (λ (x : List Frame). heard fs ++ x) (sym turns.hears) ∙ sym (heard-append fs t.1) in
    let moves = turns.moves in
    let grew = subst (λ (x : List Frame). GrewBy (length x) b.heard m.heard) (sym turns.hears) turns.counted in (
      said ++ told.0,
      fs ++ t.1,
      record {
        went = went_on left a b m said told.0 t.0 fs t.1 i.went moves told.1 told.2 grew turns.started (subst (λ (x : List Frame). Learns x b.learnt m.learnt) (sym turns.hears) turns.learns) (waits_or_not (begun_with left b) m beat turns.cause);
        broken = whole;
        asked = i.asked;
        room = λ h. subst (λ (n : ℕ). HasRoomBeside n m) (same_kept b m turns.started.2 turns.started.3) (turns.room (kept_for b) (omega arith) (i.room h));
        tells = subst (λ (x : List Frame). Tells a m a.ledger r (said ++ told.0) x items beat) all (tells_from a b m a.ledger r (said ++ told.0) (heard fs ++ t.2) items beat i.went.flows.counts told.3);
        over = over;
        unsaid = refuses_beat left old a b m r before items beat said fs t.1 t.0 i says moves;
        unflushed = flushes_beat left old a b m r before items beat said fs t.1 t.0 i flush moves;
      },
    )

-- behind a poll, whether or not the connection was broken
abbrev pub PlayBeat : Option ServerFault → ℕ → StreamSeen → ConnSeen → ConnSeen → Request → ℕ → List Item → Beat → Type 0
PlayBeat None most first a c r waits shown beat = (items : List CallItem) × (shown ≡ map item_of items) × (length shown < most) × (m : ConnSeen) × (c ≡ behind beat m) × AfterSome first a m r waits items beat × (IsAsked c.call → ⊥)
PlayBeat (Some fault) most first a c r waits shown beat = (c ≡ cleaned (idle a)) × (beat ≡ beats.Ends (Err (errors.Protocol (protocol.Server fault)))) × (shown ≡ []) × (a.groups ≡ 0) × (first ≡ a.stream)

-- ---- what each beat makes of the call

more_shown : (shown : List Item) (items : List CallItem) (item : CallItem) → shown ≡ map item_of items → shown ++ item_of item ∷ [] ≡ map item_of (items ++ item ∷ [])
more_shown shown items item e = ap (λ (x : List Item). x ++ item_of item ∷ []) e ∙ sym (map-append item_of items (item ∷ []))

-- a call that was polled stands as an exchange
pub unasked_stays : (c : ConnSeen) → (IsAsked c.call → ⊥) → resolved c ≡ c
unasked_stays c n = by c.call refl
  where
    by : (call : Call) → c.call ≡ call → resolved_by call c ≡ c
    by (calls.Asked r) e = absurd (n (subst IsAsked (sym e) tt))
    by calls.Idle e = refl
    by (calls.Waiting w) e = refl
    by (calls.Own reply) e = refl
    by calls.Closing e = refl

pub goes_waits : (o : Option ServerFault) (most : ℕ) (first : StreamSeen) (a c : ConnSeen) (r : Request) (waits : ℕ) (shown : List Item) → PlayBeat o most first a c r waits shown beats.Waits → IsPlayingOn o most first a c r (waits + 1) shown
goes_waits None most first a c r waits shown h =
    let after = h.5.2 in
    let on : InPlay first a h.3 r (waits + 1) h.0 h.5.0 h.5.1 = record { went = after.went; broken = after.broken; asked = after.asked; room = after.room; call = after.tells.0; waited = after.over.waits_more refl; calls = omega (arith, after.over.calls); unsaid = λ u. absurd (after.unsaid u); unflushed = λ f. absurd (after.unflushed f) } in
    (h.0, h.5.0, h.5.1, h.1, h.2, subst (λ (x : ConnSeen). InPlay first a x r (waits + 1) h.0 h.5.0 h.5.1) (sym (unasked_stays c h.6 ∙ h.4)) on)
goes_waits (Some fault) most first a c r waits shown h = let e = h.1 in absurd cc

-- fewer items than so many, and one more
below_more : (shown : List Item) (item : Item) (most : ℕ) → length shown < most → length (shown ++ item ∷ []) ≢ most → length (shown ++ item ∷ []) < most
below_more shown item most l n =
    omega (arith, l, n, length-append shown (item ∷ []))

pub goes_yields : (o : Option ServerFault) (most : ℕ) (first : StreamSeen) (a c : ConnSeen) (r : Request) (waits : ℕ) (shown : List Item) (item : CallItem) → length (shown ++ item_of item ∷ []) ≢ most → PlayBeat o most first a c r waits shown (beats.Yields item)
    → IsPlayingOn o most first a c r waits (shown ++ item_of item ∷ [])
goes_yields None most first a c r waits shown item n h =
    let after = h.5.2 in
    let on : InPlay first a h.3 r waits (h.0 ++ item ∷ []) h.5.0 h.5.1 = record { went = after.went; broken = after.broken; asked = after.asked; room = after.room; call = after.tells; waited = after.over.waited (λ e. absurd cc); calls = omega (arith, after.over.calls, length-append h.0 (item ∷ [])); unsaid = λ u. absurd (after.unsaid u); unflushed = λ f. absurd (after.unflushed f) } in
    (h.0 ++ item ∷ [], h.5.0, h.5.1, more_shown shown h.0 item h.1, below_more shown (item_of item) most h.2 n, subst (λ (x : ConnSeen). InPlay first a x r waits (h.0 ++ item ∷ []) h.5.0 h.5.1) (sym (unasked_stays c h.6 ∙ h.4)) on)
goes_yields (Some fault) most first a c r waits shown item n h = let e = h.1 in absurd cc

-- an end that the first poll doesn't make
pub not_at_once : (a c : ConnSeen) (r : Request) (shown : List Item) (end : End) (fs : List Frame) → (IsHeldBack r → ⊥) → (is_flushed a ≡ true → ⊥) → EndsAtOnce a c r shown end fs
not_at_once a c r shown end fs n m = record { refused = λ u. absurd (n u); flushed = λ f. absurd (m f) }

-- an end on a connection that was whole
pub ended_whole : (limits : Bounds) (first : StreamSeen) (a c : ConnSeen) (r : Request) (shown : List Item) (end : End) (said : List FrontendMessage) (fs : List Frame) → a.broken ≡ None → Went a c said fs
    → c.broken ≡ broken_after None end → HasWaitedFew limits.polls first c.stream end → (HasAllRoom a → HasAllRoom c) → c.stream.link.calls ≤ first.link.calls + 256 * (limits.polls + limits.most) → EndsAtOnce a c r shown end fs → EndsOn None limits first a c r said (heard fs) shown end → EndsCall r end → HasEnded limits first a c r shown end
ended_whole limits first a c r shown end said fs e w k few room made once n call = (
  said,
  fs,
  record {
    went = w;
    broken = subst (λ (o : Option ServerFault). c.broken ≡ broken_after o end) (sym e) k;
    kept = λ fault h. let x = sym e ∙ h in absurd cc;
    few = few;
    room = room;
    calls = made;
    at_once = λ o. once;
    ends = subst (λ (o : Option ServerFault). EndsOn o limits first a c r said (heard fs) shown end) (sym e) n;
  },
  call,
)

went_none : (a c : ConnSeen) → c ≡ idle a → Went a c [] []
went_none a c k = rw k (record {
  flows = Flows-none a.stream a.stream refl refl refl refl;
  tallies = Tallies-none a.stream a.stream refl refl refl;
  waits = waits_none a.stream;
  groups = (omega arith, omega arith, omega arith);
  heard = (omega arith, omega arith, omega arith);
  started = (refl, refl, refl, refl);
  learns = ([], tt, refl);
})

-- what is no copy from the client leaves none
plain_unfed : (over : Bool) (c : ConnSeen) → c.change ≡ changes.Stays → unfed over c ≡ c
plain_unfed over c e = stays_unfed over c (by (λ change. begins_copy change) refl) (by (λ change. is_fed change) refl)
  where
    none : (g : Bool) → not g && false ≡ false
    none true = refl
    none false = refl

    by : (test : Change → Bool) → test changes.Stays ≡ false → not (nat_eq c.groups 0) && test c.change ≡ false
    by test t = ap (λ (x : Change). not (nat_eq c.groups 0) && test x) e ∙ ap (λ (b : Bool). not (nat_eq c.groups 0) && b) t ∙ none (nat_eq c.groups 0)

-- nor does what queued no group
pub unqueued_unfed : (over : Bool) (c : ConnSeen) → c.groups ≡ 0 → unfed over c ≡ c
unqueued_unfed over c e = stays_unfed over c (ap (λ (n : ℕ). not (nat_eq n 0) && begins_copy c.change) e) (ap (λ (n : ℕ). not (nat_eq n 0) && is_fed c.change) e)

-- an end on one that was broken, where nothing was queued
ended_broken : (limits : Bounds) (first : StreamSeen) (a c : ConnSeen) (r : Request) (fault : ServerFault) → 0 < limits.polls → a.broken ≡ Some fault → c ≡ cleaned (idle a) → a.groups ≡ 0 → first ≡ a.stream → StopsBy limits first a c r [] (ends.Err (errors.Protocol (protocol.Server fault)))
ended_broken limits first a c r fault l e k g same = (idle a, ([], [], stays, tt), inl (refl, k ∙ sym (ap (λ (x : ConnSeen). cleaned x) (unqueued_unfed false (idle a) g))))
  where
    stays : Ended limits first a (idle a) r [] (ends.Err (errors.Protocol (protocol.Server fault))) [] []
    stays = record {
      went = went_none a (idle a) refl;
      broken = e ∙ sym (ap (λ (o : Option ServerFault). broken_after o (ends.Err (errors.Protocol (protocol.Server fault)))) e);
      kept = λ f h. refl;
      few = (0, waited_none first a.stream same, (λ d. l, omega arith));
      room = λ h. omega (arith, h);
      calls = omega (arith, ap (λ (x : StreamSeen). x.link.calls) same);
      at_once = λ o. let x = sym e ∙ o in absurd cc;
      ends = subst (λ (o : Option ServerFault). EndsOn o limits first a (idle a) r [] [] [] (ends.Err (errors.Protocol (protocol.Server fault)))) (sym e) (refl, refl, refl, refl, refl);
    }

-- the fault that an end shows breaks the connection
abbrev faulted : Error → ConnSeen → ConnSeen
faulted e c = record c { broken = broken_by (beats.Ends (Err e)) }

went_faulted : (a c : ConnSeen) (e : Error) (said : List FrontendMessage) (fs : List Frame) → Went a c said fs → Went a (faulted e c) said fs
went_faulted a c e said fs w = record { flows = w.flows; tallies = w.tallies; waits = w.waits; learns = w.learns; groups = w.groups; heard = w.heard; started = w.started }

whole_again : (c : ConnSeen) (o : Option ServerFault) → c.broken ≡ None → record (record c { broken = o }) { broken = None } ≡ c
whole_again c o e = ap (λ (x : Option ServerFault). record c { broken = x }) (sym e)

pub below_items : (shown : List Item) (items : List CallItem) (most : ℕ) → shown ≡ map item_of items → length shown < most → length items < most
below_items shown items most e l = omega (arith, l, ap (λ (x : List Item). length x) e, length-map items item_of)

-- each of its polls but the last one waited or showed an item
again_once : (r : Request) → again r ≤ 1
again_once (requests.CopyIn feed) = by feed.is_ended
  where
    by : (b : Bool) → cond b 1 0 ≤ 1
    by true = omega arith
    by false = omega arith
again_once _ = omega arith

pub few_calls : (first : StreamSeen) (c : ConnSeen) (r : Request) (waits items : ℕ) (limits : Bounds) → waits < limits.polls → items < limits.most → c.stream.link.calls ≤ first.link.calls + 256 * (waits + (items + again r) + 1) → c.stream.link.calls ≤ first.link.calls + 256 * (limits.polls + limits.most)
few_calls first c r waits items limits l m k = omega (arith, l, m, k, again_once r)

-- an end that isn't a drop
pub ends_few : (limits : Bounds) (a c : StreamSeen) (waits : ℕ) (end : End) → waits < limits.polls → Waited waits a c → HasWaitedFew limits.polls a c end
ends_few limits a c waits end l w = (waits, w, (λ d. l, omega (arith, l)))

unleft : (a m : ConnSeen) → m.broken ≡ None → record m { broken = None; stream = record m.stream { left = a.stream.left } } ≡ record m { stream = record m.stream { left = a.stream.left } }
unleft a m e = ap (λ (o : Option ServerFault). record m { broken = o; stream = record m.stream { left = a.stream.left } }) (sym e)

-- what answers ends the call
ends_last : (r : Request) (reply : List BackendMessage) (status : TransactionStatus) (answer : CallAnswer) → answer_by r reply status ≡ beats.Ends (Ok answer) → IsLast r
ends_last (requests.Describe x) reply status answer e d = cc
ends_last (requests.Evict eviction) reply status answer e d = cc
ends_last (requests.Look lookup) reply status answer e d = cc
ends_last (requests.Fill filling) reply status answer e d = cc
ends_last (requests.Run bound) reply status answer e d = cc
ends_last _ reply status answer e d = cc

-- what it answers
pub by_end : (beat : Beat) (told : Result CallAnswer Error) → beat ≡ beats.Ends told → AnswersBy beat told
by_end beat told e = subst (λ (w : Beat). AnswersBy w told) (sym e) refl

pub answered : (start : Ledger) (r : Request) (said : List FrontendMessage) (hs : List Frame) (items : List CallItem) (ledger : Ledger) (beat : Beat) (answer : CallAnswer) → AnswersBy beat (Ok answer) → EndsFine start r said hs items ledger beat → IsAnswered start r said hs items ledger answer
answered start r said hs items ledger beat answer by e = (e.0, subst (λ (w : Beat). AnswersBy w (Ok answer)) (sym e.1) by)

pub goes_ok : (limits : Bounds) (o : Option ServerFault) (first : StreamSeen) (a c : ConnSeen) (r : Request) (waits : ℕ) (old new : List Item) (answer : CallAnswer) (told : Answer) → waits < limits.polls → a.broken ≡ o → new ≡ items_with old answer → told ≡ answer_of answer
    → PlayBeat o limits.most first a c r waits old (beats.Ends (Ok answer)) → StopsBy limits first a c r new (ends.Ok told)
goes_ok limits None first a c r waits old new answer told l e n t h =
    let m = h.3 in
    let fine = h.5.2.tells.1 in
    let after = h.5.2 in
    let ended = ended_whole limits first a m r new (ends.Ok told) h.5.0 h.5.1 e after.went after.broken (ends_few limits first m.stream waits (ends.Ok told) l (after.over.waited (λ d. absurd cc))) after.room (few_calls first m r waits (length h.0) limits l (below_items old h.0 limits.most h.1 h.2) after.over.calls)
    (record { refused = λ u. absurd (after.unsaid u); flushed = λ f. let x = after.unflushed f in (ap (λ (z : Answer). ends.Ok z) (t ∙ ap answer_of x.0), (n ∙ ap (λ (z : CallAnswer). items_with old z) x.0 ∙ h.1 ∙ ap (map item_of) x.1.0, x.1.1, unleft a m after.broken ∙ x.1.2)) })
    (h.0, answer, n ∙ ap (λ (x : List Item). items_with x answer) h.1, below_items old h.0 limits.most h.1 h.2, t, answered a.ledger r h.5.0 (heard h.5.1) h.0 m.ledger (beats.Ends (Ok answer)) answer refl fine, after.tells.2) (ends_last r fine.0.reply fine.0.status answer fine.1) in
    (m, ended, inl (after.tells.0, h.4))
goes_ok limits (Some fault) first a c r waits old new answer told l e n t h = let x = h.1 in absurd cc

units_none : (answer : CallAnswer) → ◌≡◌ {A = Result CallAnswer Error} (Ok answers.Unit) (Ok answer) → has_rows answer ≡ true → ⊥
units_none answers.Unit e h = cc
units_none (answers.Total n) e h = cc
units_none (answers.Rows rows) e h = cc
units_none (answers.OneRow row) e h = cc
units_none (answers.Statement prepared) e h = cc

begins_none : (status : TransactionStatus) (answer : CallAnswer) → begun_by_status status ≡ Ok answer → has_rows answer ≡ true → ⊥
begins_none statuses.Transaction (answers.Rows rows) e h = absurd cc
begins_none statuses.Transaction (answers.OneRow row) e h = absurd cc
begins_none statuses.Transaction answers.Unit e h = cc
begins_none statuses.Transaction (answers.Total n) e h = cc
begins_none statuses.Transaction (answers.Statement prepared) e h = cc
begins_none statuses.Idle answer e h = cc
begins_none statuses.Error answer e h = cc

totals_none : (total : PgQueryResult) (answer : CallAnswer) → answers.Total total ≡ answer → has_rows answer ≡ true → ⊥
totals_none total answer k h = let x = ap has_rows k ∙ h in cc

-- a call with rows opens and closes nothing
rows_stay : (r : Request) (reply : List BackendMessage) (status : TransactionStatus) (answer : CallAnswer) → AnswersBy (answer_by r reply status) (Ok answer) → has_rows answer ≡ true → change_for r ≡ changes.Stays
rows_stay (requests.Begin depth) reply status answer e h = absurd (begins_none status answer e h)
rows_stay (requests.BeginWith query) reply status answer e h = absurd (begins_none status answer e h)
rows_stay (requests.Commit left) reply status answer e h = absurd (units_none answer e h)
rows_stay (requests.Rollback left) reply status answer e h = absurd (units_none answer e h)
rows_stay (requests.CopyIn feed) reply status answer e h = absurd (totals_none _ answer (the_ok _ _ e) h)
rows_stay _ reply status answer e h = refl

-- such a call has asked for a reply
rows_asked : (r : Request) (reply : List BackendMessage) (status : TransactionStatus) (answer : CallAnswer) → AnswersBy (answer_by r reply status) (Ok answer) → has_rows answer ≡ true → count_by ends_request (messages_of r) ≡ 1
rows_asked (requests.Begin depth) reply status answer e h = refl
rows_asked (requests.BeginWith query) reply status answer e h = refl
rows_asked (requests.CopyOut query) reply status answer e h = refl
rows_asked (requests.CopyIn feed) reply status answer e h = absurd (totals_none _ answer (the_ok _ _ e) h)
rows_asked (requests.Commit left) reply status answer e h = refl
rows_asked (requests.Rollback left) reply status answer e h = refl
rows_asked (requests.Execute query) reply status answer e h = refl
rows_asked (requests.ExecuteMany query) reply status answer e h = refl
rows_asked (requests.Fetch query) reply status answer e h = refl
rows_asked (requests.FetchMany query) reply status answer e h = refl
rows_asked (requests.FetchAll query) reply status answer e h = refl
rows_asked (requests.FetchOptional query) reply status answer e h = refl
rows_asked (requests.FetchOne query) reply status answer e h = refl
rows_asked (requests.Describe x) reply status answer e h = refl
rows_asked (requests.Run bound) reply status answer e h = rw (append-nil (running_bound bound ++ []), append-nil (running_bound bound)) (run_asks (name_of bound.statement) bound.arguments.types bound.arguments.values bound.again)
rows_asked (requests.Evict eviction) reply status answer e h = refl
rows_asked (requests.Look lookup) reply status answer e h = refl
rows_asked (requests.Fill filling) reply status answer e h = refl
rows_asked requests.Ping reply status answer e h = refl
rows_asked (requests.Clear statements) reply status answer e h = absurd (units_none answer e h)
rows_asked (requests.Prepare prepared) reply status answer e h = absurd (tells_none answer (the_ok _ _ e) h)
  where
    tells_none : (answer : CallAnswer) → answers.Statement prepared ≡ answer → has_rows answer ≡ true → ⊥
    tells_none answer k h = let x = ap has_rows k ∙ h in cc
rows_asked requests.Flush reply status answer e h = absurd (units_none answer e h)
rows_asked requests.Close reply status answer e h = absurd (units_none answer e h)

-- once a group was queued, an Ok and another end make the same of a connection on which nothing was opened or closed
settled_is_cleaned : (m : ConnSeen) → m.change ≡ changes.Stays → nat_eq m.groups 0 ≡ false → settled m ≡ cleaned m
settled_is_cleaned m e g = ap (λ (c : Change). record m { rule = moved m.keeping (with_depth (depth_behind c m.groups m.rule.depth) m.rule); cache = step_of m.keeping m.cache; change = changes.Stays; keeping = keepings.Stays }) e ∙ sym (cleaned_so (restated m) refl)
  where
    restated_so : restated m ≡ record m { rule = moved m.keeping m.rule; cache = step_of m.keeping m.cache }
    restated_so = ap (λ (b : Bool). cond b (record m { rule = unmoved m.keeping m.rule }) (record m { rule = moved m.keeping m.rule; cache = step_of m.keeping m.cache })) g

    opens_none : may_open m.change m.groups m.rule.depth ≡ false
    opens_none = ap (λ (c : Change). may_open c m.groups m.rule.depth) e ∙ none (not (nat_eq m.groups 0)) (nat_eq m.rule.depth 0)
      where
        none : (a b : Bool) → a && (b && false) ≡ false
        none true true = refl
        none true false = refl
        none false b = refl

    cleaned_so : (d : ConnSeen) → restated m ≡ d → cleaned m ≡ record m { rule = moved m.keeping m.rule; cache = step_of m.keeping m.cache; change = changes.Stays; keeping = keepings.Stays }
    cleaned_so d k = ap (λ (b : Bool). ended (cond b (queued_group (spelled (rollback 0)) (restated m)) (restated m))) opens_none ∙ ap (λ (x : ConnSeen). ended x) restated_so

not_none : (n : ℕ) → 0 < n → nat_eq n 0 ≡ false
not_none n l = by (nat_eq n 0) refl
  where
    by : (b : Bool) → nat_eq n 0 ≡ b → b ≡ false
    by false e = refl
    by true e = let z = eqb-true n 0 e in absurd (omega (arith, z, l))

-- without memory for the items of the answer
pub goes_unshown : (limits : Bounds) (o : Option ServerFault) (first : StreamSeen) (a c : ConnSeen) (r : Request) (waits : ℕ) (old new : List Item) (answer : CallAnswer) (f : Error) → waits < limits.polls → a.broken ≡ o → new ≡ [] → f ≡ errors.OutOfMemory → has_rows answer ≡ true
    → PlayBeat o limits.most first a c r waits old (beats.Ends (Ok answer)) → StopsBy limits first a c r new (ends.Err f)
goes_unshown limits None first a c r waits old new answer f l e n t b h =
    let m = h.3 in
    let after = h.5.2 in
    let fine = after.tells.1 in
    let stays = ap (λ (x : Standing). x.change) after.went.started.3 ∙ after.asked ∙ rows_stay r fine.0.reply fine.0.status answer (by_end _ _ fine.1) b in
    let asked = ap (count_by ends_request) fine.0.said_is ∙ counts-append (drain_fails a.ledger.is_copy_failed (before_readys a.ledger.owed (heard h.5.1))) (messages_of r) in
    let some : nat_eq m.groups 0 ≡ false = not_none m.groups (omega (arith, after.went.groups, asked, rows_asked r fine.0.reply fine.0.status answer (by_end _ _ fine.1) b)) in
    let ended = ended_whole limits first a m r new (ends.Err errors.OutOfMemory) h.5.0 h.5.1 e after.went after.broken (ends_few limits first m.stream waits (ends.Err errors.OutOfMemory) l (after.over.waited (λ d. absurd cc))) after.room (few_calls first m r waits (length h.0) limits l (below_items old h.0 limits.most h.1 h.2) after.over.calls)
    (not_at_once a m r new (ends.Err errors.OutOfMemory) h.5.1 after.unsaid (λ k. let x = sym (ap has_rows (after.unflushed k).0) ∙ b in absurd cc)) (inr (h.0, n, refl, fine.0)) tt in
    rw t (m, ended, inl (after.tells.0, h.4 ∙ settled_is_cleaned m stays some ∙ sym (ap (λ (x : ConnSeen). cleaned x) (plain_unfed false m stays))))
goes_unshown limits (Some fault) first a c r waits old new answer f l e n t b h = let x = h.1 in absurd cc

broken_same : (e : Error) → broken_by (beats.Ends (Err e)) ≡ broken_after None (ends.Err e)
broken_same (errors.Protocol (protocol.Server fault)) = refl
broken_same (errors.Protocol _) = refl
broken_same _ = refl

same_error : (e e' : Error) → beats.Ends (Err e) ≡ beats.Ends (Err e') → e ≡ e'
same_error e e' h = cc

pub goes_err : (limits : Bounds) (o : Option ServerFault) (first : StreamSeen) (a c : ConnSeen) (r : Request) (waits : ℕ) (shown : List Item) (err : Error) → waits < limits.polls → a.broken ≡ o → PlayBeat o limits.most first a c r waits shown (beats.Ends (Err err)) → StopsBy limits first a c r shown (ends.Err err)
goes_err limits None first a c r waits shown err l e h =
    let m = h.3 in
    let after = h.5.2 in
    let ended = ended_whole limits first a (faulted err m) r shown (ends.Err err) h.5.0 h.5.1 e (went_faulted a m err h.5.0 h.5.1 after.went) (broken_same err) (ends_few limits first m.stream waits (ends.Err err) l (after.over.waited (λ d. absurd cc))) after.room (few_calls first (faulted err m) r waits (length h.0) limits l (below_items shown h.0 limits.most h.1 h.2) after.over.calls)
    (record { refused = λ u. let x = after.unsaid u in (err, x.0, refl, (h.1 ∙ ap (map item_of) x.1.0, x.1.1, unleft a m after.broken ∙ x.1.2)); flushed = λ f. absurd (after.unflushed f) }) (inl (h.0, h.1, h.2, after.tells.1)) tt in
    (faulted err m, ended, inl (after.tells.0, h.4))
goes_err limits (Some fault) first a c r waits shown err l e h = rw (same_error err (errors.Protocol (protocol.Server fault)) h.1, h.2) (ended_broken limits first a c r fault (omega (arith, l)) e h.0 h.3 h.4)

-- ---- a call that is given up

-- a call that runs can be polled again
drops : (limits : Limits) (o : Option ServerFault) (most : ℕ) (first : StreamSeen) (a c : ConnSeen) (r : Request) (waits : ℕ) (items : List CallItem) (shown : List Item) (said : List FrontendMessage) (fs : List Frame) → a.broken ≡ None → shown ≡ map item_of items → InPlay first a c r waits items said fs
    → (IsHeldBack r → ⊥) → (is_flushed a ≡ true → ⊥) → waits ≤ limits.polls → IsDropped (bounds limits) first a c [] [] shown → length shown ≤ limits.most → length items + again r ≤ limits.most → StopsBy (bounds limits) first a c r shown ends.Dropped
drops limits o most first a c r waits items shown said fs e k i n m l d b x =
    let ended = ended_whole (bounds limits) first a c r shown ends.Dropped said fs e i.went i.broken (waits, i.waited, (λ n. absurd (n refl), l)) i.room (omega (arith, i.calls, l, x)) (not_at_once a c r shown ends.Dropped fs n m)
    (items, k, leaves_call a.ledger r said (heard fs) items c.ledger c.call i.call, call_well a.ledger r said (heard fs) items c.ledger c.call i.call, d, b) tt in
    (c, ended, inr (runs_on a.ledger r said (heard fs) items c.ledger c.call i.call, refl, λ x. refl, refl))

pub drops_waiting : (limits : Limits) (o : Option ServerFault) (first : StreamSeen) (a c : ConnSeen) (r : Request) (waits : ℕ) (shown : List Item) → waits + 1 ≡ limits.polls → a.broken ≡ o → PlayBeat o limits.most first a c r waits shown beats.Waits → StopsBy (bounds limits) first a c r shown ends.Dropped
drops_waiting limits None first a c r waits shown k e h =
    let m = h.3 in
    let after = h.5.2 in
    let call = after.tells.0 in
    subst (λ (x : ConnSeen). StopsBy (bounds limits) first a x r shown ends.Dropped) (sym h.4) (drops limits None limits.most first a m r (waits + 1) h.0 shown h.5.0 h.5.1 e h.1 (record { went = after.went; broken = after.broken; asked = after.asked; room = after.room; call = call; waited = after.over.waits_more refl; calls = omega (arith, after.over.calls); unsaid = λ u. absurd (after.unsaid u); unflushed = λ f. absurd (after.unflushed f) }) after.unsaid after.unflushed (omega (arith, k))
    (inl (subst (λ (n : ℕ). Waited n first m.stream) k (after.over.waits_more refl), after.over.starved refl after.tells.1)) (omega (arith, h.2)) (omega (arith, h.2, again_once r, ap (λ (x : List Item). length x) h.1, length-map h.0 item_of)))
drops_waiting limits (Some fault) first a c r waits shown k e h = let x = h.1 in absurd cc

pub drops_shown : (limits : Limits) (o : Option ServerFault) (first : StreamSeen) (a c : ConnSeen) (r : Request) (waits : ℕ) (old new : List Item) (item : CallItem) → waits < limits.polls → new ≡ old ++ item_of item ∷ [] → length new ≡ limits.most → a.broken ≡ o → PlayBeat o limits.most first a c r waits old (beats.Yields item)
    → StopsBy (bounds limits) first a c r new ends.Dropped
drops_shown limits None first a c r waits old new item l k m e h =
    let after = h.5.2 in
    subst (λ (x : ConnSeen). StopsBy (bounds limits) first a x r new ends.Dropped) (sym h.4) (drops limits None limits.most first a h.3 r waits (h.0 ++ item ∷ []) new h.5.0 h.5.1 e (k ∙ more_shown old h.0 item h.1) (record { went = after.went; broken = after.broken; asked = after.asked; room = after.room; call = after.tells; waited = after.over.waited (λ d. absurd cc); calls = omega (arith, after.over.calls, length-append h.0 (item ∷ [])); unsaid = λ u. absurd (after.unsaid u); unflushed = λ f. absurd (after.unflushed f) }) after.unsaid after.unflushed (omega (arith, l)) (inr m) (omega (arith, m)) (omega (arith, m, fed_shows_none a.ledger r h.5.0 (heard h.5.1) h.0 item h.3.ledger h.3.call after.tells, ap (λ (x : List Item). length x) (k ∙ more_shown old h.0 item h.1), length-map (h.0 ++ item ∷ []) item_of)))
drops_shown limits (Some fault) first a c r waits old new item l k m e h = let x = h.1 in absurd cc

-- the items before the last one are the first ones
leaves_fewer : (start : Ledger) (r : Request) (said : List FrontendMessage) (hs : List Frame) (items : List CallItem) (item : CallItem) (ledger : Ledger) → Leaves start r said hs (items ++ item ∷ []) ledger false → Leaves start r said hs items ledger false
leaves_fewer start r said hs items item ledger l = record {
  own = l.own;
  bye = l.bye;
  reply = l.reply;
  said_is = l.said_is;
  counted = l.counted;
  failed_is = l.failed_is;
  queued = l.queued;
  farewells = l.farewells;
  replied = l.replied;
  reply_has_frames = l.reply_has_frames;
  shows = (item ∷ l.shows.0, sym (append_assoc items (item ∷ []) l.shows.0) ∙ l.shows.1);
  idle = λ e. absurd (some_end items item (l.idle e));
  rests = l.rests;
}
  where
    some_end : (items : List CallItem) (item : CallItem) → items ++ item ∷ [] ≡ [] → ⊥
    some_end [] item h = absurd cc
    some_end (i ∷ is) item h = absurd cc

-- without memory for an item
pub goes_unkept : (limits : Bounds) (o : Option ServerFault) (first : StreamSeen) (a c : ConnSeen) (r : Request) (waits : ℕ) (old new : List Item) (item : CallItem) (f : Error) → waits < limits.polls → new ≡ old → f ≡ errors.OutOfMemory → a.broken ≡ o → PlayBeat o limits.most first a c r waits old (beats.Yields item)
    → StopsBy limits first a c r new (ends.Err f)
goes_unkept limits None first a c r waits old new item f l k t e h =
    let m = h.3 in
    let after = h.5.2 in
    let more = leaves_call a.ledger r h.5.0 (heard h.5.1) (h.0 ++ item ∷ []) m.ledger m.call after.tells in
    let ended = ended_whole limits first a m r old (ends.Err errors.OutOfMemory) h.5.0 h.5.1 e after.went after.broken (ends_few limits first m.stream waits (ends.Err errors.OutOfMemory) l (after.over.waited (λ d. absurd cc))) after.room (few_calls first m r waits (length h.0) limits l (below_items old h.0 limits.most h.1 h.2) after.over.calls) (not_at_once a m r old (ends.Err errors.OutOfMemory) h.5.1 after.unsaid after.unflushed)
    (inl (h.0, h.1, h.2, inr (leaves_fewer a.ledger r h.5.0 (heard h.5.1) h.0 item m.ledger more, call_well a.ledger r h.5.0 (heard h.5.1) (h.0 ++ item ∷ []) m.ledger m.call after.tells, inl (tt, tt)))) tt in
    rw (k, t) (m, ended, inr (runs_on a.ledger r h.5.0 (heard h.5.1) (h.0 ++ item ∷ []) m.ledger m.call after.tells, h.4, λ x. refl, refl))
goes_unkept limits (Some fault) first a c r waits old new item f l k t e h = let x = h.1 in absurd cc
