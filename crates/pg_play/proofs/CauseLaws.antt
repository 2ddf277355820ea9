-- Why a step ended.
use Rattle.std.proofs.Common.{◌≡◌, ℕ, ◌+◌, ◌^◌, ◌<◌, Bool, false, cond, inl, inr, List, [], ◌∷◌, ◌++◌, length, map, refl, sym, ap, ◌∙◌, subst, arith, Option, Some, None, Err}
use Rattle.pg_wire.specs.declared.status.TransactionStatus.{TransactionStatus}
use Rattle.std.specs.List.{count_by, AllByRecursion}
use Rattle.std.proofs.lemmas.List.{length-append, map-append, nil_from_length}
use Rattle.pg_wire.specs.declared.error.Error.{Error}
use Rattle.pg_wire.specs.declared.error.Error.TheVariants as errors
use Rattle.pg_wire.specs.declared.error.IoCause.TheVariants as io
use Rattle.pg_wire.specs.declared.error.ProtocolFault.TheVariants as protocol
use Rattle.pg_wire.specs.declared.error.ServerFault.{ServerFault}
use Rattle.pg_wire.specs.declared.error.ServerFault.TheVariants as faults
use Rattle.pg_wire.specs.Frame.{Frame}
use Rattle.pg_wire.specs.Parts.{heard, is_ready}
use Rattle.pg_wire.specs.Frontend.{FrontendMessage}
use Rattle.pg_wire.specs.Backend.{BackendMessage, backend_frame, HasBackendFrame, ReadyForQuery}
use Rattle.pg_wire.specs.Refusals.{BeginsCopyResponse}
use Rattle.pg_stream.specs.Streams.{StreamSeen, HeardCause}
use Rattle.pg_call.specs.declared.request.Request.{Request}
use Rattle.pg_call.specs.declared.answer.CallItem.{CallItem}
use Rattle.pg_call.specs.declared.answer.CallItem.TheVariants as call_items
use Rattle.pg_call.specs.declared.ledger.Ledger.{Ledger}
use Rattle.pg_exchanges.specs.Expecting.{Widths, BeginsKnowing}
use Rattle.pg_call.specs.Requests.{Group, groups_of, widths_of, heading_of}
use Rattle.pg_call.specs.Items.{own_items, rows_in}
use Rattle.pg_call.specs.Drains.{after_readys}
use Rattle.pg_call.specs.Calls.{Leaves, CallEnds, EndsAstray, IsFrontFault}
use Rattle.pg_call.proofs.DrainLaws.{count-push, after_from}
use Rattle.pg_call.proofs.CallLaws.{copies_plain}
use Rattle.pg_conn.specs.Connections.{ConnSeen}
use Rattle.pg_conn.specs.Looking.{LookFails}
use Rattle.pg_conn.specs.Turns.{FrontFails, IsMissed}
use Rattle.pg_report.specs.declared.outcome.Item.{Item}
use Rattle.pg_report.specs.declared.outcome.End.{End}
use Rattle.pg_report.specs.declared.outcome.End.TheVariants as ends
use Rattle.pg_script.specs.declared.step.Step.{Step}
use Rattle.pg_play.specs.Shown.{parting_of, request_of, is_row, item_of}
use Rattle.pg_script.specs.declared.step.Parting.{Parting}
use Rattle.pg_script.specs.declared.step.Parting.TheVariants as partings
use Rattle.pg_play.specs.Calls.{IsDroppedAs as HasDroppedAs, IsOpened, Waited, EndsOn, EndsStarved, limits_of, outcome_of, Counted, asking}
use Rattle.pg_play.specs.Places.{Place, readies, refuses_copy}
use Rattle.pg_play.specs.Causes.{IsFront, IsUnlawful, ShowsFault, IsAskedToCopy, HasNoRow, Causes, IsStarved, AnsweredPending, HasOpened, IsDropped, IsDroppedAs, IsParted, HasCause, BeginsNone}
use Rattle.pg_play.specs.Plays.{StandsAt}
use Rattle.pg_play.proofs.CallLaws.{by_end}
use Rattle.pg_play.proofs.PartLaws.{no_error}
use Rattle.pg_play.proofs.StepLaws.{Summary, QueuedOwn, begins_one}
use Rattle.pg_play.proofs.PlaceLaws.{IsLookError, look_errors, next_place, ended_next}
use Rattle.pg_play.proofs.ToldLaws.{main_after, queued_one, fine_own, fine_carries}
use Rattle.pg_play.proofs.ShownLaws.{items_told, not_found, begun_failed}

-- ---- what holds at the next place

-- a call that is dropped with its group queued has that group in its summary
whole_own : (start : Ledger) (r : Request) (said : List FrontendMessage) (hs : List Frame) (items items' : List CallItem) (ledger : Ledger) (copied copied' : Bool) → (s : Summary start r said hs items' ledger copied) → (l : Leaves start r said hs items ledger copied') → l.own ≡ groups_of r → length l.own ≡ 1
    → QueuedOwn start.owed r s.own hs
whole_own start r said hs items items' ledger copied copied' s l e n = queued_one start.owed r s.own hs s.queued (omega (arith, s.counted, l.counted, n))

owes_next : (start : StreamSeen) (at : Place) (a : ConnSeen) (r : Request) (said : List FrontendMessage) (fs : List Frame) (items : List CallItem) (ledger : Ledger) (copied : Bool) → StandsAt start at a → (s : Summary a.ledger r said (heard fs) items ledger copied)
    → 0 < ledger.owed → readies (heard (at.frames ++ fs)) < length (at.groups ++ s.own)
owes_next start at a r said fs items ledger copied st s o = omega (arith, o, st.ledger, s.counted, ended_next at fs, length-append at.groups s.own)

-- ---- errors of the stream

shows_header : (widths : Widths) (at : Place) (b : ConnSeen) (said : List FrontendMessage) (own : List Group) (fs hs : List Frame) (end : End) (fault : ServerFault) → HeardCause b.stream b.stream (errors.Protocol (protocol.Server fault)) → ShowsFault widths at own hs (next_place at b said own fs end) fault
shows_header widths at b said own fs hs end (faults.Malformed tag) h = inl h
shows_header widths at b said own fs hs end (faults.Unlawful tag) h = absurd h
shows_header widths at b said own fs hs end _ h = h

-- the same whatever the stream was before
header_now : (a b : StreamSeen) (fault : ServerFault) → HeardCause a b (errors.Protocol (protocol.Server fault)) → HeardCause b b (errors.Protocol (protocol.Server fault))
header_now a b (faults.Malformed tag) h = h
header_now a b _ h = h

stream_cause : (start : StreamSeen) (old : Counted) (at : Place) (a b : ConnSeen) (step : Step) (said : List FrontendMessage) (fs : List Frame) (items : List CallItem) (copied : Bool) (end : End) (e : Error) → StandsAt start at a → (s : Summary a.ledger (request_of at.rule.depth step.call) said (heard fs) items b.ledger copied)
    → HeardCause (asking (request_of at.rule.depth step.call) old a).stream b.stream e → IsMissed b.ledger e → Causes at step s.own (heard fs) (next_place at b said s.own fs end) e
stream_cause start old at a b step said fs items copied end errors.OutOfMemory st s h m = tt
stream_cause start old at a b step said fs items copied end (errors.Io io.Fault) st s h m = rw (← st.seen) h
stream_cause start old at a b step said fs items copied end (errors.Io io.End) st s h m = (rw (← st.seen) h.0, h.1, owes_next start at a (request_of at.rule.depth step.call) said fs items b.ledger copied st s m)
stream_cause start old at a b step said fs items copied end (errors.Protocol (protocol.Server fault)) st s h m = inr (shows_header (widths_of (request_of at.rule.depth step.call)) at b said s.own fs (heard fs) end fault (header_now (asking (request_of at.rule.depth step.call) old a).stream b.stream fault h))
stream_cause start old at a b step said fs items copied end _ st s h m = absurd h

-- ---- the frame in front

front_cause : (start : StreamSeen) (at : Place) (a b : ConnSeen) (step : Step) (said : List FrontendMessage) (fs : List Frame) (items items' : List CallItem) (copied : Bool) (end : End) (e : Error) → StandsAt start at a → (s : Summary a.ledger (request_of at.rule.depth step.call) said (heard fs) items b.ledger copied)
    → (l : Leaves a.ledger (request_of at.rule.depth step.call) said (heard fs) items' b.ledger false) → FrontFails b a.ledger (request_of at.rule.depth step.call) l.own (heard fs) e → Causes at step s.own (heard fs) (next_place at b said s.own fs end) e
front_cause start at a b step said fs items items' copied end e st s l (front, rest, whole, answers, held, why) = by e why
  where
    is_front : IsFront (next_place at b said s.own fs end) front
    is_front = record { rest = rest; whole = whole; answers = answers; held = held }

    unlawful : (tag : ℕ) → IsFrontFault a.ledger (request_of at.rule.depth step.call) l.own (heard fs) front (errors.Protocol (protocol.Server (faults.Unlawful tag))) → IsUnlawful (widths_of (request_of at.rule.depth step.call)) at s.own (heard fs) (next_place at b said s.own fs end) tag
    unlawful tag (t, message, own, count, (group, is, none)) =
        let one : length l.own ≡ 1 = ap (λ (g : List Group). length g) (own ∙ is) in
        let q = whole_own a.ledger (request_of at.rule.depth step.call) said (heard fs) items' items b.ledger copied false s l own one in
        record {
          front = front;
          is_front = is_front;
          tagged = t;
          message = message;
          group = group;
          last = q.own_is ∙ is;
          in_own = omega (arith, st.ledger, count, ended_next at fs);
          none = subst (λ (x : List Frame). BeginsKnowing (widths_of (request_of at.rule.depth step.call)) group (x ++ front ∷ []) → ⊥) (sym (main_after start at a (request_of at.rule.depth step.call) s.own (heard fs) st q)) none;
        }

    by : (e : Error) → IsFrontFault a.ledger (request_of at.rule.depth step.call) l.own (heard fs) front e → Causes at step s.own (heard fs) (next_place at b said s.own fs end) e
    by errors.OutOfMemory h = tt
    by (errors.Protocol (protocol.Server (faults.Malformed tag))) h = inr (inr (front, is_front, h.0, h.1))
    by (errors.Protocol (protocol.Server (faults.Unlawful tag))) h = inr (unlawful tag h)
    by (errors.Protocol (protocol.Server _)) h = absurd h
    by (errors.Protocol _) h = absurd h
    by _ h = absurd h

-- ---- the call's own ends

copy_cause : (start : StreamSeen) (at : Place) (a b : ConnSeen) (step : Step) (said : List FrontendMessage) (fs : List Frame) (items items' : List CallItem) (copied copied' : Bool) (tag : ℕ) → StandsAt start at a → (s : Summary a.ledger (request_of at.rule.depth step.call) said (heard fs) items b.ledger copied)
    → (l : Leaves a.ledger (request_of at.rule.depth step.call) said (heard fs) items' b.ledger copied') → l.own ≡ groups_of (request_of at.rule.depth step.call) → length l.own ≡ 1 → EndsAstray a.ledger (request_of at.rule.depth step.call) (heard fs) tag → IsAskedToCopy at step s.own (heard fs) tag
copy_cause start at a b step said fs items items' copied copied' tag st s l e n c =
    let q = whole_own a.ledger (request_of at.rule.depth step.call) said (heard fs) items' items b.ledger copied copied' s l e n in
    let unready = (copies_plain c.part c.last c.copies).0 in
    let same : count_by is_ready (heard fs) ≡ count_by is_ready c.front = ap (λ (x : List Frame). count_by is_ready x) c.hs_are ∙ count-push is_ready c.front (backend_frame c.last) ∙ ap (λ (t : Bool). count_by is_ready c.front + cond t 1 0) unready ∙ omega arith in
    let split : after_readys a.ledger.owed (heard fs) ≡ after_readys a.ledger.owed c.front ++ backend_frame c.last ∷ [] =
    ap (after_readys a.ledger.owed) c.hs_are ∙ after_from c.front a.ledger.owed (backend_frame c.last) (omega (arith, q.read, same)) in
    record {
      front = c.front;
      last = c.last;
      slice_is = c.hs_are;
      last_has_frame = c.last_has_frame;
      tagged = c.tagged;
      whole = q.own_is;
      before = c.own;
      part = c.part;
      says = (
        main_after start at a (request_of at.rule.depth step.call) s.own (heard fs) st q ∙ split ∙ ap (λ (x : List Frame). x ++ backend_frame c.last ∷ []) c.own_is ∙ sym (map-append backend_frame c.own (c.last ∷ [])),
        both c.own c.own_have_frames,
      );
      so_far = c.so_far;
      copies = c.copies;
      lawful = λ group e. subst (BeginsCopyResponse group) (sym (main_after start at a (request_of at.rule.depth step.call) s.own (heard fs) st q)) (c.lawful group (sym q.own_is ∙ e));
    }
  where
    both : (own : List BackendMessage) → AllByRecursion HasBackendFrame own → AllByRecursion HasBackendFrame (own ++ c.last ∷ [])
    both [] h = (c.last_has_frame, tt)
    both (m ∷ ms) h = (h.0, both ms h.1)

no_rows : (xs : List CallItem) → rows_in xs ≡ [] → AllByRecursion (λ item. is_row item ≡ false) (map item_of xs)
no_rows [] e = tt
no_rows (call_items.Row row ∷ xs) e = absurd cc
no_rows (call_items.Count n ∷ xs) e = (refl, no_rows xs e)
no_rows (call_items.Piece bytes ∷ xs) e = (refl, no_rows xs e)

row_cause : (start : StreamSeen) (at : Place) (a b : ConnSeen) (step : Step) (said : List FrontendMessage) (fs : List Frame) (items items' : List CallItem) (copied : Bool) (end : End) → StandsAt start at a → (s : Summary a.ledger (request_of at.rule.depth step.call) said (heard fs) items' b.ledger copied)
    → CallEnds a.ledger (request_of at.rule.depth step.call) said (heard fs) items b.ledger (Err errors.RowNotFound) → HasNoRow at step s.own (heard fs) (next_place at b said s.own fs end)
row_cause start at a b step said fs items items' copied end st s h =
    let f = h.0 in
    let found = not_found at.rule.depth step.call f.reply f.status (by_end _ _ h.1) in
    let carried = fine_carries start at a at.rule.depth step.call said (heard fs) items items' b.ledger copied st s f in
    record {
      wants = found.0;
      no_error = no_error (heard fs) f.well;
      answered = omega (arith, st.ledger, s.counted, f.owes, ended_next at fs, length-append at.groups s.own);
      whole = fine_own a.ledger (request_of at.rule.depth step.call) said (heard fs) items items' b.ledger copied s f;
      response = carried.0;
      says = carried.1;
      no_row = subst (AllByRecursion (λ item. is_row item ≡ false)) (sym (items_told (heading_of (request_of at.rule.depth step.call)) carried.0 ∙ ap (map item_of) carried.2)) (no_rows (own_items (request_of at.rule.depth step.call) f.reply) found.1);
    }

begin_cause : (start : StreamSeen) (at : Place) (a b : ConnSeen) (step : Step) (said : List FrontendMessage) (fs : List Frame) (items items' : List CallItem) (copied : Bool) (end : End) (status : TransactionStatus) → StandsAt start at a → (s : Summary a.ledger (request_of at.rule.depth step.call) said (heard fs) items' b.ledger copied)
    → CallEnds a.ledger (request_of at.rule.depth step.call) said (heard fs) items b.ledger (Err (errors.BeginFailed status)) → BeginsNone at step s.own (heard fs) status
begin_cause start at a b step said fs items items' copied end status st s h =
    let f = h.0 in
    let found = begun_failed at.rule.depth step.call f.reply f.status status (by_end _ _ h.1) in
    let whole = fine_own a.ledger (request_of at.rule.depth step.call) said (heard fs) items items' b.ledger copied s f in
    elim f.last [
      | inl none ↦ absurd (begins_one at.rule.depth step.call found.0 none)
      | inr last ↦ record {
        begins_it = found.0;
        no_error = no_error (heard fs) f.well;
        whole = whole;
        front = last.0;
        slice_is = last.1 ∙ ap (λ (x : TransactionStatus). last.0 ++ backend_frame (ReadyForQuery x) ∷ []) found.1;
        other = found.2;
      }
    ]

none_own : (start : Ledger) (r : Request) (said : List FrontendMessage) (hs : List Frame) (items : List CallItem) (ledger : Ledger) (copied : Bool) (s : Summary start r said hs items ledger copied) → hs ≡ [] → ledger ≡ start → s.own ≡ []
none_own start r said hs items ledger copied s e l = nil_from_length s.own (omega (arith, s.counted, ap (λ (x : List Frame). count_by is_ready x) e, ap (λ (x : Ledger). x.owed) l))

call_cause : (start : StreamSeen) (at : Place) (a b : ConnSeen) (step : Step) (said : List FrontendMessage) (fs : List Frame) (items items' : List CallItem) (copied : Bool) (end : End) (e : Error) → StandsAt start at a → (s : Summary a.ledger (request_of at.rule.depth step.call) said (heard fs) items' b.ledger copied)
    → CallEnds a.ledger (request_of at.rule.depth step.call) said (heard fs) items b.ledger (Err e) → Causes at step s.own (heard fs) (next_place at b said s.own fs end) e
call_cause start at a b step said fs items items' copied end errors.RowNotFound st s h = row_cause start at a b step said fs items items' copied end st s h
call_cause start at a b step said fs items items' copied end (errors.BeginFailed status) st s h = begin_cause start at a b step said fs items items' copied end status st s h
call_cause start at a b step said fs items items' copied end (errors.Database details) st s h = (h.1.0, h.1.1, h.1.2)
call_cause start at a b step said fs items items' copied end (errors.Protocol (protocol.Reply tag)) st s h = copy_cause start at a b step said fs items' items copied _ tag st s h.0.0 h.0.1 h.0.2 h.2
call_cause start at a b step said fs items items' copied end (errors.Protocol (protocol.Caller fault)) st s h = (none_own a.ledger (request_of at.rule.depth step.call) said (heard fs) items' b.ledger copied s h.1 h.3, h.1, h.4)
call_cause start at a b step said fs items items' copied end (errors.Protocol _) st s h = absurd h
call_cause start at a b step said fs items items' copied end _ st s h = absurd h

-- ---- a lookup that fails

look_cause : (at : Place) (step : Step) (own : List Group) (slice : List Frame) (next : Place) (e : Error) → LookFails (request_of at.rule.depth step.call) slice next.learnt e → Causes at step own slice next e
look_cause at step own slice next e h = by e h (look_errors (request_of at.rule.depth step.call) slice next.learnt e h)
  where
    by : (e : Error) → LookFails (request_of at.rule.depth step.call) slice next.learnt e → IsLookError e → Causes at step own slice next e
    by e f (inl memory) = subst (Causes at step own slice next) (sym memory) tt
    by e f (inr (inl (oids, is))) = subst (Causes at step own slice next) (sym is) (subst (LookFails (request_of at.rule.depth step.call) slice next.learnt) is f)
    by e f (inr (inr (inl (place, is)))) = subst (Causes at step own slice next) (sym is) (subst (LookFails (request_of at.rule.depth step.call) slice next.learnt) is f)
    by e f (inr (inr (inr (name, is)))) = subst (Causes at step own slice next) (sym is) (subst (LookFails (request_of at.rule.depth step.call) slice next.learnt) is f)

-- ---- an end, of whatever kind

-- a copy from the client that was given up is open
pub parted_step : (start first : StreamSeen) (old : Counted) (at : Place) (a b : ConnSeen) (step : Step) (said : List FrontendMessage) (fs : List Frame) (shown : List Item) (items : List CallItem) → StandsAt start at a
    → EndsOn None (limits_of step) first (asking (request_of at.rule.depth step.call) old a) b (request_of at.rule.depth step.call) said (heard fs) shown ends.Dropped → (s : Summary a.ledger (request_of at.rule.depth step.call) said (heard fs) items b.ledger false) → IsParted (parting_of step.call) at s.own (heard fs) (next_place at b said s.own fs ends.Dropped)
parted_step start first old at a b step said fs shown items st h s = by (parting_of step.call) h.4
  where
    opened : IsOpened h.2.own h.2.reply → HasOpened at s.own (heard fs)
    opened o =
        let one : length s.own ≡ 1 = omega (arith, o.0, h.2.counted, s.counted) in
        let main = main_after start at a (request_of at.rule.depth step.call) s.own (heard fs) st (queued_one a.ledger.owed (request_of at.rule.depth step.call) s.own (heard fs) s.queued one) in
        (λ e. absurd (omega (arith, one, ap (λ (g : List Group). length g) e)), (o.1, o.2, main ∙ h.2.replied ∙ ap (λ (ms : List BackendMessage). map backend_frame ms) o.3))

    by : (q : Parting) → HasDroppedAs q (limits_of step) first (asking (request_of at.rule.depth step.call) old a) b h.2.own h.2.reply shown → IsParted q at s.own (heard fs) (next_place at b said s.own fs ends.Dropped)
    by partings.None d = tt
    by partings.Left d = (opened d.0, d.1)
    by partings.Unsaid d = opened d
    by (partings.Failed message) d = (opened d.0, d.1)

pub cause_step : (o : Option ServerFault) (start first : StreamSeen) (old : Counted) (at : Place) (a b : ConnSeen) (step : Step) (said : List FrontendMessage) (fs : List Frame) (shown : List Item) (end : End) (items : List CallItem) → StandsAt start at a → at.broken ≡ o
    → EndsOn o (limits_of step) first (asking (request_of at.rule.depth step.call) old a) b (request_of at.rule.depth step.call) said (heard fs) shown end → (s : Summary a.ledger (request_of at.rule.depth step.call) said (heard fs) items b.ledger (refuses_copy end)) → HasCause at step s.own (heard fs) (next_place at b said s.own fs end) end
cause_step None start first old at a b step said fs shown (ends.Ok told) items st w h s = tt
cause_step None start first old at a b step said fs shown (ends.Err e) items st w (inl (xs, k, l, inl h)) s = call_cause start at a b step said fs xs items (refuses_copy (ends.Err e)) (ends.Err e) e st s h
cause_step None start first old at a b step said fs shown (ends.Err e) items st w (inl (xs, k, l, inr (left, well, inl (heard_so, missed)))) s = stream_cause start old at a b step said fs items (refuses_copy (ends.Err e)) (ends.Err e) e st s heard_so missed
cause_step None start first old at a b step said fs shown (ends.Err e) items st w (inl (xs, k, l, inr (left, well, inr (inl front)))) s = front_cause start at a b step said fs items xs (refuses_copy (ends.Err e)) (ends.Err e) e st s left front
cause_step None start first old at a b step said fs shown (ends.Err e) items st w (inl (xs, k, l, inr (left, well, inr (inr look)))) s = look_cause at step s.own (heard fs) (next_place at b said s.own fs (ends.Err e)) e look
cause_step None start first old at a b step said fs shown (ends.Err e) items st w (inr (xs, k, z, f)) s = subst (λ (x : Error). Causes at step s.own (heard fs) (next_place at b said s.own fs (ends.Err e)) x) (sym z) tt
cause_step None start first old at a b step said fs shown ends.Dropped items st w h s = inr (parted_step start first old at a b step said fs shown items st h s)
cause_step (Some fault) start first old at a b step said fs shown end items st w h s = by end h.0 s
  where
    by : (end : End) → end ≡ ends.Err (errors.Protocol (protocol.Server fault)) → (s : Summary a.ledger (request_of at.rule.depth step.call) said (heard fs) items b.ledger (refuses_copy end)) → HasCause at step s.own (heard fs) (next_place at b said s.own fs end) end
    by (ends.Ok told) e s = tt
    by ends.Dropped e s = absurd cc
    by (ends.Err x) e s = kept x (same x e) s
      where
        same : (x : Error) → ends.Err x ≡ ends.Err (errors.Protocol (protocol.Server fault)) → x ≡ errors.Protocol (protocol.Server fault)
        same x e = cc

        kept : (x : Error) → x ≡ errors.Protocol (protocol.Server fault) → (s : Summary a.ledger (request_of at.rule.depth step.call) said (heard fs) items b.ledger (refuses_copy (ends.Err x))) → Causes at step s.own (heard fs) (next_place at b said s.own fs (ends.Err x)) x
        kept x e s = subst (λ (z : Error). Causes at step s.own (heard fs) (next_place at b said s.own fs (ends.Err x)) z) (sym e) (inl w)

-- ---- a step that was dropped

-- an outcome counts the waits and the moves of the stream
pub pending_in : (first : StreamSeen) (b : ConnSeen) (polls : ℕ) (shown : List Item) (end : End) → first.waits ≡ 0 → first.moves ≡ 0 → polls < 2 ^ 32 → Waited polls first b.stream → AnsweredPending (outcome_of b shown end) polls
pending_in first b polls shown end z v p w = (w.spent, omega (arith, z, p, w.all, w.waits), omega (arith, v, p, w.all, w.moves))

starved_at : (start first : StreamSeen) (old : Counted) (at : Place) (a b : ConnSeen) (step : Step) (said : List FrontendMessage) (fs : List Frame) (items : List CallItem) (copied : Bool) (shown : List Item) (end : End) → StandsAt start at a → first.moves ≡ 0 → (s : Summary a.ledger (request_of at.rule.depth step.call) said (heard fs) items b.ledger copied)
    → EndsStarved first (asking (request_of at.rule.depth step.call) old a) b → IsStarved at (outcome_of b shown end) (next_place at b said s.own fs end)
starved_at start first old at a b step said fs items copied shown end st v s (inl w) = inl (rw (← st.seen) w)
starved_at start first old at a b step said fs items copied shown end st v s (inr (inl m)) = inr (inl (omega (arith, v, m)))
starved_at start first old at a b step said fs items copied shown end st v s (inr (inr x)) = inr (inr (x.0, x.1, owes_next start at a (request_of at.rule.depth step.call) said fs items b.ledger copied st s x.2))

pub dropped_step : (o : Option ServerFault) (start first : StreamSeen) (old : Counted) (at : Place) (a b : ConnSeen) (step : Step) (said : List FrontendMessage) (fs : List Frame) (shown : List Item) (end : End) (items : List CallItem) → StandsAt start at a → first.waits ≡ 0 → first.moves ≡ 0 → step.polls < 2 ^ 32 → end ≡ ends.Dropped
    → EndsOn o (limits_of step) first (asking (request_of at.rule.depth step.call) old a) b (request_of at.rule.depth step.call) said (heard fs) shown end → (s : Summary a.ledger (request_of at.rule.depth step.call) said (heard fs) items b.ledger (refuses_copy end))
    → IsDropped at step (outcome_of b shown end) (next_place at b said s.own fs end)
dropped_step None start first old at a b step said fs shown ends.Dropped items st z v p k h s = by (parting_of step.call) h.4
  where
    by : (q : Parting) → HasDroppedAs q (limits_of step) first (asking (request_of at.rule.depth step.call) old a) b h.2.own h.2.reply shown → IsDroppedAs q at step (outcome_of b shown ends.Dropped) (next_place at b said s.own fs ends.Dropped)
    by partings.None (inl waited) = inr (inl (pending_in first b step.polls shown ends.Dropped z v p waited.0, starved_at start first old at a b step said fs items false shown ends.Dropped st v s waited.1))
    by partings.None (inr most) = inr (inr most)
    by partings.Left d = tt
    by partings.Unsaid d = tt
    by (partings.Failed message) d = tt
dropped_step None start first old at a b step said fs shown (ends.Ok told) items st z v p k h s = absurd cc
dropped_step None start first old at a b step said fs shown (ends.Err e) items st z v p k h s = absurd cc
dropped_step (Some fault) start first old at a b step said fs shown end items st z v p k h s = let x = sym k ∙ h.0 in absurd cc
