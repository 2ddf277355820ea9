-- A copy from the client that is open: its data is sent, and it is given up.
use Rattle.std.proofs.Common.{◌≡◌, ◌⊎◌, ℕ, ◌+◌, ◌*◌, ◌^◌, ◌<◌, ◌≤◌, zero, suc, cond, inl, inr, Bool, true, false, not, ◌&&◌, List, [], ◌∷◌, ◌++◌, length, map, refl, sym, ap, ap₂, ◌∙◌, subst, arith, append-nil, nat_eq, Option, Some, None, Result, Ok, Err}
use Rattle.futures.specs.declared.task.Poll.{Poll}
use Rattle.futures.specs.declared.task.Poll.TheVariants.{Ready, Pending}
use Rattle.pg_wire.specs.declared.error.Error.{Error}
use Rattle.pg_wire.specs.declared.error.Error.TheVariants as errors
use Rattle.pg_wire.specs.declared.error.IoCause.TheVariants as io
use Rattle.pg_wire.specs.declared.error.ServerFault.{ServerFault}
use Rattle.pg_wire.specs.Frame.{Frame}
use Rattle.pg_wire.specs.Parts.{heard}
use Rattle.pg_wire.specs.Frontend.{CopyDone, CopyFail, FrontendMessage, HasFrontendFrame}
use Rattle.pg_wire.specs.Server.{IsPrefixOf}
use Rattle.pg_stream.specs.Links.{GrewBy}
use Rattle.pg_stream.specs.Streams.{NoneWaited, PendingCause, PollsSend, SendGives, StreamSeen}
use Rattle.pg_call.specs.declared.feed.Feed.{Feed}
use Rattle.pg_call.specs.declared.judging.Part.{Part}
use Rattle.pg_call.specs.declared.judging.Part.TheVariants.{Feeding, Opening}
use Rattle.pg_call.specs.declared.request.Request.{Request}
use Rattle.pg_call.specs.declared.request.Request.TheVariants as requests
use Rattle.pg_call.specs.declared.kind.Change.{Change}
use Rattle.pg_call.specs.declared.kind.Change.TheVariants as changes
use Rattle.pg_call.specs.declared.kind.Keeping.{Keeping}
use Rattle.pg_call.specs.declared.kind.Keeping.TheVariants as keepings
use Rattle.pg_call.specs.declared.calling.Call.{Call}
use Rattle.pg_call.specs.declared.calling.Call.TheVariants as states
use Rattle.pg_call.specs.declared.answer.CallItem.{CallItem}
use Rattle.pg_call.specs.declared.ledger.Ledger.{Ledger}
use Rattle.pg_call.specs.Replies.{part_after}
use Rattle.pg_call.specs.Requests.{spelled}
use Rattle.pg_call.specs.Hearing.{IsOpen}
use Rattle.pg_call.specs.Calls.{CallIs, Leaves}
use Rattle.pg_call.proofs.CopyInLaws.{came}
use Rattle.pg_call.proofs.LeaveLaws.{leaves_call, call_well}
use Rattle.pg_conn.specs.Connections.{ConnSeen, Standing, begun, cleaned, copied, copy_aborted, ended, idle, left, queued_group, resolved, rollback, runs, unfed}
use Rattle.pg_conn.specs.Feeding.{PollsFed, PollsFedBy}
use Rattle.pg_conn.specs.Turns.{HasAllRoom, first_exchange}
use Rattle.pg_conn.proofs.TurnLaws.{kept}
use Rattle.pg_conn.proofs.StateLaws.{runs_on}
use Rattle.pg_report.specs.declared.outcome.Item.{Item}
use Rattle.pg_report.specs.declared.outcome.Answer.TheVariants.{Unit as AnswersUnit}
use Rattle.pg_report.specs.declared.outcome.End.{End}
use Rattle.pg_report.specs.declared.outcome.End.TheVariants as ends
use Rattle.pg_report.specs.declared.outcome.Outcome.{Outcome}
use Rattle.pg_script.specs.declared.step.Copying.{Copying}
use Rattle.pg_script.specs.declared.step.CopyEnd.TheVariants as copy_ends
use Rattle.pg_script.specs.declared.step.Fed.{Fed}
use Rattle.pg_script.specs.declared.step.Parting.{Parting}
use Rattle.pg_script.specs.declared.step.Parting.TheVariants as partings
use Rattle.pg_script.specs.declared.step.Step.{Step}
use Rattle.pg_play.specs.declared.tally.Limits.{Limits}
use Rattle.pg_play.specs.declared.tally.Pause.TheVariants as pauses
use Rattle.pg_play.specs.Shown.{feed_of, item_of}
use Rattle.pg_play.specs.Calls.{Bounds, EndsStarved, HasEnded, InCopy, InPlay, IsCallPlaying, IsCopying, IsPlayingOn, IsDropped, IsOpened, IsUnpolled, Pauses, PlaysCall, PlaysStep, Waited, Went, behind_end, bounds, copy_behind, failed_by, first_conn, limits_of, outcome_of, parted}
use Rattle.pg_play.specs.Chains.{IsUnsaid, feeding, flushing, is_cancel, summed, told_behind}
use Rattle.pg_play.specs.Feeding.{CameOf, PartsAs, fed_with, parts_of}
use Rattle.pg_play.specs.Opened.{IsFed, IsOpenWith, IsPolled, PlaysCopy, asked_of_fed, fed_of, given_up_as, of_step}
use Rattle.pg_play.proofs.FirstLaws.{given_up, plays_one}
use Rattle.pg_play.proofs.CallLaws.{below_items, ended_whole, heard_cause, not_at_once, not_held_back, waited_after, waited_more, went_on}
use Rattle.pg_play.proofs.ThroughLaws.{plays_call}
use Rattle.pg_play.proofs.FeedingLaws.{asked_with, copy_ended, copy_feeds, copy_stops, fed_all, of_copy, open_stays, said_can}
use Rattle.pg_play.proofs.NextLaws.{replies_same}

-- what the server has answered to it begins the copy, and nothing else
opened_leaves : (start : Ledger) (feed : Feed) (said : List FrontendMessage) (hs : List Frame) (items : List CallItem) (ledger : Ledger) (call : Call) → IsOpen call → CallIs start (requests.CopyIn feed) said hs items ledger call → (l : Leaves start (requests.CopyIn feed) said hs items ledger false) → IsOpened l.own l.reply
opened_leaves start feed said hs items ledger (states.Own reply) o i l =
    let c = i.2 in
    let at = came feed.is_ended (Feeding false) c.own (subst (λ (p : Part). part_after (Opening feed.is_ended) c.own ≡ Some p) o c.so_far) in
    (omega (arith, l.counted, c.counted, ap (λ (x : Ledger). x.owed) i.0), at.0, at.1, replies_same l.reply c.own (sym l.replied ∙ c.own_is) l.reply_has_frames c.own_have_frames ∙ at.2)
opened_leaves start feed said hs items ledger states.Idle o i l = absurd o
opened_leaves start feed said hs items ledger (states.Asked asked) o i l = absurd o
opened_leaves start feed said hs items ledger (states.Waiting w) o i l = absurd o
opened_leaves start feed said hs items ledger states.Closing o i l = absurd o

-- ---- its data is sent

-- behind a poll that sends, so many polls having waited
record AfterSend (first : StreamSeen) (a c : ConnSeen) (r : Request) (waits : ℕ) (items : List CallItem) (said : List FrontendMessage) (fs : List Frame) : Type 0 where
  went : Went a c said fs
  broken : c.broken ≡ None
  call : CallIs a.ledger r said (heard fs) items c.ledger c.call
  is_open : IsOpen c.call
  room : HasAllRoom a → HasAllRoom c
  waited : Waited waits first c.stream
  calls : c.stream.link.calls ≤ first.link.calls + 256 * (waits + length items + 2)

-- nothing more was sent
as_sent : (first : StreamSeen) (a b : ConnSeen) (r : Request) (waits : ℕ) (items : List CallItem) (said : List FrontendMessage) (fs : List Frame) → InCopy first a b r waits items said fs → AfterSend first a b r waits items said fs
as_sent first a b r waits items said fs i = record { went = i.went; broken = i.broken; call = i.call; is_open = i.is_open; room = i.room; waited = i.waited; calls = omega (arith, i.calls) }

grew_none : (x : ℕ) → GrewBy 0 x x
grew_none x = (omega arith, omega arith, omega arith)

sends_or_waits : (s t : StreamSeen) (answer : Poll (Result (Unit {0}) Error)) → SendGives s t answer → NoneWaited s t ⊎ PendingCause s t
sends_or_waits s t Pending (inl w) = inr (inl w)
sends_or_waits s t Pending (inr f) = inr (inr (inr f))
sends_or_waits s t (Ready (Ok u)) g = inl g.1.2
sends_or_waits s t (Ready (Err e)) g = inl g.2

sent_went : (a b : ConnSeen) (t : StreamSeen) (said : List FrontendMessage) (fs : List Frame) (answer : Poll (Result (Unit {0}) Error)) → Went a b said fs → PollsSend (record b.stream { left = 256 }) t answer → Went a (record b { stream = t }) said fs
sent_went a b t said fs answer w p =
    subst (λ (x : List FrontendMessage). Went a (record b { stream = t }) x fs) (append-nil said)
    (subst (λ (x : List Frame). Went a (record b { stream = t }) (said ++ []) x) (append-nil fs)
    (went_on 256 a b (record b { stream = t }) said [] [] fs [] w p.moves refl (grew_none b.groups) (grew_none b.heard) (refl, refl, refl, refl) ([], tt, refl) (sends_or_waits (record b.stream { left = 256 }) t answer p.gives)))

sent_on : (first : StreamSeen) (a b : ConnSeen) (t : StreamSeen) (r : Request) (waits now : ℕ) (items : List CallItem) (said : List FrontendMessage) (fs : List Frame) (answer : Poll (Result (Unit {0}) Error)) → InCopy first a b r waits items said fs → PollsSend (record b.stream { left = 256 }) t answer → waits ≤ now → Waited now first t
    → AfterSend first a (record b { stream = t }) r now items said fs
sent_on first a b t r waits now items said fs answer i p l w = record {
  went = sent_went a b t said fs answer i.went p;
  broken = i.broken;
  call = i.call;
  is_open = i.is_open;
  room = λ h. let k = i.room h in omega (arith, k, p.spare);
  waited = w;
  calls = omega (arith, i.calls, p.moves.calls, l);
}

-- a poll that waits leaves it open
still_open : (first : StreamSeen) (a b : ConnSeen) (t : StreamSeen) (r : Request) (waits : ℕ) (items : List CallItem) (said : List FrontendMessage) (fs : List Frame) → InCopy first a b r waits items said fs → PollsSend (record b.stream { left = 256 }) t Pending → InCopy first a (record b { stream = t }) r (waits + 1) items said fs
still_open first a b t r waits items said fs i p = record {
  went = sent_went a b t said fs Pending i.went p;
  broken = i.broken;
  call = i.call;
  kind = i.kind;
  is_open = i.is_open;
  asked = i.asked;
  room = λ h. let k = i.room h in omega (arith, k, p.spare);
  waited = waited_more waits first b.stream t p.moves.counts p.moves.tallies.moves.0 i.waited (pends p.gives);
  calls = omega (arith, i.calls, p.moves.calls);
}
  where
    pends : SendGives (record b.stream { left = 256 }) t Pending → PendingCause (record b.stream { left = 256 }) t
    pends (inl w) = inl w
    pends (inr f) = inr (inr f)

-- ---- it is given up

dropped_open : (limits : Bounds) (c b : ConnSeen) (feed : Feed) (waits : ℕ) (shown : List Item) (items : List CallItem) (said : List FrontendMessage) (fs : List Frame) → waits ≤ limits.polls → b.stream.link.calls ≤ c.stream.link.calls + 256 * (limits.polls + limits.most) → shown ≡ map item_of items → length shown < limits.most → c.broken ≡ None
    → AfterSend c.stream (asked_with feed c) b (requests.CopyIn feed) waits items said fs → ((l : Leaves c.ledger (requests.CopyIn feed) said (heard fs) items b.ledger false) → IsDropped limits c.stream (asked_with feed c) b l.own l.reply shown) → HasEnded limits c.stream (asked_with feed c) b (requests.CopyIn feed) shown ends.Dropped
dropped_open limits c b feed waits shown items said fs l few s m w i d =
    let can = said_can c.ledger (requests.CopyIn feed) said (heard fs) items b.ledger b.call i.is_open i.call in
    let leaves = leaves_call c.ledger (requests.CopyIn feed) said (heard fs) items b.ledger b.call i.call in
    ended_whole limits c.stream (asked_with feed c) b (requests.CopyIn feed) shown ends.Dropped said fs w i.went i.broken (waits, i.waited, (λ n. absurd (n refl), l)) i.room few
    (not_at_once (asked_with feed c) b (requests.CopyIn feed) shown ends.Dropped fs (not_held_back (requests.CopyIn feed) can refl) (λ f. absurd cc))
    (items, s, leaves, call_well c.ledger (requests.CopyIn feed) said (heard fs) items b.ledger b.call i.call, d leaves, omega (arith, m)) tt

-- a write failed
failed_open : (limits : Bounds) (c b : ConnSeen) (t : StreamSeen) (feed : Feed) (waits : ℕ) (shown : List Item) (items : List CallItem) (said : List FrontendMessage) (fs : List Frame) → waits < limits.polls → shown ≡ map item_of items → length shown < limits.most → c.broken ≡ None
    → InCopy c.stream (asked_with feed c) b (requests.CopyIn feed) waits items said fs → PollsSend (record b.stream { left = 256 }) t (Ready (Err (errors.Io io.Fault))) → HasEnded limits c.stream (asked_with feed c) (record b { stream = t }) (requests.CopyIn feed) shown (ends.Err (errors.Io io.Fault))
failed_open limits c b t feed waits shown items said fs l s m w i p =
    let at : ConnSeen = record b { stream = t } in
    let r : Request = requests.CopyIn feed in
    let end : End = ends.Err (errors.Io io.Fault) in
    let below = below_items shown items limits.most s m in
    let waited = waited_after waits c.stream b.stream t p.moves.counts p.gives.2 p.moves.tallies.moves.0 i.waited in
    let sent = sent_on c.stream (asked_with feed c) b t r waits waits items said fs (Ready (Err (errors.Io io.Fault))) i p (omega arith) waited in
    let can = said_can c.ledger r said (heard fs) items b.ledger b.call i.is_open i.call in
    ended_whole limits c.stream (asked_with feed c) at r shown end said fs w sent.went sent.broken (waits, waited, (λ n. l, omega (arith, l))) sent.room (omega (arith, sent.calls, l, below))
    (not_at_once (asked_with feed c) at r shown end fs (not_held_back r can refl) (λ f. absurd cc))
    (inl (items, s, m, inr (leaves_call c.ledger r said (heard fs) items b.ledger b.call i.call, call_well c.ledger r said (heard fs) items b.ledger b.call i.call, inl (heard_cause c.stream b.stream t (errors.Io io.Fault) i.went.flows.counts p.gives.1, tt)))) tt

-- so it is told where its call is given up
told_open : (limits : Bounds) (c b d : ConnSeen) (feed : Feed) (shown : List Item) (end : End) (out : Outcome) → HasEnded limits c.stream (asked_with feed c) b (requests.CopyIn feed) shown end → runs b.call ≡ true → ((x : ConnSeen) → copy_behind limits.parting end x ≡ copy_behind partings.None end x)
    → behind_end end (copy_behind partings.None end b) ≡ cleaned (unfed false b) → d ≡ left b → out ≡ outcome_of d shown end → PlaysCall limits (asked_with feed c) d (requests.CopyIn feed) out
told_open limits c b d feed shown end out h r same is e k = (asked_with feed c, requests.CopyIn feed, inl (refl, refl), ([], plays_one limits c.stream (asked_with feed c) b d (requests.CopyIn feed) shown end out (b, h, inr (r, refl, same, is)) e k))

-- what is seen of a poll that sends, on a connection that is whole
fed_so : (b c : ConnSeen) (answer : Poll (Result (Unit {0}) Error)) → b.broken ≡ None → PollsFed b c answer → (t : StreamSeen) × PollsSend (record b.stream { left = 256 }) t answer × (c ≡ record b { stream = t })
fed_so b c answer e p = subst (λ (o : Option ServerFault). PollsFedBy o (begun b) c answer) e p

-- ---- a step that does so

pub shows_some : (step : Step) → (IsUnpolled step → ⊥) → 0 < step.most
shows_some step n = by step.most refl
  where
    by : (k : ℕ) → step.most ≡ k → 0 < step.most
    by zero e = absurd (n (inr e))
    by (suc k) e = omega (arith, e)

part_played : (a m : ConnSeen) (step : Step) (fed : Fed) (first : Outcome) → IsPolled a step → PlaysCall (limits_of (feeding step fed)) (first_conn (asked_of_fed fed) a) m (first_exchange (asked_of_fed fed) a) first → PlaysStep a m (feeding step fed) first
part_played a m step fed first p played = inr (refl, inr (p.some, p.polls, inr (λ x. let y = x.0 in absurd cc, inr played)))

came_all : (copying : Copying) (parting : Parting) → PartsAs parting copying (given_up_as copying parting) → CameOf copying (given_up_as copying parting)
came_all copying parting p = record { sql = refl; pieces = ([], append-nil (parts_of copying)); whole = λ w. absurd cc; parts = p }

-- its call alone, and what is told of it
copied_as : (a b : ConnSeen) (step : Step) (copying : Copying) (parts : List (List ℕ)) (out : Outcome) → IsPolled a step → IsPrefixOf parts (parts_of copying) → PlaysCall (bounds (of_step step)) (first_conn (asked_of_fed (fed_of copying parts false)) a) b (first_exchange (asked_of_fed (fed_of copying parts false)) a) out → PlaysCopy a b step copying out
copied_as a b step copying parts out p f played =
    let fed : Fed = fed_of copying parts false in
    (feeding step fed ∷ [], out ∷ [], (fed, record { sql = refl; pieces = f; whole = λ w. absurd cc; parts = tt }, (refl, refl)), (b, part_played a b step fed out p played, p.counts, refl))

pub all_parts : (copying : Copying) → IsPrefixOf (parts_of copying) (parts_of copying)
all_parts copying = ([], append-nil (parts_of copying))

-- it ended before it was open
pub ends_unopened : (step : Step) (copying : Copying) (old c d : ConnSeen) (waits : ℕ) (shown : List Item) (end : End) (out : Outcome) → IsPolled old step → Pauses (of_step step) (first_conn (asked_of_fed (fed_of copying [] false)) old) c (asked_of_fed (fed_of copying [] false)) waits shown (pauses.Ended end) → d ≡ left c → out ≡ outcome_of d shown end → PlaysCopy old d step copying out
ends_unopened step copying old c d waits shown end out polled p e k =
    copied_as old d step copying [] out polled (parts_of copying, refl) (plays_call (of_step step) (first_conn (asked_of_fed (fed_of copying [] false)) old) c d (asked_of_fed (fed_of copying [] false)) waits shown end out p e k)

-- it is fed, as far as there is memory
pub opens_with : (limits : Limits) (copying : Copying) (parts : List (List ℕ)) (old b c : ConnSeen) (waits : ℕ) (shown : List Item) → IsOpenWith limits copying [] old b waits shown → c ≡ fed_with parts b → IsOpenWith limits copying parts old c waits shown
opens_with limits copying parts old b c waits shown p e = copy_feeds limits (first_conn (asked_of_fed (fed_of copying [] false)) old) b c (feed_of (fed_of copying [] false)) waits shown parts p e

-- there was no memory for more of it
pub ends_unfed : (step : Step) (copying : Copying) (parts : List (List ℕ)) (old b d : ConnSeen) (waits : ℕ) (shown : List Item) (out : Outcome) → IsPolled old step → IsPrefixOf parts (parts_of copying) → waits < step.polls → IsOpenWith (of_step step) copying parts old b waits shown → d ≡ left b → out ≡ outcome_of d shown (ends.Err errors.OutOfMemory)
    → PlaysCopy old d step copying out
ends_unfed step copying parts old b d waits shown out polled f l p e k =
    let feed = feed_of (fed_of copying parts false) in
    let first : ConnSeen = first_conn (asked_of_fed (fed_of copying parts false)) old in
    let i = of_copy step.polls first.stream (λ at asked. IsCopying step.most first.stream at b asked waits shown) first feed p in
    let h = i.1 in
    copied_as old d step copying parts out polled f (first, requests.CopyIn feed, inl (refl, refl), ([], plays_one (bounds (of_step step)) first.stream first b d (requests.CopyIn feed) shown (ends.Err errors.OutOfMemory) out (copy_stops (of_step step) first b feed waits shown h.0 h.1 h.2 l h.3 h.4 i.0 h.5) e k))

-- its end is queued: it goes on as if it had been asked for so
pub finish_goes : (limits : Limits) (copying : Copying) (old b d : ConnSeen) (waits : ℕ) (shown : List Item) → IsFed limits copying old b waits shown → d ≡ copied b
    → IsCallPlaying limits (first_conn (asked_of_fed (fed_of copying (parts_of copying) true)) old) d (asked_of_fed (fed_of copying (parts_of copying) true)) waits shown
finish_goes limits copying old b d waits shown p e =
    let feed = feed_of (fed_of copying (parts_of copying) false) in
    let c : ConnSeen = first_conn (asked_of_fed (fed_of copying (parts_of copying) false)) old in
    let i = of_copy limits.polls c.stream (λ at asked. IsCopying limits.most c.stream at b asked waits shown) c feed p in
    let h = i.1 in
    let goes = copy_ended c.stream c b feed waits h.0 h.1 h.2 refl h.5 in
    let same : copied b ≡ resolved d = sym (open_stays b h.5.is_open) ∙ ap (λ (x : ConnSeen). resolved x) (sym e) in
    let at = asked_with (fed_all feed) c in
    let r = requests.CopyIn (fed_all feed) in
    (at, r, inl (refl, refl), ([], subst (λ (o : Option ServerFault). IsPlayingOn o limits.most c.stream at d r waits shown) (sym i.0) (h.0, h.1 ++ CopyDone ∷ [], h.2, h.3, h.4, subst (λ (x : ConnSeen). InPlay c.stream at x r waits h.0 (h.1 ++ CopyDone ∷ []) h.2) same goes)))

pub finish_told : (step : Step) (copying : Copying) (old d : ConnSeen) (out : Outcome) → IsPolled old step → copying.end ≡ copy_ends.Finish → PlaysCall (bounds (of_step step)) (first_conn (asked_of_fed (fed_of copying (parts_of copying) true)) old) d (asked_of_fed (fed_of copying (parts_of copying) true)) out → PlaysCopy old d step copying out
finish_told step copying old d out polled end played =
    let fed : Fed = fed_of copying (parts_of copying) true in
    (feeding step fed ∷ [], out ∷ [], (fed, record { sql = refl; pieces = all_parts copying; whole = λ w. (refl, end); parts = tt }, (refl, refl)), (d, part_played old d step fed out polled played, polled.counts, refl))

-- a poll that waits
pub leave_waits : (limits : Limits) (copying : Copying) (parts : List (List ℕ)) (old b c : ConnSeen) (waits : ℕ) (shown : List Item) → IsOpenWith limits copying parts old b waits shown → PollsFed b c Pending → IsOpenWith limits copying parts old c (waits + 1) shown
leave_waits limits copying parts old b c waits shown p sent =
    let feed = feed_of (fed_of copying parts false) in
    let first : ConnSeen = first_conn (asked_of_fed (fed_of copying parts false)) old in
    let i = of_copy limits.polls first.stream (λ at asked. IsCopying limits.most first.stream at b asked waits shown) first feed p in
    let h = i.1 in
    let f = fed_so b c Pending h.5.broken sent in
    subst (λ (x : ConnSeen). IsOpenWith limits copying parts old x (waits + 1) shown) (sym f.2) (first, requests.CopyIn feed, inl (refl, refl), ([], (i.0, (h.0, h.1, h.2, h.3, h.4, still_open first.stream first b f.0 (requests.CopyIn feed) waits h.0 h.1 h.2 h.5 f.1))))

starves : (first a b : ConnSeen) (t : StreamSeen) (r : Request) (waits : ℕ) (items : List CallItem) (said : List FrontendMessage) (fs : List Frame) → InCopy first.stream a b r waits items said fs → SendGives (record b.stream { left = 256 }) t Pending → EndsStarved first.stream a (record b { stream = t })
starves first a b t r waits items said fs i (inl w) = inl (omega (arith, w.0, i.went.flows.counts.write_waits))
starves first a b t r waits items said fs i (inr x) = inr (inl (omega (arith, x.0, x.1.1, i.waited.moves)))

-- or that waits for the last time
pub leave_drops : (step : Step) (copying : Copying) (old b c d : ConnSeen) (waits : ℕ) (shown : List Item) (out : Outcome) → IsPolled old step → waits + 1 ≡ step.polls → IsFed (of_step step) copying old b waits shown → PollsFed b c Pending → d ≡ left c → out ≡ outcome_of d shown ends.Dropped → PlaysCopy old d step copying out
leave_drops step copying old b c d waits shown out polled last p sent e k =
    let limits = of_step step in
    let feed = feed_of (fed_of copying (parts_of copying) false) in
    let first : ConnSeen = first_conn (asked_of_fed (fed_of copying (parts_of copying) false)) old in
    let i = of_copy limits.polls first.stream (λ at asked. IsCopying limits.most first.stream at b asked waits shown) first feed p in
    let h = i.1 in
    let f = fed_so b c Pending h.5.broken sent in
    let m : ConnSeen = record b { stream = f.0 } in
    let opened = still_open first.stream first b f.0 (requests.CopyIn feed) waits h.0 h.1 h.2 h.5 f.1 in
    let waited : Waited step.polls first.stream f.0 = subst (λ (n : ℕ). Waited n first.stream f.0) last opened.waited in
    let below = below_items shown h.0 step.most h.3 h.4 in
    let dropped = dropped_open (bounds limits) first m feed (waits + 1) shown h.0 h.1 h.2 (omega (arith, last)) (omega (arith, opened.calls, last, below)) h.3 h.4 i.0 (as_sent first.stream first m (requests.CopyIn feed) (waits + 1) h.0 h.1 h.2 opened) (λ l. inl (waited, starves first first b f.0 (requests.CopyIn feed) waits h.0 h.1 h.2 h.5 f.1.gives)) in
    copied_as old d step copying (parts_of copying) out polled (all_parts copying) (told_open (bounds limits) first m d feed shown ends.Dropped out dropped (runs_on first.ledger (requests.CopyIn feed) h.1 (heard h.2) h.0 m.ledger m.call opened.call) (λ x. refl) refl (e ∙ ap (λ (x : ConnSeen). left x) f.2) k)

-- a write that fails
pub leave_fails : (step : Step) (copying : Copying) (old b c d : ConnSeen) (waits : ℕ) (shown : List Item) (x : Error) (out : Outcome) → IsPolled old step → waits < step.polls → IsFed (of_step step) copying old b waits shown → PollsFed b c (Ready (Err x)) → d ≡ left c → out ≡ outcome_of d shown (ends.Err x) → PlaysCopy old d step copying out
leave_fails step copying old b c d waits shown x out polled l p sent e k =
    let limits = of_step step in
    let feed = feed_of (fed_of copying (parts_of copying) false) in
    let first : ConnSeen = first_conn (asked_of_fed (fed_of copying (parts_of copying) false)) old in
    let i = of_copy limits.polls first.stream (λ at asked. IsCopying limits.most first.stream at b asked waits shown) first feed p in
    let h = i.1 in
    let f = fed_so b c (Ready (Err x)) h.5.broken sent in
    let m : ConnSeen = record b { stream = f.0 } in
    let fault = f.1.gives.0 in
    let failed = failed_open (bounds limits) first b f.0 feed waits shown h.0 h.1 h.2 l h.3 h.4 i.0 h.5 (subst (λ (y : Error). PollsSend (record b.stream { left = 256 }) f.0 (Ready (Err y))) fault f.1) in
    copied_as old d step copying (parts_of copying) out polled (all_parts copying) (told_open (bounds limits) first m d feed shown (ends.Err (errors.Io io.Fault)) out failed (runs_on first.ledger (requests.CopyIn feed) h.1 (heard h.2) h.0 m.ledger m.call h.5.call) (λ y. refl) refl (e ∙ ap (λ (y : ConnSeen). left y) f.2) (k ∙ ap (λ (y : Error). outcome_of d shown (ends.Err y)) fault))

-- all is sent: it is left as it stands
pub leave_ends : (step : Step) (copying : Copying) (old b c d : ConnSeen) (waits : ℕ) (shown : List Item) (u : Unit {0}) (first : Outcome) → IsPolled old step → copying.end ≡ copy_ends.Leave → waits < step.polls → IsFed (of_step step) copying old b waits shown → PollsFed b c (Ready (Ok u)) → d ≡ left c → first ≡ outcome_of d shown ends.Dropped
    → PlaysCopy old d step copying (record first { end = ends.Ok AnswersUnit })
leave_ends step copying old b c d waits shown u told polled end l p sent e k =
    let limits : Bounds = record { polls = step.polls; most = step.most; parting = partings.Left } in
    let fed : Fed = given_up_as copying partings.Left in
    let feed = feed_of fed in
    let first : ConnSeen = first_conn (asked_of_fed fed) old in
    let i = of_copy step.polls first.stream (λ at asked. IsCopying step.most first.stream at b asked waits shown) first feed p in
    let h = i.1 in
    let f = fed_so b c (Ready (Ok u)) h.5.broken sent in
    let m : ConnSeen = record b { stream = f.0 } in
    let below = below_items shown h.0 step.most h.3 h.4 in
    let waited = waited_after waits first.stream b.stream f.0 f.1.moves.counts f.1.gives.1.2 f.1.moves.tallies.moves.0 h.5.waited in
    let sent_so = sent_on first.stream first b f.0 (requests.CopyIn feed) waits waits h.0 h.1 h.2 (Ready (Ok u)) h.5 f.1 (omega arith) waited in
    let dropped = dropped_open limits first m feed waits shown h.0 h.1 h.2 (omega (arith, l)) (omega (arith, sent_so.calls, l, below)) h.3 h.4 i.0 sent_so (λ x. (opened_leaves first.ledger feed h.1 (heard h.2) h.0 m.ledger m.call sent_so.is_open sent_so.call x, f.1.gives.0)) in
    let played = told_open limits first m d feed shown ends.Dropped told dropped (runs_on first.ledger (requests.CopyIn feed) h.1 (heard h.2) h.0 m.ledger m.call sent_so.call) (λ x. refl) refl (e ∙ ap (λ (x : ConnSeen). left x) f.2) k in
    (feeding step fed ∷ [], told ∷ [], (fed, came_all copying partings.Left (refl, (refl, end)), (told, refl, refl, ap (λ (x : Outcome). x.end) k, refl)), (d, part_played old d step fed told polled played, polled.counts, refl))

-- its message can't be said: it is left as it stands
pub abort_unsaid : (step : Step) (copying : Copying) (old b d : ConnSeen) (waits : ℕ) (shown : List Item) (message : List ℕ) (x : Error) (first : Outcome) → IsPolled old step → copying.end ≡ copy_ends.Abort message → IsUnsaid copying.end x → waits < step.polls → IsFed (of_step step) copying old b waits shown → d ≡ left b → first ≡ outcome_of d shown ends.Dropped
    → PlaysCopy old d step copying (record first { end = ends.Err x })
abort_unsaid step copying old b d waits shown message x told polled end unsaid l p e k =
    let limits : Bounds = record { polls = step.polls; most = step.most; parting = partings.Unsaid } in
    let fed : Fed = given_up_as copying partings.Unsaid in
    let feed = feed_of fed in
    let first : ConnSeen = first_conn (asked_of_fed fed) old in
    let i = of_copy step.polls first.stream (λ at asked. IsCopying step.most first.stream at b asked waits shown) first feed p in
    let h = i.1 in
    let below = below_items shown h.0 step.most h.3 h.4 in
    let dropped = dropped_open limits first b feed waits shown h.0 h.1 h.2 (omega (arith, l)) (omega (arith, h.5.calls, l, below)) h.3 h.4 i.0 (as_sent first.stream first b (requests.CopyIn feed) waits h.0 h.1 h.2 h.5) (λ y. opened_leaves first.ledger feed h.1 (heard h.2) h.0 b.ledger b.call h.5.is_open h.5.call y) in
    let played = told_open limits first b d feed shown ends.Dropped told dropped (runs_on first.ledger (requests.CopyIn feed) h.1 (heard h.2) h.0 b.ledger b.call h.5.call) (λ y. refl) refl e k in
    (feeding step fed ∷ [], told ∷ [], (fed, came_all copying partings.Unsaid (refl, (message, (refl, end))), (told, x, unsaid, refl, refl, ap (λ (y : Outcome). y.end) k, refl)), (d, part_played old d step fed told polled played, polled.counts, refl))

-- ---- it is failed by a message of its own

aborted_so : (b : ConnSeen) (message : List ℕ) → b.change ≡ changes.Copies → b.keeping ≡ keepings.Stays → copy_aborted message b ≡ cleaned (parted (partings.Failed message) (idle b))
aborted_so b message change keeping =
    ap (λ (x : ConnSeen). copy_aborted message x) same ∙ by (nat_eq b.groups 0) (nat_eq b.rule.depth 0) ∙ ap (λ (x : ConnSeen). cleaned (parted (partings.Failed message) (idle x))) (sym same)
  where
    at : ConnSeen
    at = record b { change = changes.Copies; keeping = keepings.Stays }

    same : b ≡ at
    same = ap₂ (λ (k : Change) (q : Keeping). record b { change = k; keeping = q }) change keeping

    behind : ConnSeen
    behind = failed_by message (idle at)

    by : (n d : Bool) → copy_aborted message at ≡ ended (cond (not n && (d && false)) (queued_group (spelled (rollback 0)) (kept n behind)) (kept n behind))
    by true true = refl
    by true false = refl
    by false true = refl
    by false false = refl

-- so its call came to its end
pub abort_part : (step : Step) (copying : Copying) (old b d : ConnSeen) (waits : ℕ) (shown : List Item) (message : List ℕ) (told : Outcome) → IsPolled old step → copying.end ≡ copy_ends.Abort message → HasFrontendFrame (CopyFail message) → waits < step.polls → IsFed (of_step step) copying old b waits shown → d ≡ copy_aborted message b → told ≡ outcome_of d shown ends.Dropped
    → PlaysStep old d (feeding step (given_up_as copying (partings.Failed message))) told
abort_part step copying old b d waits shown message told polled end can l p e k =
    let limits : Bounds = record { polls = step.polls; most = step.most; parting = partings.Failed message } in
    let fed : Fed = given_up_as copying (partings.Failed message) in
    let feed = feed_of fed in
    let first : ConnSeen = first_conn (asked_of_fed fed) old in
    let i = of_copy step.polls first.stream (λ at asked. IsCopying step.most first.stream at b asked waits shown) first feed p in
    let h = i.1 in
    let below = below_items shown h.0 step.most h.3 h.4 in
    let dropped = dropped_open limits first b feed waits shown h.0 h.1 h.2 (omega (arith, l)) (omega (arith, h.5.calls, l, below)) h.3 h.4 i.0 (as_sent first.stream first b (requests.CopyIn feed) waits h.0 h.1 h.2 h.5) (λ y. (opened_leaves first.ledger feed h.1 (heard h.2) h.0 b.ledger b.call h.5.is_open h.5.call y, can)) in
    let change : b.change ≡ changes.Copies = ap (λ (s : Standing). s.change) h.5.went.started.3 in
    let keeping : b.keeping ≡ keepings.Stays = ap (λ (s : Standing). s.keeping) h.5.went.started.3 in
    let is : d ≡ behind_end ends.Dropped (copy_behind (partings.Failed message) ends.Dropped (idle b)) = e ∙ aborted_so b message change keeping in
    subst (λ (y : Outcome). PlaysStep old d (feeding step fed) y) (sym k) (part_played old d step fed (outcome_of d shown ends.Dropped) polled (first, requests.CopyIn feed, inl (refl, refl), ([], (idle b, given_up limits first.stream first b (requests.CopyIn feed) shown ends.Dropped dropped, refl, is, refl))))

pub abort_hears : (a m b : ConnSeen) (step : Step) (copying : Copying) (message : List ℕ) (first later : Outcome) → IsPolled a step → copying.end ≡ copy_ends.Abort message → first.end ≡ ends.Dropped → PlaysStep a m (feeding step (given_up_as copying (partings.Failed message))) first → m.rule.depth < 2 ^ 64 → PlaysStep m b (flushing step first.waits) later → is_cancel later.end ≡ false
    → PlaysCopy a b step copying (told_behind first later)
abort_hears a m b step copying message first later polled end dropped played counts heard_so other =
    let fed : Fed = given_up_as copying (partings.Failed message) in
    (feeding step fed ∷ flushing step first.waits ∷ [], first ∷ later ∷ [], (fed, came_all copying (partings.Failed message) (refl, (refl, end)), inl (first, later, refl, refl, dropped, other, refl)), (m, played, polled.counts, (b, heard_so, counts, refl)))

pub abort_ends : (a m n b : ConnSeen) (step : Step) (copying : Copying) (message : List ℕ) (first later last : Outcome) → IsPolled a step → copying.end ≡ copy_ends.Abort message → first.end ≡ ends.Dropped → PlaysStep a m (feeding step (given_up_as copying (partings.Failed message))) first → m.rule.depth < 2 ^ 64 → PlaysStep m n (flushing step first.waits) later → n.rule.depth < 2 ^ 64
    → PlaysStep n b (flushing step (summed first.waits later.waits)) last → is_cancel later.end ≡ true → PlaysCopy a b step copying (told_behind (told_behind first later) last)
abort_ends a m n b step copying message first later last polled end dropped played counts heard_so more ended_so cancel =
    let fed : Fed = given_up_as copying (partings.Failed message) in
    (feeding step fed ∷ flushing step first.waits ∷ flushing step (summed first.waits later.waits) ∷ [], first ∷ later ∷ last ∷ [], (fed, came_all copying (partings.Failed message) (refl, (refl, end)), inr (first, later, last, refl, refl, dropped, cancel, refl)), (m, played, polled.counts, (n, heard_so, counts, (b, ended_so, more, refl))))
