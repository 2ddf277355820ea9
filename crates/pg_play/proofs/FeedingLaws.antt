-- A copy from the client that is fed stands as if it had been asked for with what it was fed.
use Rattle.std.proofs.Common.{◌≡◌, ℕ, ◌^◌, ◌<◌, cond, inl, inr, Bool, true, false, List, [], ◌∷◌, ◌++◌, length, map, refl, sym, ap, ◌∙◌, subst, arith, append_assoc, append-nil, nat_eq, Some, None}
use Rattle.std.specs.List.{count_by}
use Rattle.pg_wire.specs.declared.error.Error.TheVariants as errors
use Rattle.pg_wire.specs.Frame.{Frame}
use Rattle.pg_wire.specs.Parts.{heard}
use Rattle.pg_wire.specs.Frontend.{FrontendMessage, Query, CopyData, CopyDone}
use Rattle.pg_wire.specs.Backend.{BackendMessage}
use Rattle.pg_call.specs.declared.feed.Feed.{Feed}
use Rattle.pg_call.specs.declared.request.Request.{Request}
use Rattle.pg_call.specs.declared.request.Request.TheVariants as requests
use Rattle.pg_call.specs.declared.kind.Change.{Change}
use Rattle.pg_call.specs.declared.kind.Change.TheVariants as changes
use Rattle.pg_call.specs.declared.calling.Call.{Call}
use Rattle.pg_call.specs.declared.calling.Call.TheVariants as states
use Rattle.pg_call.specs.declared.answer.CallItem.{CallItem}
use Rattle.pg_call.specs.declared.ledger.Ledger.{Ledger}
use Rattle.pg_call.specs.declared.judging.Part.{Part}
use Rattle.pg_call.specs.declared.judging.Part.TheVariants.{Feeding, Opening}
use Rattle.pg_call.specs.declared.kind.Kind.{Kind}
use Rattle.pg_call.specs.declared.kind.Kind.TheVariants as kinds
use Rattle.pg_call.specs.Requests.{spelled, CanBeSaid, ended_by, feeding, kind_of}
use Rattle.pg_call.specs.Replies.{part_after}
use Rattle.pg_call.specs.Drains.{before_readys, drain_fails}
use Rattle.pg_call.specs.Hearing.{IsOpen, fed_part, fed_whole}
use Rattle.pg_call.specs.Calls.{CallIs}
use Rattle.pg_call.proofs.CopyInLaws.{came}
use Rattle.pg_call.proofs.FeedLaws.{ended_said, feed_said, one_more, said_more}
use Rattle.pg_conn.specs.Connections.{ConnSeen, Standing, copied, resolved, with_messages}
use Rattle.pg_conn.specs.Turns.{IsAsked, ends_request, level_of}
use Rattle.pg_conn.proofs.OwedLaws.{spelled-append, counts-append}
use Rattle.pg_conn.proofs.FeedingLaws.{same_room}
use Rattle.pg_conn.proofs.StateLaws.{runs_on}
use Rattle.pg_stream.specs.Streams.{StreamSeen}
use Rattle.pg_call.proofs.LeaveLaws.{leaves_call, call_well}
use Rattle.pg_report.specs.declared.outcome.Item.{Item}
use Rattle.pg_report.specs.declared.outcome.End.TheVariants as ends
use Rattle.pg_play.specs.declared.tally.Limits.{Limits}
use Rattle.pg_play.specs.Shown.{item_of}
use Rattle.pg_play.specs.declared.tally.Pause.TheVariants as pauses
use Rattle.pg_play.proofs.ThroughLaws.{handed_described}
use Rattle.pg_play.specs.Calls.{bounds, InCopy, InPlay, IsCopying, OfLast, Pauses, StopsBy, IsUnpolled, untouched, Waited, Went, change_for}
use Rattle.pg_play.proofs.CallLaws.{below_items, ended_whole, ends_few, few_calls, not_at_once, not_held_back, unasked_stays}
use Rattle.pg_report.specs.declared.outcome.Outcome.{Outcome}
use Rattle.pg_script.specs.declared.step.Step.{Step}
use Rattle.pg_script.specs.declared.step.Call.TheVariants as calls
use Rattle.pg_script.specs.declared.step.Copying.{Copying}
use Rattle.pg_play.specs.Opened.{PlaysCopy, fed_of}
use Rattle.pg_play.specs.Feeding.{CameOf, fed_with, parts_of}

-- what was fed stands as asked from the first on
abbrev pub asked_with : Feed → ConnSeen → ConnSeen
asked_with feed a = record a { call = states.Asked (requests.CopyIn feed); change = change_for (requests.CopyIn feed) }

abbrev pub fed_one : List ℕ → Feed → Feed
fed_one piece feed = record feed { pieces = feed.pieces ++ piece ∷ [] }

abbrev pub fed_all : Feed → Feed
fed_all feed = record feed { is_ended = true }

-- messages of data were queued behind what was said
went_fed : (a b : ConnSeen) (said new : List FrontendMessage) (fs : List Frame) (call now : Call) (change : Change) → count_by ends_request new ≡ 0 → Went a b said fs → Went (record a { call = call; change = change }) (record (with_messages new b) { call = now; change = change }) (said ++ new) fs
went_fed a b said new fs call now change none w =
    let sent = w.flows.sent in
    record {
      flows = record {
        counts = w.flows.counts;
        secured = w.flows.secured;
        sent = (
          sent.0,
          sent.1,
          ap (λ (q : List ℕ). a.stream.unsent ++ q) (spelled-append said new) ∙ sym (append_assoc a.stream.unsent (spelled said) (spelled new)) ∙ ap (λ (q : List ℕ). q ++ spelled new) sent.2 ∙ append_assoc sent.0 b.stream.unsent (spelled new),
        );
        read = w.flows.read;
      };
      tallies = record { write_waits = w.tallies.write_waits; read_waits = w.tallies.read_waits; moved = w.tallies.moved; waits = w.tallies.waits; moves = w.tallies.moves; writes = w.tallies.writes; reads = w.tallies.reads; moving = w.tallies.moving };
      waits = record { bytes = w.waits.bytes; gave = w.waits.gave; read = w.waits.read; places = w.waits.places; told = w.waits.told; write_waits = w.waits.write_waits; waits = w.waits.waits; writes = w.waits.writes; behind = w.waits.behind };
      groups = let g = w.groups in let c = counts-append said new in (omega (arith, g, c, none), omega (arith, g, c, none), omega (arith, g, c, none));
      heard = w.heard;
      started = (w.started.0, w.started.1, w.started.2, ap (λ (s : Standing). record s { change = change }) w.started.3);
      learns = w.learns;
    }

-- what is open was not fed to its end
pub unended : (start : Ledger) (feed : Feed) (said : List FrontendMessage) (hs : List Frame) (items : List CallItem) (ledger : Ledger) (call : Call) → IsOpen call → CallIs start (requests.CopyIn feed) said hs items ledger call → feed.is_ended ≡ false
unended start feed said hs items ledger (states.Own reply) o i =
    let c = i.2 in
    sym (came feed.is_ended (Feeding false) c.own (subst (λ (p : Part). part_after (Opening feed.is_ended) c.own ≡ Some p) o c.so_far)).3
unended start feed said hs items ledger states.Idle o i = absurd o
unended start feed said hs items ledger (states.Asked asked) o i = absurd o
unended start feed said hs items ledger (states.Waiting w) o i = absurd o
unended start feed said hs items ledger states.Closing o i = absurd o

pub unended_changes : (feed : Feed) → feed.is_ended ≡ false → change_for (requests.CopyIn feed) ≡ changes.Copies
unended_changes feed e = ap (λ (b : Bool). cond b changes.Fed changes.Copies) e

-- ---- what the relation says of the request that it was fed to

fed_said : (feed : Feed) (piece : List ℕ) → feed.is_ended ≡ false → feeding feed ++ CopyData piece ∷ [] ≡ feeding (fed_one piece feed)
fed_said feed piece e = ap (λ (t : List FrontendMessage). Query feed.query.sql ∷ t) (by feed.is_ended e)
  where
    by : (ended : Bool) → ended ≡ false → (map CopyData feed.pieces ++ ended_by ended) ++ CopyData piece ∷ [] ≡ map CopyData (feed.pieces ++ piece ∷ []) ++ ended_by ended
    by false e = one_more feed.pieces piece
    by true e = absurd cc

said_one : (start : Ledger) (feed : Feed) (said : List FrontendMessage) (hs : List Frame) (items : List CallItem) (ledger : Ledger) (call : Call) (piece : List ℕ) → IsOpen call → CallIs start (requests.CopyIn feed) said hs items ledger call → CallIs start (requests.CopyIn (fed_one piece feed)) (said ++ CopyData piece ∷ []) hs items ledger call
said_one start feed said hs items ledger (states.Own reply) piece o i =
    let c = i.2 in
    let at = came feed.is_ended (Feeding false) c.own (subst (λ (p : Part). part_after (Opening feed.is_ended) c.own ≡ Some p) o c.so_far) in (
      i.0,
      feed_said feed (fed_one piece feed) refl i.1,
      record {
        own = c.own;
        kind_is = c.kind_is;
        one = refl;
        said_is = said_more (drain_fails start.is_copy_failed (before_readys start.owed hs)) said (feeding feed) (feeding (fed_one piece feed)) (CopyData piece) c.said_is (fed_said feed piece (sym at.3));
        counted = c.counted;
        well = c.well;
        own_is = c.own_is;
        own_have_frames = c.own_have_frames;
        so_far = c.so_far;
        rest_is = c.rest_is;
        heading_is = c.heading_is;
        parameters_are = c.parameters_are;
        tally_is = c.tally_is;
        items_are = c.items_are;
      },
    )
said_one start feed said hs items ledger states.Idle piece o i = absurd o
said_one start feed said hs items ledger (states.Asked asked) piece o i = absurd o
said_one start feed said hs items ledger (states.Waiting w) piece o i = absurd o
said_one start feed said hs items ledger states.Closing piece o i = absurd o

said_all : (start : Ledger) (feed : Feed) (said : List FrontendMessage) (hs : List Frame) (items : List CallItem) (ledger : Ledger) (call : Call) → IsOpen call → CallIs start (requests.CopyIn feed) said hs items ledger call → CallIs start (requests.CopyIn (fed_all feed)) (said ++ CopyDone ∷ []) hs items ledger (fed_whole call)
said_all start feed said hs items ledger (states.Own reply) o i =
    let c = i.2 in
    let at = came feed.is_ended (Feeding false) c.own (subst (λ (p : Part). part_after (Opening feed.is_ended) c.own ≡ Some p) o c.so_far) in (
      i.0,
      feed_said feed (fed_all feed) refl i.1,
      record {
        own = c.own;
        kind_is = c.kind_is;
        one = refl;
        said_is = said_more (drain_fails start.is_copy_failed (before_readys start.owed hs)) said (feeding feed) (feeding (fed_all feed)) CopyDone c.said_is (ended_said feed (sym at.3));
        counted = c.counted;
        well = c.well;
        own_is = c.own_is;
        own_have_frames = c.own_have_frames;
        so_far = subst (λ (t : List BackendMessage). part_after (Opening true) t ≡ Some (fed_part reply.part)) (sym at.2) (ap (λ (p : Part). Some (fed_part p)) (sym o));
        rest_is = c.rest_is;
        heading_is = c.heading_is;
        parameters_are = c.parameters_are;
        tally_is = c.tally_is;
        items_are = c.items_are;
      },
    )
said_all start feed said hs items ledger states.Idle o i = absurd o
said_all start feed said hs items ledger (states.Asked asked) o i = absurd o
said_all start feed said hs items ledger (states.Waiting w) o i = absurd o
said_all start feed said hs items ledger states.Closing o i = absurd o

data_ends_none : (piece : List ℕ) → count_by ends_request (CopyData piece ∷ []) ≡ 0
data_ends_none piece = refl

-- the waits of the polls are those before
waited_fed : (n : ℕ) (first : StreamSeen) (b : ConnSeen) (new : List FrontendMessage) → Waited n first b.stream → Waited n first (with_messages new b).stream
waited_fed n first b new w = record { write_waits = w.write_waits; read_waits = w.read_waits; spent = w.spent; all = w.all; writes = w.writes; reads = w.reads; moved = w.moved; waits = w.waits; moves = w.moves }

-- a part of the data is queued
copy_fed : (first : StreamSeen) (c b : ConnSeen) (feed : Feed) (waits : ℕ) (items : List CallItem) (said : List FrontendMessage) (fs : List Frame) (piece : List ℕ) → InCopy first (asked_with feed c) b (requests.CopyIn feed) waits items said fs
    → InCopy first (asked_with (fed_one piece feed) c) (with_messages (CopyData piece ∷ []) b) (requests.CopyIn (fed_one piece feed)) waits items (said ++ CopyData piece ∷ []) fs
copy_fed first c b feed waits items said fs piece i =
    let e = unended c.ledger feed said (heard fs) items b.ledger b.call i.is_open i.call in
    let copies : change_for (requests.CopyIn (fed_one piece feed)) ≡ changes.Copies = unended_changes (fed_one piece feed) e in
    let change : b.change ≡ changes.Copies = ap (λ (s : Standing). s.change) i.went.started.3 ∙ unended_changes feed e in
    let new : List FrontendMessage = CopyData piece ∷ [] in
    let went = went_fed (asked_with feed c) b said new fs (states.Asked (requests.CopyIn (fed_one piece feed))) b.call changes.Copies (data_ends_none piece) i.went in
    record {
      went = subst (λ (k : Change). Went (record c { call = states.Asked (requests.CopyIn (fed_one piece feed)); change = k }) (with_messages new b) (said ++ new) fs) (sym copies)
          (subst (λ (k : Change). Went (record c { call = states.Asked (requests.CopyIn (fed_one piece feed)); change = changes.Copies }) (record (with_messages new b) { change = k }) (said ++ new) fs) (sym change) went);
      broken = i.broken;
      call = said_one c.ledger feed said (heard fs) items b.ledger b.call piece i.is_open i.call;
      kind = refl;
      is_open = i.is_open;
      asked = refl;
      room = λ h. let k = i.room h in omega (arith, k);
      waited = waited_fed waits first b new i.waited;
      calls = i.calls;
    }

fed_none : (c : ConnSeen) → c ≡ fed_with [] c
fed_none c = ap (λ (u : List ℕ). record c { stream = record c.stream { unsent = u } }) (sym (append-nil c.stream.unsent))

fed_more : (piece : List ℕ) (parts : List (List ℕ)) (c : ConnSeen) → fed_with parts (with_messages (CopyData piece ∷ []) c) ≡ fed_with (piece ∷ parts) c
fed_more piece parts c = ap (λ (u : List ℕ). record c { stream = record c.stream { unsent = u } }) (append_assoc c.stream.unsent (spelled (CopyData piece ∷ [])) (spelled (map CopyData parts)) ∙ ap (λ (u : List ℕ). c.stream.unsent ++ u) (sym (spelled-append (CopyData piece ∷ []) (map CopyData parts))))

abbrev pub fed_parts : List (List ℕ) → Feed → Feed
fed_parts parts feed = record feed { pieces = feed.pieces ++ parts }

-- so are all of these
pub copy_fed_with : (parts : List (List ℕ)) (first : StreamSeen) (c b : ConnSeen) (feed : Feed) (waits : ℕ) (items : List CallItem) (said : List FrontendMessage) (fs : List Frame) → InCopy first (asked_with feed c) b (requests.CopyIn feed) waits items said fs
    → InCopy first (asked_with (fed_parts parts feed) c) (fed_with parts b) (requests.CopyIn (fed_parts parts feed)) waits items (said ++ map CopyData parts) fs
copy_fed_with [] first c b feed waits items said fs i =
    let same : feed ≡ fed_parts [] feed = ap (λ (p : List (List ℕ)). record feed { pieces = p }) (sym (append-nil feed.pieces)) in
    subst (λ (f : Feed). InCopy first (asked_with f c) (fed_with [] b) (requests.CopyIn f) waits items (said ++ []) fs) same
    (subst (λ (x : ConnSeen). InCopy first (asked_with feed c) x (requests.CopyIn feed) waits items (said ++ []) fs) (fed_none b)
    (subst (λ (m : List FrontendMessage). InCopy first (asked_with feed c) b (requests.CopyIn feed) waits items m fs) (sym (append-nil said)) i))
copy_fed_with (piece ∷ parts) first c b feed waits items said fs i =
    let rest = copy_fed_with parts first c (with_messages (CopyData piece ∷ []) b) (fed_one piece feed) waits items (said ++ CopyData piece ∷ []) fs (copy_fed first c b feed waits items said fs piece i) in
    let same : fed_parts parts (fed_one piece feed) ≡ fed_parts (piece ∷ parts) feed = ap (λ (p : List (List ℕ)). record feed { pieces = p }) (append_assoc feed.pieces (piece ∷ []) parts) in
    subst (λ (f : Feed). InCopy first (asked_with f c) (fed_with (piece ∷ parts) b) (requests.CopyIn f) waits items (said ++ map CopyData (piece ∷ parts)) fs) same
    (subst (λ (x : ConnSeen). InCopy first (asked_with (fed_parts parts (fed_one piece feed)) c) x (requests.CopyIn (fed_parts parts (fed_one piece feed))) waits items (said ++ map CopyData (piece ∷ parts)) fs) (fed_more piece parts b)
    (subst (λ (m : List FrontendMessage). InCopy first (asked_with (fed_parts parts (fed_one piece feed)) c) (fed_with parts (with_messages (CopyData piece ∷ []) b)) (requests.CopyIn (fed_parts parts (fed_one piece feed))) waits items m fs) (append_assoc said (CopyData piece ∷ []) (map CopyData parts)) rest))

no_level : (groups : ℕ) → level_of changes.Fed groups ≡ 0
no_level groups = by (nat_eq groups 0)
  where
    by : (b : Bool) → ◌≡◌ {A = ℕ} (cond b 0 0) 0
    by true = refl
    by false = refl

pub said_can : (start : Ledger) (r : Request) (said : List FrontendMessage) (hs : List Frame) (items : List CallItem) (ledger : Ledger) (call : Call) → IsOpen call → CallIs start r said hs items ledger call → CanBeSaid r
said_can start r said hs items ledger (states.Own reply) o i = i.1
said_can start r said hs items ledger states.Idle o i = absurd o
said_can start r said hs items ledger (states.Asked asked) o i = absurd o
said_can start r said hs items ledger (states.Waiting w) o i = absurd o
said_can start r said hs items ledger states.Closing o i = absurd o

-- and their end: the call goes on as any other
pub copy_ended : (first : StreamSeen) (c b : ConnSeen) (feed : Feed) (waits : ℕ) (items : List CallItem) (said : List FrontendMessage) (fs : List Frame) → c.groups ≡ 0 → InCopy first (asked_with feed c) b (requests.CopyIn feed) waits items said fs
    → InPlay first (asked_with (fed_all feed) c) (copied b) (requests.CopyIn (fed_all feed)) waits items (said ++ CopyDone ∷ []) fs
copy_ended first c b feed waits items said fs g i =
    let e = unended c.ledger feed said (heard fs) items b.ledger b.call i.is_open i.call in
    let none : count_by ends_request (CopyDone ∷ []) ≡ 0 = refl in
    let room = i.room in
    record {
      went = went_fed (asked_with feed c) b said (CopyDone ∷ []) fs (states.Asked (requests.CopyIn (fed_all feed))) (fed_whole b.call) changes.Fed none i.went;
      broken = i.broken;
      call = said_all c.ledger feed said (heard fs) items b.ledger b.call i.is_open i.call;
      asked = refl;
      room = λ h. let k = room (omega (arith, h, level_at_first c.groups g changes.Copies, ap (λ (x : Change). level_of x c.groups) (unended_changes feed e))) in omega (arith, k, same_room b.call i.is_open, no_level b.groups);
      waited = waited_fed waits first b (CopyDone ∷ []) i.waited;
      calls = omega (arith, i.calls);
      unsaid = λ u. absurd (not_held_back (requests.CopyIn (fed_all feed)) (feed_said feed (fed_all feed) refl (said_can c.ledger (requests.CopyIn feed) said (heard fs) items b.ledger b.call i.is_open i.call)) refl u);
      unflushed = λ f. absurd cc;
    }
  where
    level_at_first : (n : ℕ) → n ≡ 0 → (change : Change) → level_of change n ≡ 0
    level_at_first n e change = ap (level_of change) e

-- without memory for a part the copy is given up where it stands
pub copy_stops : (limits : Limits) (c b : ConnSeen) (feed : Feed) (waits : ℕ) (shown : List Item) (items : List CallItem) (said : List FrontendMessage) (fs : List Frame) → waits < limits.polls → shown ≡ map item_of items → length shown < limits.most → c.broken ≡ None
    → InCopy c.stream (asked_with feed c) b (requests.CopyIn feed) waits items said fs → StopsBy (bounds limits) c.stream (asked_with feed c) b (requests.CopyIn feed) shown (ends.Err errors.OutOfMemory)
copy_stops limits c b feed waits shown items said fs l s m w i =
    let can = said_can c.ledger (requests.CopyIn feed) said (heard fs) items b.ledger b.call i.is_open i.call in
    let e = unended c.ledger feed said (heard fs) items b.ledger b.call i.is_open i.call in
    let ended = ended_whole (bounds limits) c.stream (asked_with feed c) b (requests.CopyIn feed) shown (ends.Err errors.OutOfMemory) said fs w i.went i.broken (ends_few (bounds limits) c.stream b.stream waits (ends.Err errors.OutOfMemory) l i.waited) i.room
    (few_calls c.stream b (requests.CopyIn feed) waits (length items) (bounds limits) l (below_items shown items limits.most s m) (omega (arith, i.calls)))
    (not_at_once (asked_with feed c) b (requests.CopyIn feed) shown (ends.Err errors.OutOfMemory) fs (not_held_back (requests.CopyIn feed) can refl) (λ f. absurd cc))
    (inl (items, s, m, inr (leaves_call c.ledger (requests.CopyIn feed) said (heard fs) items b.ledger b.call i.call, call_well c.ledger (requests.CopyIn feed) said (heard fs) items b.ledger b.call i.call, inl (tt, tt)))) tt in
    (b, ended, inr (runs_on c.ledger (requests.CopyIn feed) said (heard fs) items b.ledger b.call i.call, refl, λ x. refl, refl))

-- a copy is one exchange
pub of_copy : (polls : ℕ) (first : StreamSeen) (P : ConnSeen → Request → Type 0) (a : ConnSeen) (feed : Feed) → OfLast polls first P a (requests.CopyIn feed) → P a (requests.CopyIn feed)
of_copy polls first P a feed (from, asked, inl (f, q), ([], p)) = subst (λ (r : Request). P a r) q (subst (λ (x : ConnSeen). P x asked) f p)
of_copy polls first P a feed (from, asked, inl (f, q), (next ∷ later, (m, h, rest))) =
    let k : ◌≡◌ {A = Kind} kinds.CopyIn kinds.Describe = sym (ap (λ (r : Request). kind_of r) q) ∙ handed_described polls first from m asked h.told h.handed in
    absurd cc
of_copy polls first P a feed (from, asked, inr h, on) = absurd h

-- it is open still where it was fed these parts
pub copy_feeds : (limits : Limits) (c b d : ConnSeen) (feed : Feed) (waits : ℕ) (shown : List Item) (front : List (List ℕ)) → Pauses limits (asked_with feed c) b (requests.CopyIn feed) waits shown pauses.Opened → d ≡ fed_with front b
    → Pauses limits (asked_with (fed_parts front feed) c) d (requests.CopyIn (fed_parts front feed)) waits shown pauses.Opened
copy_feeds limits c b d feed waits shown front p e =
    let i = of_copy limits.polls c.stream (λ at asked. IsCopying limits.most c.stream at b asked waits shown) (asked_with feed c) feed p in
    let h = i.1 in
    subst (λ (x : ConnSeen). Pauses limits (asked_with (fed_parts front feed) c) x (requests.CopyIn (fed_parts front feed)) waits shown pauses.Opened) (sym e)
    (asked_with (fed_parts front feed) c, requests.CopyIn (fed_parts front feed), inl (refl, refl), ([], (i.0, (h.0, h.1 ++ map CopyData front, h.2, h.3, h.4, copy_fed_with front c.stream c b feed waits h.0 h.1 h.2 h.5))))

pub open_stays : (c : ConnSeen) → IsOpen c.call → resolved (copied c) ≡ copied c
open_stays c o = unasked_stays (copied c) (by c.call o)
  where
    by : (call : Call) → IsOpen call → IsAsked (fed_whole call) → ⊥
    by (states.Own reply) o a = a
    by states.Idle o a = absurd o
    by (states.Asked asked) o a = absurd o
    by (states.Waiting w) o a = absurd o
    by states.Closing o a = absurd o

pub came_none : (copying : Copying) → CameOf copying (fed_of copying [] false)
came_none copying = record { sql = refl; pieces = (parts_of copying, refl); whole = λ w. absurd cc; parts = tt }

-- a copy that was fed to its end isn't open again
pub ended_unopened : (limits : Limits) (a b : ConnSeen) (feed : Feed) (waits : ℕ) (shown : List Item) → feed.is_ended ≡ true → Pauses limits a b (requests.CopyIn feed) waits shown pauses.Opened → ⊥
ended_unopened limits a b feed waits shown e p =
    let i = of_copy limits.polls a.stream (λ at asked. IsCopying limits.most a.stream at b asked waits shown) a feed p in
    let h = i.1 in
    let o = unended a.ledger feed h.1 (heard h.2) h.0 b.ledger b.call h.5.is_open h.5.call in
    let x = sym e ∙ o in cc

-- ---- a step that copies

-- it isn't polled
pub copies_unpolled : (a : ConnSeen) (step : Step) (copying : Copying) (out : Outcome) → IsUnpolled step → a.rule.depth < 2 ^ 64 → out ≡ untouched ends.Dropped → PlaysCopy a a step copying out
copies_unpolled a step copying out u d e =
    let part : Step = record step { call = calls.Feed (fed_of copying [] false) } in
    (part ∷ [], out ∷ [], (fed_of copying [] false, came_none copying, (refl, refl)), (a, inr (refl, inl (u, refl, e)), d, refl))

-- there was no memory for its text
pub copies_unmade : (a : ConnSeen) (step : Step) (copying : Copying) (out : Outcome) → (IsUnpolled step → ⊥) → step.polls < 2 ^ 32 → a.rule.depth < 2 ^ 64 → out ≡ untouched (ends.Err errors.OutOfMemory) → PlaysCopy a a step copying out
copies_unmade a step copying out n p d e =
    let part : Step = record step { call = calls.Feed (fed_of copying [] false) } in
    (part ∷ [], out ∷ [], (fed_of copying [] false, came_none copying, (refl, refl)), (a, inr (refl, inr (n, p, inr (λ x. let y = x.0 in absurd cc, inl (refl, e, refl)))), d, refl))
