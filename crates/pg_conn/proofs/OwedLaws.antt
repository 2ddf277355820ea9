-- What is owed follows from where a call stands, and groups are queued in turn.
use Rattle.std.proofs.Common.{◌≡◌, ◌⊎◌, inl, inr, ℕ, ◌+◌, Bool, true, false, not, ◌&&◌, ◌==◌, cond, List, [], ◌∷◌, ◌++◌, append-nil, map, length, codes, refl, sym, ap, ◌∙◌, subst, arith, Result, Ok, Err, Option, Some, None, ◌||◌, append_assoc}
use Rattle.std.specs.List.{count_by}
use Rattle.pg_exchanges.specs.Answering.{closing as closing_group, running}
use Rattle.std.proofs.lemmas.List.Sums.{sum_by-append, sum_by-cons}
use Rattle.pg_wire.specs.declared.error.Error.{Error}
use Rattle.pg_wire.specs.declared.error.Error.TheVariants as errors
use Rattle.pg_wire.specs.declared.error.ProtocolFault.TheVariants as protocol
use Rattle.pg_wire.specs.Frame.{Frame, is_known, text_of}
use Rattle.pg_wire.specs.Parts.{heard, is_asynchronous, is_ready}
use Rattle.pg_wire.specs.Frontend.{FrontendMessage, Query, frontend_frame, CopyData}
use Rattle.pg_stream.specs.Streams.{StreamSeen, Moves}
use Rattle.pg_stream.proofs.StreamLemmas.{Moves-none, Moves-then, text_of-append}
use Rattle.std.proofs.lemmas.Bool.{eqb-true}
use Rattle.pg_call.specs.declared.kind.Kind.{Kind}
use Rattle.pg_call.specs.declared.kind.Kind.TheVariants as kinds
use Rattle.pg_call.specs.declared.request.Request.{Request}
use Rattle.pg_call.specs.declared.request.Request.TheVariants as requests
use Rattle.pg_call.specs.declared.answer.CallItem.{CallItem}
use Rattle.pg_call.specs.declared.answer.CallAnswer.{CallAnswer}
use Rattle.pg_call.specs.declared.ledger.Ledger.{Ledger}
use Rattle.pg_call.specs.declared.calling.Call.{Call}
use Rattle.pg_call.specs.declared.calling.Call.TheVariants as calls
use Rattle.pg_call.specs.declared.calling.Beat.{Beat}
use Rattle.pg_call.specs.declared.calling.Beat.TheVariants as beats
use Rattle.pg_call.specs.Requests.{Group, said_in, feeding, kind_of, name_of, groups_of, messages_of, farewell, CanBeSaid, copy_fail, spelled, running_bound, ended_by, parsing_by}
use Rattle.pg_call.specs.Drains.{before_readys, is_copy_in, failed_behind, fails_for, drain_fails}
use Rattle.pg_call.specs.Hearing.{fails_of}
use Rattle.pg_call.specs.Calls.{CallIs, IsDraining, Leaves, IsFine, CallEnds}
use Rattle.pg_conn.specs.Connections.{ConnSeen, left, ended}
use Rattle.pg_conn.specs.Turns.{ends_request, Tells, AsksNone, AsksInTurn, InTurn}
use Rattle.std.proofs.lemmas.List.{map-append}
use Rattle.pg_call.specs.declared.feed.Feed.{Feed}

-- the bytes of messages, one after another
pub spelled-append : (xs ys : List FrontendMessage) → spelled (xs ++ ys) ≡ spelled xs ++ spelled ys
spelled-append xs ys = ap text_of (map-append frontend_frame xs ys) ∙ text_of-append (map frontend_frame xs) (map frontend_frame ys)

pub counts-append : (xs ys : List FrontendMessage) → count_by ends_request (xs ++ ys) ≡ count_by ends_request xs + count_by ends_request ys
counts-append xs ys = sum_by-append (λ (m : FrontendMessage). cond (ends_request m) 1 0) xs ys

-- ---- which messages end a request

pub closes_said : (names : List (List ℕ)) → count_by ends_request (closing_group names) ≡ 1
closes_said [] = refl
closes_said (name ∷ names) = omega (arith, closes_said names)

data_asks_none : (pieces : List (List ℕ)) (ended : Bool) → count_by ends_request (map CopyData pieces ++ ended_by ended) ≡ 0
data_asks_none [] true = refl
data_asks_none [] false = refl
data_asks_none (p ∷ ps) ended = data_asks_none ps ended

pub feed_asks : (feed : Feed) → count_by ends_request (feeding feed) ≡ 1
feed_asks feed =
    let behind = map CopyData feed.pieces ++ ended_by feed.is_ended in
    sum_by-cons (λ (m : FrontendMessage). cond (ends_request m) 1 0) (Query feed.query.sql) behind ∙ ap (λ (n : ℕ). 1 + n) (data_asks_none feed.pieces feed.is_ended)

pub run_asks : (name types : List ℕ) (values : List (Option (List ℕ))) (again : Option (List ℕ)) → count_by ends_request (parsing_by name types again ++ running name values 0) ≡ 1
run_asks name types values None = refl
run_asks name types values (Some sql) = refl

pub no_groups : (fails : Bool) → count_by ends_request (fails_of fails) ≡ 0
no_groups true = refl
no_groups false = refl

-- ---- ReadyForQuery

alone_true : (b : Bool) → b || false ≡ true → b ≡ true
alone_true true e = refl
alone_true false e = absurd cc

pub is_Z : (f : Frame) → is_ready f ≡ true → f.tag ≡ 90
is_Z f e = eqb-true f.tag 90 (alone_true (f.tag == 90) e)

-- ---- ReadyForQuery is no asynchronous message

readies-cons : (f : Frame) (fs : List Frame) → count_by is_ready (f ∷ fs) ≡ cond (is_ready f) 1 0 + count_by is_ready fs
readies-cons f fs = sum_by-cons (λ (g : Frame). cond (is_ready g) 1 0) f fs

pub readies-append : (xs ys : List Frame) → count_by is_ready (xs ++ ys) ≡ count_by is_ready xs + count_by is_ready ys
readies-append xs ys = sum_by-append (λ (g : Frame). cond (is_ready g) 1 0) xs ys

asynchronous_unready : (f : Frame) → is_asynchronous f ≡ true → is_ready f ≡ false
asynchronous_unready f e = by (is_ready f) refl
  where
    by : (b : Bool) → is_ready f ≡ b → b ≡ false
    by false z = refl
    by true z =
        let w : is_known (codes "NSA") 90 ≡ true = subst (λ (t : ℕ). is_known (codes "NSA") t ≡ true) (is_Z f z) e in
        absurd cc

not_counted : (f : Frame) (fs : List Frame) → is_ready f ≡ false → count_by is_ready (f ∷ fs) ≡ count_by is_ready fs
not_counted f fs z =
    let none : ◌≡◌ {A = ℕ} (cond (is_ready f) 1 0) 0 = ap (λ (b : Bool). cond b 1 0) z in
    omega (arith, readies-cons f fs, none)

one_more : (f : Frame) (xs ys : List Frame) → count_by is_ready xs ≡ count_by is_ready ys → count_by is_ready (f ∷ xs) ≡ count_by is_ready (f ∷ ys)
one_more f xs ys h = omega (arith, readies-cons f xs, readies-cons f ys, h)

pub readies_heard : (fs : List Frame) → count_by is_ready (heard fs) ≡ count_by is_ready fs
readies_heard [] = refl
readies_heard (f ∷ fs) = by (is_asynchronous f) refl (readies_heard fs)
  where
    by : (b : Bool) → is_asynchronous f ≡ b → count_by is_ready (heard fs) ≡ count_by is_ready fs → count_by is_ready (heard (f ∷ fs)) ≡ count_by is_ready (f ∷ fs)
    by true e h = rw e (h ∙ sym (not_counted f fs (asynchronous_unready f e)))
    by false e h = rw e (one_more f (heard fs) fs h)

-- ---- which messages ask for a reply

copy_fails_ask_none : (failed : Bool) (fs : List Frame) → count_by ends_request (drain_fails failed fs) ≡ 0
copy_fails_ask_none failed [] = refl
copy_fails_ask_none failed (f ∷ fs) =
    let both = counts-append (fails_for failed f) (drain_fails (failed_behind failed f) fs) in
    omega (arith, both, one (is_copy_in f && not failed), copy_fails_ask_none (failed_behind failed f) fs)
  where
    one : (b : Bool) → count_by ends_request (cond b (copy_fail ∷ []) []) ≡ 0
    one true = refl
    one false = refl

groups_ask : (r : Request) → count_by ends_request (said_in (groups_of r)) ≡ length (groups_of r)
groups_ask (requests.Execute query) = refl
groups_ask (requests.ExecuteMany query) = refl
groups_ask (requests.Fetch query) = refl
groups_ask (requests.FetchMany query) = refl
groups_ask (requests.FetchAll query) = refl
groups_ask (requests.FetchOptional query) = refl
groups_ask (requests.FetchOne query) = refl
groups_ask (requests.Begin depth) = refl
groups_ask (requests.BeginWith query) = refl
groups_ask (requests.CopyOut query) = refl
groups_ask (requests.CopyIn feed) = rw (append-nil (feeding feed)) (feed_asks feed)
groups_ask (requests.Commit left) = refl
groups_ask (requests.Rollback left) = refl
groups_ask (requests.Describe extended) = refl
groups_ask (requests.Run bound) = rw (append-nil (running_bound bound)) (run_asks (name_of bound.statement) bound.arguments.types bound.arguments.values bound.again)
groups_ask (requests.Look lookup) = refl
groups_ask (requests.Fill filling) = refl
groups_ask (requests.Evict eviction) = refl
groups_ask (requests.Clear statements) = rw (append-nil (closing_group (map name_of statements))) (closes_said (map name_of statements))
groups_ask (requests.Prepare prepared) = refl
groups_ask requests.Ping = refl
groups_ask requests.Flush = refl
groups_ask requests.Close = refl

farewell_asks_none : (kind : Kind) → count_by ends_request (farewell kind) ≡ 0
farewell_asks_none (kinds.Run how) = refl
farewell_asks_none kinds.Describe = refl
farewell_asks_none kinds.Prepare = refl
farewell_asks_none kinds.Clear = refl
farewell_asks_none kinds.Begin = refl
farewell_asks_none kinds.Commit = refl
farewell_asks_none kinds.Rollback = refl
farewell_asks_none kinds.CopyOut = refl
farewell_asks_none kinds.CopyIn = refl
farewell_asks_none kinds.Ping = refl
farewell_asks_none kinds.Flush = refl
farewell_asks_none kinds.Close = refl

-- ---- the ledger, wherever the call stands

abbrev Counts : Ledger → List FrontendMessage → List Frame → Ledger → Type 0
Counts start said hs ledger = count_by is_ready hs + ledger.owed ≡ start.owed + count_by ends_request said

drained_counts : (start : Ledger) (said : List FrontendMessage) (hs : List Frame) (items : List CallItem) (ledger : Ledger) (failed : Bool) → IsDraining start said hs items ledger failed → Counts start said hs ledger
drained_counts start said hs items ledger failed d =
    let none : count_by ends_request said ≡ 0 = ap (count_by ends_request) d.said_is ∙ copy_fails_ask_none start.is_copy_failed hs in
    omega (arith, d.counted, none)

pub call_counts : (start : Ledger) (r : Request) (said : List FrontendMessage) (hs : List Frame) (items : List CallItem) (ledger : Ledger) (call : Call) → CallIs start r said hs items ledger call → Counts start said hs ledger
call_counts start r said hs items ledger (calls.Asked asked) i = rw (i.1, i.2, i.3) (omega arith)
call_counts start r said hs items ledger (calls.Waiting w) i = drained_counts start said hs items ledger w.is_copy_failed i.3
call_counts start r said hs items ledger (calls.Own reply) i =
    let fails = drain_fails start.is_copy_failed (before_readys start.owed hs) in
    let asked : count_by ends_request said ≡ count_by ends_request fails + count_by ends_request (said_in (groups_of r)) = ap (count_by ends_request) i.2.said_is ∙ counts-append fails (said_in (groups_of r)) in
    let one = ap (λ (l : Ledger). l.owed) i.0 in
    omega (arith, asked, copy_fails_ask_none start.is_copy_failed (before_readys start.owed hs), groups_ask r, i.2.one, i.2.counted, one)
call_counts start r said hs items ledger calls.Closing i =
    let c = i.2 in
    let d = drained_counts start c.drained hs items ledger c.failed c.draining in
    let asked : count_by ends_request said ≡ count_by ends_request c.drained + count_by ends_request (farewell kinds.Close) = ap (count_by ends_request) c.said_is ∙ counts-append c.drained (farewell kinds.Close) in
    omega (arith, d, asked, farewell_asks_none kinds.Close)
call_counts start r said hs items ledger calls.Idle i = absurd i

own_asks : (r : Request) (own : List Group) (hs : List Frame) (owed : ℕ) → (own ≡ []) ⊎ ((own ≡ groups_of r) × (length own ≡ 1) × CanBeSaid r × (count_by is_ready hs ≡ owed)) → count_by ends_request (said_in own) ≡ length own
own_asks r own hs owed (inl e) = rw e refl
own_asks r own hs owed (inr q) = rw q.0 (groups_ask r)

bye_asks_none : (r : Request) (bye : List FrontendMessage) → (bye ≡ []) ⊎ ((bye ≡ farewell (kind_of r)) × CanBeSaid r) → count_by ends_request bye ≡ 0
bye_asks_none r bye (inl e) = rw e refl
bye_asks_none r bye (inr q) = rw q.0 (farewell_asks_none (kind_of r))

left_counts : (start : Ledger) (r : Request) (said : List FrontendMessage) (hs : List Frame) (items : List CallItem) (ledger : Ledger) (copied : Bool) → Leaves start r said hs items ledger copied → Counts start said hs ledger
left_counts start r said hs items ledger copied l =
    let fails = drain_fails start.is_copy_failed (before_readys start.owed hs) in
    let own = said_in l.own in
    let all = ap (count_by ends_request) l.said_is in
    let three = counts-append (fails ++ (own ++ l.bye)) (fails_of copied) in
    let two = counts-append fails (own ++ l.bye) in
    let one = counts-append own l.bye in
    omega (arith, all, three, two, one, copy_fails_ask_none start.is_copy_failed (before_readys start.owed hs), own_asks r l.own hs start.owed l.queued, bye_asks_none r l.bye l.farewells, no_groups copied, l.counted)

fine_counts : (start : Ledger) (r : Request) (said : List FrontendMessage) (hs : List Frame) (items : List CallItem) (ledger : Ledger) → IsFine start r said hs items ledger → Counts start said hs ledger
fine_counts start r said hs items ledger f =
    let fails = drain_fails start.is_copy_failed (before_readys start.owed hs) in
    let all = ap (count_by ends_request) f.said_is in
    let two = counts-append fails (messages_of r) in
    let one = counts-append (said_in (groups_of r)) (farewell (kind_of r)) in
    omega (arith, all, two, one, copy_fails_ask_none start.is_copy_failed (before_readys start.owed hs), groups_ask r, farewell_asks_none (kind_of r), f.counted, f.owes)

ends_count : (start : Ledger) (r : Request) (said : List FrontendMessage) (hs : List Frame) (items : List CallItem) (ledger : Ledger) (answer : Result CallAnswer Error) → CallEnds start r said hs items ledger answer → Counts start said hs ledger
ends_count start r said hs items ledger (Ok answer) h = fine_counts start r said hs items ledger h.0
ends_count start r said hs items ledger (Err errors.RowNotFound) h = fine_counts start r said hs items ledger h.0
ends_count start r said hs items ledger (Err (errors.BeginFailed status)) h = fine_counts start r said hs items ledger h.0
ends_count start r said hs items ledger (Err (errors.Database error)) h = left_counts start r said hs items ledger false h.0
ends_count start r said hs items ledger (Err (errors.Protocol (protocol.Reply tag))) h = left_counts start r said hs items ledger (tag == 71) h.0.0
ends_count start r said hs items ledger (Err (errors.Protocol (protocol.Caller fault))) h = rw (h.0, h.1, h.3) (omega arith)
ends_count start r said hs items ledger (Err (errors.Protocol _)) h = absurd h
ends_count start r said hs items ledger (Err _) h = absurd h

pub told_counts : (a b : ConnSeen) (start : Ledger) (r : Request) (said : List FrontendMessage) (hs : List Frame) (items : List CallItem) (beat : Beat) → Tells a b start r said hs items beat → Counts start said hs b.ledger
told_counts a b start r said hs items beats.More t = call_counts start r said hs items b.ledger b.call t
told_counts a b start r said hs items beats.Waits t = call_counts start r said hs items b.ledger b.call t.0
told_counts a b start r said hs items (beats.Yields item) t = call_counts start r said hs (items ++ item ∷ []) b.ledger b.call t
told_counts a b start r said hs items (beats.Opens opened) t = call_counts start r said hs items b.ledger b.call t.0
told_counts a b start r said hs items (beats.Ends (Ok answer)) t = ends_count start r said hs items b.ledger (Ok answer) t.1
told_counts a b start r said hs items (beats.HandsOn next) t = fine_counts start r said hs items b.ledger t.1.0
told_counts a b start r said hs items (beats.Ends (Err e)) t = elim t.1 [
  | inl ends ↦ ends_count start r said hs items b.ledger (Err e) ends
  | inr f ↦ left_counts start r said hs items b.ledger false f.0
]

-- ---- groups in turn

AsksNone-then : (o p l : ℕ) (a b c : StreamSeen) (q q' : List ℕ) (fs fs' : List Frame) → AsksNone o a b q fs p → AsksNone p b c q' fs' l → AsksNone o a c (q ++ q') (fs ++ fs') l
AsksNone-then o p l a b c q q' fs fs' x y = record {
  said = x.said ++ y.said;
  bytes = ap (λ (z : List ℕ). z ++ q') x.bytes ∙ ap (λ (z : List ℕ). spelled x.said ++ z) y.bytes ∙ sym (spelled-append x.said y.said);
  none = omega (arith, x.none, y.none, counts-append x.said y.said);
  moves = Moves-then a b c q q' fs fs' x.moves y.moves;
  counts = omega (arith, x.counts, y.counts, readies-append fs fs');
}

asks_behind : (groups : List (List ℕ)) (o p l : ℕ) (a b c : StreamSeen) (q q' : List ℕ) (fs fs' : List Frame) → AsksNone o a b q fs p → AsksInTurn groups p b c q' fs' l → AsksInTurn groups o a c (q ++ q') (fs ++ fs') l
asks_behind [] o p l a b c q q' fs fs' x y = AsksNone-then o p l a b c q q' fs fs' x y
asks_behind (group ∷ groups) o p l a b c q q' fs fs' x (d, r, later, gs, hs, asks, once, rest, bytes, frames) = (
  d,
  q ++ r,
  later,
  fs ++ gs,
  hs,
  asks,
  record { ready = once.ready; before = AsksNone-then o p 0 a b once.ready q r fs gs x once.before; queues = once.queues },
  rest,
  ap (λ (z : List ℕ). q ++ z) bytes ∙ sym (append_assoc q r (group ++ later)),
  ap (λ (z : List Frame). fs ++ z) frames ∙ sym (append_assoc fs gs hs),
)

asks_then : (groups more : List (List ℕ)) (o p l : ℕ) (a b c : StreamSeen) (q q' : List ℕ) (fs fs' : List Frame) → AsksInTurn groups o a b q fs p → AsksInTurn more p b c q' fs' l → AsksInTurn (groups ++ more) o a c (q ++ q') (fs ++ fs') l
asks_then [] more o p l a b c q q' fs fs' x y = asks_behind more o p l a b c q q' fs fs' x y
asks_then (group ∷ groups) more o p l a b c q q' fs fs' (d, r, later, gs, hs, asks, once, rest, bytes, frames) y = (
  d,
  r,
  later ++ q',
  gs,
  hs ++ fs',
  asks,
  once,
  asks_then groups more asks p l d b c later q' hs fs' rest y,
  ap (λ (z : List ℕ). z ++ q') bytes ∙ append_assoc r (group ++ later) q' ∙ ap (λ (z : List ℕ). r ++ z) (append_assoc group later q'),
  ap (λ (z : List Frame). z ++ fs') frames ∙ append_assoc gs hs fs',
)

pub InTurn-then : (a b c : ConnSeen) (q q' : List ℕ) (fs fs' : List Frame) → InTurn a b q fs → InTurn b c q' fs' → InTurn a c (q ++ q') (fs ++ fs')
InTurn-then a b c q q' fs fs' x y = (x.0 ++ y.0, asks_then x.0 y.0 a.ledger.owed b.ledger.owed c.ledger.owed a.stream b.stream c.stream q q' fs fs' x.1 y.1)

-- what ends no request was queued
pub none_asked : (a b : ConnSeen) (beat : Beat) (more : List FrontendMessage) (fs hs : List Frame) (start : Ledger) (r : Request) (said : List FrontendMessage) (before : List Frame) (items : List CallItem) → Moves a.stream b.stream (spelled more) fs → heard fs ≡ hs
    → count_by ends_request more ≡ 0 → CallIs start r said before items a.ledger a.call → Tells a b start r (said ++ more) (before ++ hs) items beat → InTurn a b (spelled more) fs
none_asked a b beat more fs hs start r said before items moves hears none i told =
    let one = call_counts start r said before items a.ledger a.call i in
    let two = told_counts a b start r (said ++ more) (before ++ hs) items beat told in
    let same : count_by is_ready fs ≡ count_by is_ready hs = sym (readies_heard fs) ∙ ap (count_by is_ready) hears in
    ([], record { said = more; bytes = refl; none = none; moves = moves; counts = omega (arith, one, two, same, readies-append before hs, counts-append said more) })

-- one group was, where nothing is owed
pub one_asked : (a b : ConnSeen) (frames : List ℕ) → a.ledger.owed ≡ 0 → Moves a.stream b.stream frames [] → InTurn a b frames []
one_asked a b frames none moves = (
  frames ∷ [],
  (
    b.stream,
    [],
    [],
    [],
    [],
    b.ledger.owed,
    record { ready = a.stream; before = record { said = []; bytes = refl; none = refl; moves = Moves-none a.stream; counts = sym none }; queues = moves },
    record { said = []; bytes = refl; none = refl; moves = Moves-none b.stream; counts = omega arith },
    sym (append-nil frames),
    refl,
  ),
)
