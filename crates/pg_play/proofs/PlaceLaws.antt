-- Where the connection stands behind a call that was played.
use Rattle.std.proofs.Common.{◌≡◌, ℕ, zero, suc, ◌+◌, ◌<◌, Bool, true, false, not, ◌&&◌, ◌||◌, ◌==◌, cond, ◌⊎◌, inl, inr, List, [], ◌∷◌, ◌++◌, length, map, refl, sym, ap, ◌∙◌, subst, arith, append-nil, take, replicate, Option, Some, None, Err, MatchBool}
use Rattle.pg_request.specs.Texts.{begin_text, commit_text, rollback_text}
use Rattle.std.specs.List.{count_by, AllByRecursion, list_any}
use Rattle.std.proofs.lemmas.List.{length-append}
use Rattle.std.proofs.lemmas.List.Sums.{sum_by-append}
use Rattle.std.proofs.lemmas.List.Concat.{flat_map-append}
use Rattle.pg_wire.specs.declared.error.Error.{Error}
use Rattle.pg_wire.specs.declared.error.Error.TheVariants as errors
use Rattle.pg_wire.specs.declared.error.ProtocolFault.TheVariants as protocol
use Rattle.pg_wire.specs.declared.error.ServerFault.{ServerFault}
use Rattle.pg_wire.specs.Frame.{Frame}
use Rattle.pg_wire.specs.Parts.{heard, is_ready, parts}
use Rattle.pg_wire.specs.Frontend.{FrontendMessage, HasFrontendFrame, CopyData, Query, Parse, DescribeStatement, Bind, Execute, ClosePortal, CloseStatement}
use Rattle.std.specs.Map.{keys_of}
use Rattle.pg_wire.specs.Backend.{BackendMessage, Values, backend_frame}
use Rattle.pg_wire.specs.Groups.{IsGroup, IsInner}
use Rattle.pg_exchanges.specs.Answering.{closing, running}
use Rattle.pg_wire.proofs.PartLaws.{heard-append}
use Rattle.pg_stream.specs.Streams.{StreamSeen}
use Rattle.pg_call.specs.declared.request.Request.{Request}
use Rattle.pg_call.specs.declared.answer.CallItem.{CallItem}
use Rattle.pg_call.specs.declared.ledger.Ledger.{Ledger}
use Rattle.pg_call.specs.declared.calling.Call.TheVariants as states
use Rattle.pg_call.specs.Requests.{Group, said_in, spelled, kind_of, groups_of, messages_of, copy_fail, ended_by, feeding, name_of, parsing_by}
use Rattle.pg_call.specs.Items.{shown}
use Rattle.pg_call.specs.Drains.{is_copy_in, before_readys, after_readys, drain_fails}
use Rattle.pg_call.specs.Hearing.{fails_of}
use Rattle.pg_call.specs.Calls.{CallEnds, owner_failed}
use Rattle.pg_call.proofs.DrainLaws.{after_nil, before_nil}
use Rattle.pg_conn.specs.Connections.{ConnSeen, idle}
use Rattle.pg_learning.specs.Lookups.{Column, IsNoRow, column_columns, type_columns}
use Rattle.pg_resolve.specs.Tried.{unresolved}
use Rattle.pg_learning.specs.declared.learnt.Learnt.{Learnt}
use Rattle.pg_learning.specs.declared.learnt.Seeking.{Seeking}
use Rattle.pg_learning.specs.declared.learnt.Seeking.TheVariants as seekings
use Rattle.pg_request.specs.Asked.{RefusesType}
use Rattle.pg_learning.specs.Learning.{FailsSeeking, TakesBy, TakesRow}
use Rattle.pg_learning.specs.Naming.{unknown_name}
use Rattle.pg_conn.specs.Looking.{LookFails}
use Rattle.pg_conn.specs.Turns.{FailsBy, ends_request, HasAllRoom}
use Rattle.pg_report.specs.declared.outcome.Item.{Item}
use Rattle.pg_report.specs.declared.outcome.End.{End}
use Rattle.pg_report.specs.declared.outcome.End.TheVariants as ends
use Rattle.pg_script.specs.declared.step.Call.{Call}
use Rattle.pg_script.specs.declared.step.Call.TheVariants as calls
use Rattle.pg_script.specs.declared.step.Fed.{Fed}
use Rattle.pg_play.specs.Shown.{feed_of, is_fed, request_of, item_of}
use Rattle.pg_startup.specs.Flows.{Flows}
use Rattle.pg_play.specs.Calls.{Bounds, EndsOn, broken_after}
use Rattle.pg_play.specs.Places.{Place, IsRequestGroup, readies, ended, owed, drained, is_fine, refuses_copy, unfed, queued_by, failed_next}
use Rattle.pg_play.specs.Plays.{StandsAt, AsksForNoCopy}
use Rattle.pg_startup.proofs.FlowLaws.{Flows-then}
use Rattle.pg_play.proofs.PartLaws.{after_more, fails_count, fails_none}
use Rattle.pg_play.proofs.StepLaws.{Summary, QueuedOwn, leaves_summary, fine_summary, no_close}
use Rattle.pg_wire.proofs.Each.{each_join}
use Rattle.pg_conn.proofs.OwedLaws.{spelled-append, counts-append, no_groups}

-- ---- the summary of an end

and_true : (b : Bool) → b ≡ b && true
and_true true = refl
and_true false = refl

nothing_done : (start : Ledger) (r : Request) (said : List FrontendMessage) (hs : List Frame) (ledger : Ledger) → said ≡ [] → hs ≡ [] → ledger ≡ start → Summary start r said hs [] ledger false
nothing_done start r said hs ledger s h l = record {
  own = [];
  reply = [];
  said_is = rw (s, h, before_nil start.owed) refl;
  counted = rw (h, l) (omega arith);
  failed_is = λ o. rw (h, l) (and_true start.is_copy_failed);
  queued = inl refl;
  replied = refl;
  reply_has_frames = tt;
  shows = (shown (kind_of r) [], refl);
  rests = λ z. rw h (after_nil (start.owed + 0));
}

-- why a lookup fails: for want of memory, since types aren't there, or by a row of a catalog that isn't one
abbrev pub IsLookError : Error → Type 0
IsLookError e = (e ≡ errors.OutOfMemory) ⊎ (((oids : List ℕ) × (e ≡ unresolved oids)) ⊎ (((place : ℕ) × (e ≡ errors.ColumnDecode place)) ⊎ ((name : List ℕ) × (e ≡ errors.TypeNotFound name))))

seeking_errors : (seeking : Seeking) (e : Error) → FailsSeeking seeking e → IsLookError e
seeking_errors (seekings.Types s) e (asked, (inl memory, some)) = inl memory
seeking_errors (seekings.Types s) e (asked, (inr types, some)) = inr (inl (keys_of s.waiting, types))
seeking_errors seekings.Nothing e h = absurd h
seeking_errors (seekings.Names asked) e h = absurd h

no_row_errors : (columns : List Column) (values : Values) (e : Error) → IsNoRow columns values e → IsLookError e
no_row_errors columns values e (inl memory) = inl memory
no_row_errors columns values e (inr (place, is, unread)) = inr (inr (inl (place, is)))

row_errors : (values : Values) (a b : Learnt) (e : Error) → TakesRow values a b (Err e) → IsLookError e
row_errors values a b e h = by a.seeking h
  where
    by : (seeking : Seeking) → TakesBy seeking values a b (Err e) → IsLookError e
    by (seekings.Types s) (tables, inl (none, same)) = no_row_errors type_columns values e none
    by (seekings.Types s) (tables, inr (row, is, sound, inl memory)) = inl memory
    by (seekings.Types s) (tables, inr (row, is, sound, inr refused)) = inr (inl (refused.0.oid ∷ [], refused.5))
    by (seekings.Names asked) (types, inl (none, same)) = no_row_errors column_columns values e none
    by (seekings.Names asked) (types, inr (row, is, kept, memory)) = inl memory
    by seekings.Nothing (same, okay) = absurd cc

missed_errors : (missing : Option (List ℕ)) (e : Error) → RefusesType missing e → IsLookError e
missed_errors missing errors.OutOfMemory h = inl refl
missed_errors missing (errors.TypeNotFound name) h = inr (inr (inr (name, refl)))
missed_errors missing _ h = absurd h

pub look_errors : (r : Request) (hs : List Frame) (learnt : Learnt) (e : Error) → LookFails r hs learnt e → IsLookError e
look_errors r hs learnt e (names, is, inl fails) = seeking_errors learnt.seeking e fails
look_errors r hs learnt e (names, is, inr (inl row)) = row_errors row.1 row.2 learnt e row.5
look_errors r hs learnt e (names, is, inr (inr misses)) = missed_errors (unknown_name learnt.types names) e misses

look_no_reply : (tag : ℕ) → IsLookError (errors.Protocol (protocol.Reply tag)) → ⊥
look_no_reply tag (inl e) = cc
look_no_reply tag (inr (inl (oids, e))) = cc
look_no_reply tag (inr (inr (inl (place, e)))) = cc
look_no_reply tag (inr (inr (inr (name, e)))) = cc

fails_plainly : (a b : ConnSeen) (start : Ledger) (r : Request) (own : List Group) (hs : List Frame) (e : Error) → FailsBy a b start r own hs e → refuses_copy (ends.Err e) ≡ false
fails_plainly a b start r own hs (errors.Protocol (protocol.Reply tag)) (inl h) = absurd h.0
fails_plainly a b start r own hs (errors.Protocol (protocol.Reply tag)) (inr (inl h)) = absurd h.5
fails_plainly a b start r own hs (errors.Protocol (protocol.Reply tag)) (inr (inr h)) = absurd (look_no_reply tag (look_errors r hs b.learnt (errors.Protocol (protocol.Reply tag)) h))
fails_plainly a b start r own hs (errors.Protocol _) h = refl
fails_plainly a b start r own hs _ h = refl

-- what is shown without Ok: the items of the summary, or none
abbrev pub ShowsItems : End → List Item → List CallItem → Type 0
ShowsItems end shown items = MatchBool (is_fine end) (Unit {0}) ((shown ≡ map item_of items) ⊎ (shown ≡ []))

abbrev pub HasSummary : Ledger → Request → List FrontendMessage → List Frame → Ledger → End → List Item → Type 0
HasSummary start r said hs ledger end shown = (items : List CallItem) × Summary start r said hs items ledger (refuses_copy end) × ShowsItems end shown items

end_summary : (start : Ledger) (d : ℕ) (call : Call) (said : List FrontendMessage) (hs : List Frame) (items : List CallItem) (ledger : Ledger) (shown : List Item) (e : Error) → shown ≡ map item_of items → CallEnds start (request_of d call) said hs items ledger (Err e)
    → HasSummary start (request_of d call) said hs ledger (ends.Err e) shown
end_summary start d call said hs items ledger shown errors.RowNotFound k h = (items, (fine_summary start d call said hs items ledger h.0).0, inl k)
end_summary start d call said hs items ledger shown (errors.BeginFailed status) k h = (items, (fine_summary start d call said hs items ledger h.0).0, inl k)
end_summary start d call said hs items ledger shown (errors.Database details) k h = (items, leaves_summary start d call said hs items ledger false h.0, inl k)
end_summary start d call said hs items ledger shown (errors.Protocol (protocol.Reply tag)) k h = (items, leaves_summary start d call said hs items ledger (tag == 71) h.0.0, inl k)
end_summary start d call said hs items ledger shown (errors.Protocol (protocol.Caller fault)) k h = ([], nothing_done start (request_of d call) said hs ledger h.0 h.1 h.3, inr (k ∙ ap (map item_of) h.2))
end_summary start d call said hs items ledger shown (errors.Protocol _) k h = absurd h
end_summary start d call said hs items ledger shown _ k h = absurd h

pub ends_summary : (o : Option ServerFault) (limits : Bounds) (first : StreamSeen) (a b : ConnSeen) (d : ℕ) (call : Call) (said : List FrontendMessage) (hs : List Frame) (shown : List Item) (end : End) → EndsOn o limits first a b (request_of d call) said hs shown end
    → HasSummary a.ledger (request_of d call) said hs b.ledger end shown
ends_summary None limits first a b d call said hs shown (ends.Ok told) h = (h.0, (fine_summary a.ledger d call said hs h.0 b.ledger h.5.0).0, tt)
ends_summary None limits first a b d call said hs shown (ends.Err e) (inl (items, k, l, inl h)) = end_summary a.ledger d call said hs items b.ledger shown e k h
ends_summary None limits first a b d call said hs shown (ends.Err e) (inl (items, k, l, inr (left, well, fails))) =
    (items, rw (fails_plainly a b a.ledger (request_of d call) left.own hs e fails) (leaves_summary a.ledger d call said hs items b.ledger false left), inl k)
ends_summary None limits first a b d call said hs shown (ends.Err e) (inr (items, k, z, f)) = rw z (items, (fine_summary a.ledger d call said hs items b.ledger f).0, inr k)
ends_summary None limits first a b d call said hs shown ends.Dropped h = (h.0, leaves_summary a.ledger d call said hs h.0 b.ledger false h.2, inl h.1)
ends_summary (Some fault) limits first a b d call said hs shown end h = rw h.0 ([], nothing_done a.ledger (request_of d call) said hs b.ledger h.1 h.2 (ap (λ (c : ConnSeen). c.ledger) h.4), inr h.3)

-- ---- what was queued

pub owed_is : (start : StreamSeen) (at : Place) (a : ConnSeen) → StandsAt start at a → owed at ≡ a.ledger.owed
owed_is start at a st = omega (arith, st.ledger)

fails_at : (start : StreamSeen) (at : Place) (a : ConnSeen) (hs : List Frame) → StandsAt start at a → drain_fails a.ledger.is_copy_failed (before_readys a.ledger.owed hs) ≡ replicate (unfed at.is_copy_failed (drained at hs)) copy_fail
fails_at start at a hs st =
    fails_count a.ledger.is_copy_failed a.ledger.owed hs
    ∙ ap (λ (k : ℕ). replicate (unfed a.ledger.is_copy_failed (take k (parts hs))) copy_fail) (sym (owed_is start at a st))
    ∙ by a.ledger.owed refl
  where
    by : (p : ℕ) → a.ledger.owed ≡ p → replicate (unfed a.ledger.is_copy_failed (drained at hs)) copy_fail ≡ replicate (unfed at.is_copy_failed (drained at hs)) copy_fail
    by zero e =
        let none : drained at hs ≡ [] = ap (λ (k : ℕ). take k (parts hs)) (owed_is start at a st ∙ e) in
        ap (λ (xss : List (List Frame)). replicate (unfed a.ledger.is_copy_failed xss) copy_fail) none ∙ unfed_none a.ledger.is_copy_failed at.is_copy_failed ∙ ap (λ (xss : List (List Frame)). replicate (unfed at.is_copy_failed xss) copy_fail) (sym none)
      where
        unfed_none : (x y : Bool) → replicate (unfed x []) copy_fail ≡ replicate (unfed y []) copy_fail
        unfed_none true true = refl
        unfed_none true false = refl
        unfed_none false true = refl
        unfed_none false false = refl
    by (suc n) e = ap (λ (b : Bool). replicate (unfed b (drained at hs)) copy_fail) (st.failed (omega (arith, e)))

pub said_is_queued : (start : StreamSeen) (at : Place) (a : ConnSeen) (r : Request) (said : List FrontendMessage) (hs : List Frame) (items : List CallItem) (ledger : Ledger) (end : End) → StandsAt start at a → (s : Summary a.ledger r said hs items ledger (refuses_copy end))
    → said ≡ queued_by at s.own hs end
said_is_queued start at a r said hs items ledger end st s =
    s.said_is ∙ ap (λ (f : List FrontendMessage). (f ++ said_in s.own) ++ fails_of (refuses_copy end)) (fails_at start at a hs st)

-- ---- the next place

abbrev pub next_place : Place → ConnSeen → List FrontendMessage → List Group → List Frame → End → Place
next_place at b said own fs end = record { seen = b.stream; said = at.said ++ said; groups = at.groups ++ own; frames = at.frames ++ fs; is_copy_failed = failed_next at own (heard fs) end; broken = broken_after at.broken end; rule = at.rule; learnt = b.learnt; has_failed = at.has_failed }

pub readies-append : (xs ys : List Frame) → readies (xs ++ ys) ≡ readies xs + readies ys
readies-append xs ys = sum_by-append (λ (y : Frame). cond (is_ready y) 1 0) xs ys

pub ended_next : (at : Place) (fs : List Frame) → readies (heard (at.frames ++ fs)) ≡ ended at + readies (heard fs)
ended_next at fs = ap readies (heard-append at.frames fs) ∙ readies-append (heard at.frames) (heard fs)

pub all_split : {A : Type 0} (P : A → Type 0) (xs ys : List A) → AllByRecursion P (xs ++ ys) → AllByRecursion P xs × AllByRecursion P ys
all_split P [] ys h = (tt, h)
all_split P (x ∷ xs) ys h = let r = all_split P xs ys h.1 in ((h.0, r.0), r.1)

pub fails_said : (n : ℕ) → AllByRecursion HasFrontendFrame (replicate n copy_fail)
fails_said zero = tt
fails_said (suc n) = (copy_fail_said, fails_said n)
  where
    copy_fail_said : HasFrontendFrame copy_fail
    copy_fail_said = search

last_said : (b : Bool) → AllByRecursion HasFrontendFrame (fails_of b)
last_said true = fails_said 1
last_said false = tt

own_said : (p : ℕ) (d : ℕ) (call : Call) (own : List Group) (hs : List Frame) → (own ≡ []) ⊎ QueuedOwn p (request_of d call) own hs → AllByRecursion HasFrontendFrame (said_in own)
own_said p d call own hs (inl e) = rw e tt
own_said p d call own hs (inr q) =
    let all : messages_of (request_of d call) ≡ said_in (groups_of (request_of d call)) = ap (λ (b : List FrontendMessage). said_in (groups_of (request_of d call)) ++ b) (no_close d call) ∙ append-nil _ in
    rw q.own_is (subst (AllByRecursion HasFrontendFrame) all q.can.0)

-- a group that closes statements
closing_group : (names : List (List ℕ)) → IsGroup (closing names)
closing_group names = inr (map CloseStatement names, inner names, refl)
  where
    inner : (names : List (List ℕ)) → AllByRecursion IsInner (map CloseStatement names)
    inner [] = tt
    inner (name ∷ names) = (tt, inner names)

pub plain_asked : (d : ℕ) (call : Call) → is_fed call ≡ false → AllByRecursion IsGroup (groups_of (request_of d call))
plain_asked d (calls.Execute query) n = (inl (query.sql, refl), tt)
plain_asked d (calls.ExecuteMany query) n = (inl (query.sql, refl), tt)
plain_asked d (calls.Fetch query) n = (inl (query.sql, refl), tt)
plain_asked d (calls.FetchMany query) n = (inl (query.sql, refl), tt)
plain_asked d (calls.FetchAll query) n = (inl (query.sql, refl), tt)
plain_asked d (calls.FetchOptional query) n = (inl (query.sql, refl), tt)
plain_asked d (calls.FetchOne query) n = (inl (query.sql, refl), tt)
plain_asked d calls.Ping n = (inr ([], tt, refl), tt)
plain_asked d (calls.CopyOut query) n = (inl (query.sql, refl), tt)
plain_asked d calls.Flush n = tt
plain_asked d (calls.Chain chain) n = tt
plain_asked d calls.Begin n = (inl (begin_text None d, refl), tt)
plain_asked d (calls.BeginWith query) n = (inl (query.sql, refl), tt)
plain_asked zero calls.Commit n = tt
plain_asked (suc left) calls.Commit n = (inl (commit_text left, refl), tt)
plain_asked zero calls.Rollback n = tt
plain_asked (suc left) calls.Rollback n = (inl (rollback_text left, refl), tt)
plain_asked d calls.StartRollback n = tt
plain_asked d (calls.Release text) n = tt
plain_asked d (calls.Describe extended) n = (inr (Parse (name_of extended.statement) extended.sql extended.arguments.types ∷ DescribeStatement (name_of extended.statement) ∷ [], (tt, (tt, tt)), refl), tt)
plain_asked d (calls.Run bound) n = (by bound.again, tt)
  where
    by : (again : Option (List ℕ)) → IsGroup (parsing_by (name_of bound.statement) bound.arguments.types again ++ running (name_of bound.statement) bound.arguments.values 0)
    by None = inr (Bind (name_of bound.statement) bound.arguments.values ∷ Execute [] 0 ∷ ClosePortal [] ∷ [], (tt, (tt, (tt, tt))), refl)
    by (Some sql) = inr (Parse (name_of bound.statement) sql bound.arguments.types ∷ Bind (name_of bound.statement) bound.arguments.values ∷ Execute [] 0 ∷ ClosePortal [] ∷ [], (tt, (tt, (tt, (tt, tt)))), refl)
plain_asked d (calls.Prepare preparation) n = tt
plain_asked d calls.Clear n = tt
plain_asked d (calls.Evict eviction) n = (closing_group (name_of eviction.statement ∷ []), tt)
plain_asked d (calls.Look lookup) n = (inl (lookup.text, refl), tt)
plain_asked d (calls.Fill filling) n = (inl (filling.text, refl), tt)
plain_asked d (calls.Tell prepared) n = tt
plain_asked d (calls.CloseAll statements) n = (closing_group (map name_of statements), tt)
plain_asked d (calls.Feed fed) n = absurd cc

-- those are request groups, and a copy from the client is one
widened : (groups : List Group) → AllByRecursion IsGroup groups → AllByRecursion IsRequestGroup groups
widened [] h = tt
widened (g ∷ gs) h = (inl h.0, widened gs h.1)

fed_or_plain : (call : Call) → ((fed : Fed) × (call ≡ calls.Feed fed)) ⊎ (is_fed call ≡ false)
fed_or_plain (calls.Feed fed) = inl (fed, refl)
fed_or_plain _ = inr refl

groups_asked : (d : ℕ) (call : Call) → AllByRecursion IsRequestGroup (groups_of (request_of d call))
groups_asked d call = elim (fed_or_plain call) [
  | inl x ↦ subst (λ (c : Call). AllByRecursion IsRequestGroup (groups_of (request_of d c))) (sym x.1) (inr (feed_of x.0, refl), tt)
  | inr n ↦ widened (groups_of (request_of d call)) (plain_asked d call n)
]

pub own_groups : (p : ℕ) (d : ℕ) (call : Call) (own : List Group) (hs : List Frame) → (own ≡ []) ⊎ QueuedOwn p (request_of d call) own hs → AllByRecursion IsRequestGroup own
own_groups p d call own hs (inl e) = rw e tt
own_groups p d call own hs (inr q) = rw q.own_is (groups_asked d call)

-- a call that was asked to copy heard so
copied_heard : (hs front : List Frame) (m : BackendMessage) (tag : ℕ) → hs ≡ front ++ backend_frame m ∷ [] → tag ≡ (backend_frame m).tag → AsksForNoCopy hs → tag == 71 ≡ false
copied_heard hs front m tag e t h =
    let last = (all_split (λ frame. is_copy_in frame ≡ false) front (backend_frame m ∷ []) (subst AsksForNoCopy e h)).1.0 in
    ap (λ (n : ℕ). n == 71) t ∙ only ((backend_frame m).tag == 71) last
  where
    only : (b : Bool) → b || false ≡ false → b ≡ false
    only true k = k
    only false k = refl

end_copies : (start : Ledger) (r : Request) (said : List FrontendMessage) (hs : List Frame) (items : List CallItem) (ledger : Ledger) (e : Error) → CallEnds start r said hs items ledger (Err e) → AsksForNoCopy hs → refuses_copy (ends.Err e) ≡ false
end_copies start r said hs items ledger (errors.Protocol (protocol.Reply tag)) h n = copied_heard hs h.2.front h.2.last tag h.2.hs_are h.2.tagged n
end_copies start r said hs items ledger (errors.Protocol _) h n = refl
end_copies start r said hs items ledger _ h n = refl

pub never_copies : (o : Option ServerFault) (limits : Bounds) (first : StreamSeen) (a b : ConnSeen) (r : Request) (said : List FrontendMessage) (hs : List Frame) (shown : List Item) (end : End) → EndsOn o limits first a b r said hs shown end → AsksForNoCopy hs → refuses_copy end ≡ false
never_copies None limits first a b r said hs shown (ends.Ok told) h n = refl
never_copies None limits first a b r said hs shown (ends.Err e) (inl (items, k, l, inl h)) n = end_copies a.ledger r said hs items b.ledger e h n
never_copies None limits first a b r said hs shown (ends.Err e) (inl (items, k, l, inr (left, well, fails))) n = fails_plainly a b a.ledger r left.own hs e fails
never_copies None limits first a b r said hs shown (ends.Err e) (inr (items, k, z, f)) n = rw z refl
never_copies None limits first a b r said hs shown ends.Dropped h n = refl
never_copies (Some fault) limits first a b r said hs shown end h n = rw h.0 refl

plain_next : (start : StreamSeen) (at : Place) (a : ConnSeen) (r : Request) (said : List FrontendMessage) (fs : List Frame) (items : List CallItem) (ledger : Ledger) (end : End) → StandsAt start at a → (s : Summary a.ledger r said (heard fs) items ledger (refuses_copy end))
    → (AsksForNoCopy (heard fs) → refuses_copy end ≡ false) → AsksForNoCopy (heard (at.frames ++ fs)) → at.has_failed ≡ false → at.said ++ said ≡ said_in (at.groups ++ s.own)
plain_next start at a r said fs items ledger end st s never h n =
    let both = all_split (λ frame. is_copy_in frame ≡ false) (heard at.frames) (heard fs) (subst AsksForNoCopy (heard-append at.frames fs) h) in
    let fails = fails_none a.ledger.is_copy_failed a.ledger.owed (heard fs) both.1 in
    let alone : said ≡ said_in s.own = s.said_is ∙ ap (λ (f : List FrontendMessage). (f ++ said_in s.own) ++ fails_of (refuses_copy end)) fails ∙ ap (λ (b : Bool). said_in s.own ++ fails_of b) (never both.1) ∙ append-nil (said_in s.own) in
    ap (λ (x : List FrontendMessage). x ++ said) (st.plain both.0 n) ∙ ap (λ (x : List FrontendMessage). said_in at.groups ++ x) alone ∙ sym (flat_map-append (λ g. g) at.groups s.own)

failed_here : (start : StreamSeen) (at : Place) (a : ConnSeen) (own : List Group) (hs : List Frame) (end : End) (ledger : Ledger) → StandsAt start at a → count_by is_ready hs + ledger.owed ≡ a.ledger.owed + length own → 0 < ledger.owed
    → ledger.is_copy_failed ≡ owner_failed a.ledger hs own (refuses_copy end) → ledger.is_copy_failed ≡ failed_next at own hs end
failed_here start at a [] hs end ledger st c o f = f ∙ ap (λ (b : Bool). b && not (list_any is_ready hs)) (st.failed (omega (arith, c, o)))
failed_here start at a (g ∷ gs) hs end ledger st c o f = f

between_next : (start : StreamSeen) (at : Place) (a : ConnSeen) (own : List Group) (fs : List Frame) → StandsAt start at a → after_readys (length (at.groups ++ own)) (heard (at.frames ++ fs)) ≡ after_readys (a.ledger.owed + length own) (heard fs)
between_next start at a own fs st =
    ap (after_readys (length (at.groups ++ own))) (heard-append at.frames fs)
    ∙ after_more (heard at.frames) (heard fs) (length (at.groups ++ own)) (a.ledger.owed + length own) (omega (arith, st.ledger, length-append at.groups own))
    (λ z. let n : length (at.groups ++ own) ≡ length at.groups = omega (arith, z, length-append at.groups own) in ap (λ (k : ℕ). after_readys k (heard at.frames)) n ∙ st.between (omega (arith, z)))

-- ---- Query and Sync messages, one in each group

pub requests_failed : (n : ℕ) → count_by ends_request (replicate n copy_fail) ≡ 0
requests_failed zero = refl
requests_failed (suc n) = omega (arith, counts-append (copy_fail ∷ []) (replicate n copy_fail), no_groups true, requests_failed n)

requests_closing : (names : List (List ℕ)) → count_by ends_request (said_in (closing names ∷ [])) ≡ 1
requests_closing names = ap (λ (m : List FrontendMessage). count_by ends_request m) (append-nil (closing names)) ∙ one names
  where
    one : (names : List (List ℕ)) → count_by ends_request (closing names) ≡ 1
    one [] = refl
    one (name ∷ names) = omega (arith, counts-append (CloseStatement name ∷ []) (closing names), one names)

requests_data : (pieces : List (List ℕ)) (ended : Bool) → count_by ends_request (map CopyData pieces ++ ended_by ended) ≡ 0
requests_data [] true = refl
requests_data [] false = refl
requests_data (piece ∷ pieces) ended = omega (arith, counts-append (CopyData piece ∷ []) (map CopyData pieces ++ ended_by ended), requests_data pieces ended)

requests_fed : (fed : Fed) → count_by ends_request (said_in (feeding (feed_of fed) ∷ [])) ≡ 1
requests_fed fed = ap (λ (m : List FrontendMessage). count_by ends_request m) (append-nil (feeding (feed_of fed))) ∙ one
  where
    one : count_by ends_request (feeding (feed_of fed)) ≡ 1
    one = omega (arith, counts-append (Query fed.sql ∷ []) (map CopyData fed.pieces ++ ended_by fed.is_ended), requests_data fed.pieces fed.is_ended)

requests_asked : (d : ℕ) (call : Call) → count_by ends_request (said_in (groups_of (request_of d call))) ≡ length (groups_of (request_of d call))
requests_asked d (calls.Execute query) = refl
requests_asked d (calls.ExecuteMany query) = refl
requests_asked d (calls.Fetch query) = refl
requests_asked d (calls.FetchMany query) = refl
requests_asked d (calls.FetchAll query) = refl
requests_asked d (calls.FetchOptional query) = refl
requests_asked d (calls.FetchOne query) = refl
requests_asked d calls.Ping = refl
requests_asked d (calls.CopyOut query) = refl
requests_asked d calls.Flush = refl
requests_asked d (calls.Chain chain) = refl
requests_asked d calls.Begin = refl
requests_asked d (calls.BeginWith query) = refl
requests_asked zero calls.Commit = refl
requests_asked (suc left) calls.Commit = refl
requests_asked zero calls.Rollback = refl
requests_asked (suc left) calls.Rollback = refl
requests_asked d calls.StartRollback = refl
requests_asked d (calls.Release text) = refl
requests_asked d (calls.Describe extended) = refl
requests_asked d (calls.Run bound) = by bound.again
  where
    by : (again : Option (List ℕ)) → count_by ends_request (said_in ((parsing_by (name_of bound.statement) bound.arguments.types again ++ running (name_of bound.statement) bound.arguments.values 0) ∷ [])) ≡ 1
    by None = refl
    by (Some sql) = refl
requests_asked d (calls.Prepare preparation) = refl
requests_asked d calls.Clear = refl
requests_asked d (calls.Evict eviction) = requests_closing (name_of eviction.statement ∷ [])
requests_asked d (calls.Look lookup) = refl
requests_asked d (calls.Fill filling) = refl
requests_asked d (calls.Tell prepared) = refl
requests_asked d (calls.CloseAll statements) = requests_closing (map name_of statements)
requests_asked d (calls.Feed fed) = requests_fed fed

pub requests_own : (p : ℕ) (d : ℕ) (call : Call) (own : List Group) (hs : List Frame) → (own ≡ []) ⊎ QueuedOwn p (request_of d call) own hs → count_by ends_request (said_in own) ≡ length own
requests_own p d call own hs (inl e) = rw e refl
requests_own p d call own hs (inr q) = rw q.own_is (requests_asked d call)

requests_next : (start : StreamSeen) (at : Place) (a : ConnSeen) (d : ℕ) (call : Call) (said : List FrontendMessage) (hs : List Frame) (items : List CallItem) (ledger : Ledger) (end : End) → StandsAt start at a → (s : Summary a.ledger (request_of d call) said hs items ledger (refuses_copy end))
    → count_by ends_request (at.said ++ said) ≡ length (at.groups ++ s.own)
requests_next start at a d call said hs items ledger end st s =
    let fails : List FrontendMessage = replicate (unfed at.is_copy_failed (drained at hs)) copy_fail in
    let all = ap (λ (m : List FrontendMessage). count_by ends_request m) (said_is_queued start at a (request_of d call) said hs items ledger end st s) in
    let parts = counts-append (fails ++ said_in s.own) (fails_of (refuses_copy end)) in
    let front = counts-append fails (said_in s.own) in
    omega (arith, counts-append at.said said, st.requests, length-append at.groups s.own, all, parts, front, requests_failed (unfed at.is_copy_failed (drained at hs)), requests_own a.ledger.owed d call s.own hs s.queued, no_groups (refuses_copy end))

-- the numbers of the last call are no matter
pub flows_from : (start s t : StreamSeen) (q : List ℕ) (fs : List Frame) → s ≡ t → Flows start s q fs → Flows start t q fs
flows_from start s t q fs e f = subst (λ (x : StreamSeen). Flows start x q fs) e f

pub stands_next : (start : StreamSeen) (at : Place) (a b : ConnSeen) (d : ℕ) (call : Call) (said : List FrontendMessage) (fs : List Frame) (items : List CallItem) (end : End) → StandsAt start at a → (s : Summary a.ledger (request_of d call) said (heard fs) items b.ledger (refuses_copy end))
    → Flows a.stream b.stream (spelled said) fs → b.broken ≡ broken_after a.broken end → b.call ≡ states.Idle → b.rule ≡ a.rule → HasAllRoom b → (AsksForNoCopy (heard fs) → refuses_copy end ≡ false) → StandsAt start (next_place at b said s.own fs end) b
stands_next start at a b d call said fs items end st s flows broken idle rule room never = record {
  flows = subst (λ (q : List ℕ). Flows start b.stream q (at.frames ++ fs)) (sym (spelled-append at.said said)) (Flows-then start a.stream b.stream (spelled at.said) (spelled said) at.frames fs st.flows flows);
  ledger = omega (arith, st.ledger, s.counted, ended_next at fs, length-append at.groups s.own);
  failed = λ o. failed_here start at a s.own (heard fs) end b.ledger st s.counted o (s.failed_is o);
  broken = broken ∙ ap (λ (o : Option ServerFault). broken_after o end) st.broken;
  seen = refl;
  rule = rule ∙ st.rule;
  learnt = refl;
  room = room;
  idle = idle;
  sayable = each_join HasFrontendFrame at.said said st.sayable (subst (AllByRecursion HasFrontendFrame) (sym (said_is_queued start at a (request_of d call) said (heard fs) items b.ledger end st s))
      (each_join HasFrontendFrame _ _ (each_join HasFrontendFrame _ _ (fails_said (unfed at.is_copy_failed (drained at (heard fs)))) (own_said a.ledger.owed d call s.own (heard fs) s.queued)) (last_said (refuses_copy end))));
  are_groups = each_join IsRequestGroup at.groups s.own st.are_groups (own_groups a.ledger.owed d call s.own (heard fs) s.queued);
  between = λ z. between_next start at a s.own fs st ∙ s.rests z;
  plain = plain_next start at a (request_of d call) said fs items b.ledger end st s never;
  requests = requests_next start at a d call said (heard fs) items b.ledger end st s;
}
