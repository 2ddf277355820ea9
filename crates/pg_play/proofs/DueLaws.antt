-- Ends of a step that are due.
use Rattle.std.proofs.Common.{◌≡◌, ◌≢◌, ℕ, zero, suc, ◌^◌, ◌≤◌, ◌<◌, Bool, true, false, ◌&&◌, ◌⊎◌, inl, inr, List, [], ◌++◌, length, map, refl, sym, ap, ap₂, ◌∙◌, subst, arith, append-nil, Option, Some, None}
use Rattle.std.specs.List.{count_by}
use Rattle.std.proofs.lemmas.List.{length-map, nil_from_length}
use Rattle.pg_wire.specs.declared.error.Error.TheVariants as errors
use Rattle.pg_wire.specs.declared.error.Error.{Error}
use Rattle.pg_wire.specs.declared.error.ProtocolFault.TheVariants as protocol
use Rattle.pg_wire.specs.declared.error.ServerFault.{ServerFault}
use Rattle.pg_wire.specs.Frame.{Frame}
use Rattle.pg_wire.specs.Parts.{heard, is_ready}
use Rattle.pg_wire.specs.Frontend.{FrontendMessage}
use Rattle.pg_stream.specs.Streams.{StreamSeen}
use Rattle.pg_request.specs.declared.progress.CacheStep.{CacheStep}
use Rattle.pg_request.specs.declared.progress.CacheStep.TheVariants as cache
use Rattle.pg_call.specs.declared.request.Request.{Request}
use Rattle.pg_call.specs.declared.request.Request.TheVariants as requests
use Rattle.pg_call.specs.declared.ledger.Ledger.{Ledger}
use Rattle.pg_call.specs.declared.answer.CallItem.{CallItem}
use Rattle.pg_call.specs.Requests.{Group, groups_of, CanBeSaid, IsRefusal}
use Rattle.pg_call.proofs.DrainLaws.{before_nil}
use Rattle.pg_conn.specs.Connections.{ConnSeen, idle}
use Rattle.pg_conn.specs.Turns.{is_flushed}
use Rattle.pg_report.specs.declared.outcome.Item.{Item}
use Rattle.pg_report.specs.declared.outcome.Answer.TheVariants.{Unit as AnswersUnit}
use Rattle.pg_report.specs.declared.outcome.End.{End}
use Rattle.pg_report.specs.declared.outcome.End.TheVariants as ends
use Rattle.pg_report.specs.declared.outcome.Outcome.{Outcome}
use Rattle.pg_script.specs.declared.step.Call.TheVariants as calls
use Rattle.pg_script.specs.declared.step.Step.{Step}
use Rattle.pg_script.specs.declared.step.Parting.{Parting}
use Rattle.pg_script.specs.declared.step.Parting.TheVariants as partings
use Rattle.pg_play.specs.Shown.{parting_of, request_of, waits_to_show, item_of}
use Rattle.pg_play.specs.Calls.{Bounds, WaitsFew, HasWaitedFew, StaysIdle, EndsOn, Ended, IsUnpolled, limits_of, HandedOn, untouched, outcome_of, broken_after, begun_call, all_groups}
use Rattle.pg_play.specs.Places.{Place, ended, owed, is_fine, refuses_copy}
use Rattle.pg_learning.specs.declared.learnt.Learnt.{Learnt}
use Rattle.pg_play.specs.Causes.{AnsweredPending, IsDropped, IsDroppedAs, StaysAt, EndsDuly, OpensSavepoint}
use Rattle.pg_play.specs.Plays.{StandsAt}
use Rattle.pg_play.proofs.StepLaws.{Summary, QueuedOwn}
use Rattle.pg_call.proofs.RefusalLaws.{IsCallers, refusal_is}
use Rattle.pg_play.proofs.PlaceLaws.{next_place}
use Rattle.pg_play.proofs.CauseLaws.{pending_in}
use Rattle.pg_play.proofs.ShownLaws.{no_items_come}

-- ---- ends that are due

abbrev pub WithinMost : End → List Item → ℕ → Type 0
WithinMost end shown most = (end ≢ ends.Dropped → length shown < most) × (length shown ≤ most)

within_none : (end : End) (shown : List Item) (most : ℕ) → shown ≡ [] → 0 < most → WithinMost end shown most
within_none end shown most e m = let z : length shown ≡ 0 = ap (λ (x : List Item). length x) e in (λ n. omega (arith, z, m), omega (arith, z))

pub most_by : (d : ℕ) (o : Option ServerFault) (limits : Bounds) (first : StreamSeen) (a b : ConnSeen) (step : Step) (said : List FrontendMessage) (hs : List Frame) (shown : List Item) (end : End) → waits_to_show step.call ≡ false → 0 < limits.most → EndsOn o limits first a b (request_of d step.call) said hs shown end
    → WithinMost end shown limits.most
most_by d None limits first a b step said hs shown (ends.Ok told) w m h =
    let plain = h.2 ∙ no_items_come d step.call h.5.0.reply h.5.0.status h.1 (map item_of h.0) w h.5.1 in
    let size : length shown ≡ length h.0 = ap (λ (x : List Item). length x) plain ∙ length-map h.0 item_of in
    (λ n. omega (arith, size, h.3), omega (arith, size, h.3))
most_by d None limits first a b step said hs shown (ends.Err e) w m (inl (items, k, l, h)) = (λ n. l, omega (arith, l))
most_by d None limits first a b step said hs shown (ends.Err e) w m (inr (items, k, z, f)) = within_none (ends.Err e) shown limits.most k m
most_by d None limits first a b step said hs shown ends.Dropped w m h = (λ n. absurd (n refl), h.5)
most_by d (Some fault) limits first a b step said hs shown end w m h = within_none end shown limits.most h.3 m

same_place : (at : Place) (seen : StreamSeen) (said : List FrontendMessage) (groups : List Group) (frames : List Frame) (failed : Bool) (broken : Option ServerFault) (learnt : Learnt) (seen' : StreamSeen)
    → seen ≡ seen' → said ≡ at.said → groups ≡ at.groups → frames ≡ at.frames → failed ≡ at.is_copy_failed → broken ≡ at.broken → learnt ≡ at.learnt
    → record { seen = seen; said = said; groups = groups; frames = frames; is_copy_failed = failed; broken = broken; rule = at.rule; learnt = learnt; has_failed = at.has_failed } ≡ record at { seen = seen' }
same_place at seen said groups frames failed broken learnt seen' a b c d e f g = rw (a, b, c, d, e, f, g) refl

pub and_true : (b : Bool) → b && true ≡ b
and_true true = refl
and_true false = refl

-- a step that queues and takes nothing
pub still_place : (at : Place) (b : ConnSeen) (said : List FrontendMessage) (own : List Group) (fs : List Frame) (end : End) (seen : StreamSeen) → b.stream ≡ seen → said ≡ [] → own ≡ [] → fs ≡ [] → broken_after at.broken end ≡ at.broken → b.learnt ≡ at.learnt → next_place at b said own fs end ≡ record at { seen = seen }
still_place at b said own fs end seen x s o f k l =
    rw (o, f, s) (same_place at b.stream (at.said ++ []) (at.groups ++ []) (at.frames ++ []) (at.is_copy_failed && true) (broken_after at.broken end) b.learnt seen x (append-nil at.said) (append-nil at.groups) (append-nil at.frames) (and_true at.is_copy_failed) k l)

pub same_outcome : (items : List Item) (end end' : End) (groups heard waits moved : ℕ) → items ≡ [] → end ≡ end' → groups ≡ 0 → heard ≡ 0 → waits ≡ 0 → moved ≡ 0
    → record { items = items; end = end; groups = groups; heard = heard; cache = cache.Same; waits = waits; moved = moved } ≡ untouched end'
same_outcome items end end' groups heard waits moved a b c d e f = rw (a, b, c, d, e, f) refl

-- the numbers of a call that did nothing
untouched_by : (b : ConnSeen) (out : Outcome) (end : End) → out ≡ outcome_of b out.items out.end → out.items ≡ [] → out.end ≡ end → (all_groups b ≡ 0) × (b.heard ≡ 0) × (b.stream.waits ≡ 0) × (b.stream.moves ≡ 0) × (b.cache ≡ cache.Same) → out ≡ untouched end
untouched_by b out end k i e n = k ∙ ap (λ (s : CacheStep). record (outcome_of b out.items out.end) { cache = s }) n.4 ∙ same_outcome out.items out.end end (all_groups b) b.heard b.stream.waits b.stream.moves i e n.0 n.1 n.2 n.3

-- what a step on a broken connection leaves
kept_place : (start : StreamSeen) (at : Place) (a b : ConnSeen) (r : Request) (said : List FrontendMessage) (own : List Group) (fs : List Frame) (end : End) (fault : ServerFault) → StandsAt start at a → at.broken ≡ Some fault → said ≡ [] → own ≡ [] → fs ≡ [] → idle b ≡ idle (begun_call r a)
    → next_place at b said own fs end ≡ record at { seen = record at.seen { waits = b.stream.waits; moves = b.stream.moves } }
kept_place start at a b r said own fs end fault st w s o f i =
    still_place at b said own fs end (record at.seen { waits = b.stream.waits; moves = b.stream.moves }) seen s o f (still at.broken w) (ap (λ (c : ConnSeen). c.learnt) i ∙ st.learnt)
  where
    stream : b.stream ≡ record a.stream { waits = 0; moves = 0 }
    stream = ap (λ (c : ConnSeen). c.stream) i

    seen : b.stream ≡ record at.seen { waits = b.stream.waits; moves = b.stream.moves }
    seen = rw (stream, st.seen) refl

    still : (o : Option ServerFault) → o ≡ Some fault → broken_after o end ≡ o
    still None e = absurd cc
    still (Some g) e = refl

pub kept_own : (a b : ConnSeen) (r : Request) (said : List FrontendMessage) (hs : List Frame) (items : List CallItem) (copied : Bool) → (s : Summary a.ledger r said hs items b.ledger copied) → hs ≡ [] → b.ledger.owed ≡ a.ledger.owed → s.own ≡ []
kept_own a b r said hs items copied s e o = nil_from_length s.own (omega (arith, s.counted, o, ap (λ (x : List Frame). count_by is_ready x) e))

pub some_of : (n : ℕ) → (n ≡ 0 → ⊥) → 0 < n
some_of zero none = absurd (none refl)
some_of (suc n) none = omega arith

pub polled_most : (step : Step) → (IsUnpolled step → ⊥) → 0 < step.most
polled_most step n = some_of step.most (λ e. n (inr e))

-- ---- a request that no frame can say

-- a refusal is no copy, and no fault of the server
callers_plain : (e : Error) → IsCallers e → (refuses_copy (ends.Err e) ≡ false) × (broken_after None (ends.Err e) ≡ None)
callers_plain e (inl m) = rw m (refl, refl)
callers_plain e (inr (fault, c)) = rw c (refl, refl)

unsaid_own : (start ledger : Ledger) (r : Request) (said : List FrontendMessage) (hs : List Frame) (items : List CallItem) (copied : Bool) → (CanBeSaid r → ⊥) → (s : Summary start r said hs items ledger copied) → s.own ≡ []
unsaid_own start ledger r said hs items copied u s = elim s.queued [
  | inl e ↦ e
  | inr q ↦ absurd (u q.can)
]

none_said : (start ledger : Ledger) (r : Request) (said : List FrontendMessage) (hs : List Frame) (items : List CallItem) (copied : Bool) → hs ≡ [] → copied ≡ false → (s : Summary start r said hs items ledger copied) → s.own ≡ [] → said ≡ []
none_said start ledger r said hs items copied h c s o = rw (o, h, c, before_nil start.owed) at s.said_is

-- a first poll that did nothing leaves the stream as it was
idle_seen : (start : StreamSeen) (r : Request) (at : Place) (a b : ConnSeen) (fs : List Frame) (shown : List Item) → StandsAt start at a → StaysIdle (begun_call r a) b fs shown → b.stream ≡ record at.seen { left = b.stream.left; waits = b.stream.waits; moves = b.stream.moves }
idle_seen start r at a b fs shown st (none, taken, same) =
    ap (λ (c : ConnSeen). record c.stream { left = b.stream.left; waits = b.stream.waits; moves = b.stream.moves }) same ∙ ap (λ (x : StreamSeen). record x { left = b.stream.left; waits = b.stream.waits; moves = b.stream.moves }) st.seen

-- where a call did nothing, nothing was counted of it
did_nothing : (r : Request) (a x : ConnSeen) → x ≡ idle (begun_call r a) → (all_groups x ≡ 0) × (x.heard ≡ 0) × (x.stream.waits ≡ 0) × (x.stream.moves ≡ 0) × (x.cache ≡ cache.Same)
did_nothing r a x same = (ap (λ (c : ConnSeen). all_groups c) same, ap (λ (c : ConnSeen). c.heard) same, ap (λ (c : ConnSeen). c.stream.waits) same, ap (λ (c : ConnSeen). c.stream.moves) same, ap (λ (c : ConnSeen). c.cache) same)

idle_outcome : (r : Request) (a b : ConnSeen) (out : Outcome) (end : End) (fs : List Frame) → out ≡ outcome_of b out.items out.end → out.end ≡ end → StaysIdle (begun_call r a) b fs out.items → out ≡ untouched end
idle_outcome r a b out end fs k e (none, taken, same) = untouched_by b out end k none e (did_nothing r a _ same)

refused_step : (start : StreamSeen) (at : Place) (a b : ConnSeen) (r : Request) (out : Outcome) (said : List FrontendMessage) (fs : List Frame) (items : List CallItem) → StandsAt start at a → at.broken ≡ None → (CanBeSaid r → ⊥) → out ≡ outcome_of b out.items out.end
    → ((e : Error) × IsRefusal r e × (out.end ≡ ends.Err e) × StaysIdle (begun_call r a) b fs out.items) → (s : Summary a.ledger r said (heard fs) items b.ledger (refuses_copy out.end))
    → (e : Error) × IsRefusal r e × (out ≡ untouched (ends.Err e)) × StaysAt at (next_place at b said s.own fs out.end)
refused_step start at a b r out said fs items st w u k (e, refuses, ended, (none, taken, same)) s = (
  e,
  refuses,
  idle_outcome r a b out (ends.Err e) fs k ended (none, taken, same),
  still_place at b said s.own fs out.end (record at.seen { left = b.stream.left; waits = b.stream.waits; moves = b.stream.moves }) (idle_seen start r at a b fs out.items st (none, taken, same))
      (none_said a.ledger b.ledger r said (heard fs) items (refuses_copy out.end) (ap heard taken) (ap refuses_copy ended ∙ plain.0) s own) own taken
      (ap (λ (o : Option ServerFault). broken_after o out.end) w ∙ ap (broken_after None) ended ∙ plain.1 ∙ sym w)
      (ap (λ (c : ConnSeen). c.learnt) same ∙ st.learnt),
)
  where
    own : s.own ≡ []
    own = unsaid_own a.ledger b.ledger r said (heard fs) items (refuses_copy out.end) u s

    plain : (refuses_copy (ends.Err e) ≡ false) × (broken_after None (ends.Err e) ≡ None)
    plain = callers_plain e (refusal_is r e refuses)

-- ---- a flush with nothing to do

nothing_unsent : (a : ConnSeen) → a.ledger.owed ≡ 0 → a.stream.unsent ≡ [] → is_flushed (begun_call requests.Flush a) ≡ true
nothing_unsent a o u = rw (o, u) refl

flush_at : (start : StreamSeen) (at : Place) (a : ConnSeen) (r : Request) → StandsAt start at a → r ≡ requests.Flush → owed at ≡ 0 → at.seen.unsent ≡ [] → is_flushed (begun_call r a) ≡ true
flush_at start at a r st c o u = ap (λ (x : Request). is_flushed (begun_call x a)) c ∙ nothing_unsent a (omega (arith, o, st.ledger)) (ap (λ (x : StreamSeen). x.unsent) st.seen ∙ u)

flush_own : (p : ℕ) (r : Request) (own : List Group) (hs : List Frame) → r ≡ requests.Flush → (own ≡ []) ⊎ QueuedOwn p r own hs → own ≡ []
flush_own p r own hs e (inl n) = n
flush_own p r own hs e (inr q) = absurd (omega (arith, q.one, ap (λ (g : List Group). length g) q.own_is, ap (λ (x : Request). length (groups_of x)) e))

flushed_step : (start : StreamSeen) (at : Place) (a b : ConnSeen) (r : Request) (out : Outcome) (said : List FrontendMessage) (fs : List Frame) (items : List CallItem) → StandsAt start at a → r ≡ requests.Flush → out ≡ outcome_of b out.items out.end
    → (out.end ≡ ends.Ok AnswersUnit) × StaysIdle (begun_call r a) b fs out.items → (s : Summary a.ledger r said (heard fs) items b.ledger (refuses_copy out.end)) → (out ≡ untouched (ends.Ok AnswersUnit)) × StaysAt at (next_place at b said s.own fs out.end)
flushed_step start at a b r out said fs items st c k (ended, (none, taken, same)) s =
    let own : s.own ≡ [] = flush_own a.ledger.owed r s.own (heard fs) c s.queued in (
      idle_outcome r a b out (ends.Ok AnswersUnit) fs k ended (none, taken, same),
      still_place at b said s.own fs out.end (record at.seen { left = b.stream.left; waits = b.stream.waits; moves = b.stream.moves }) (idle_seen start r at a b fs out.items st (none, taken, same))
          (none_said a.ledger b.ledger r said (heard fs) items (refuses_copy out.end) (ap heard taken) (ap refuses_copy ended) s own) own taken
          (ap (broken_after at.broken) ended ∙ ok_breaks_none at.broken)
          (ap (λ (c : ConnSeen). c.learnt) same ∙ st.learnt),
    )
  where
    ok_breaks_none : (o : Option ServerFault) → broken_after o (ends.Ok AnswersUnit) ≡ o
    ok_breaks_none None = refl
    ok_breaks_none (Some fault) = refl

-- fewer polls waited than there were
pub few_of : (first : StreamSeen) (b : ConnSeen) (step : Step) (out : Outcome) → first.waits ≡ 0 → first.moves ≡ 0 → out ≡ outcome_of b out.items out.end → step.polls < 2 ^ 32 → HasWaitedFew step.polls first b.stream out.end → (pending : ℕ) × AnsweredPending out pending × WaitsFew step.polls pending out.end
few_of first b step out z v k p few = (few.0, subst (λ (x : Outcome). AnsweredPending x few.0) (sym k) (pending_in first b few.0 out.items out.end z v (omega (arith, p, few.2.1)) few.1), few.2)

-- the dues of a step whose one exchange asks this
pub duly_step : (start : StreamSeen) (at : Place) (a b : ConnSeen) (step : Step) (r : Request) (out : Outcome) (said : List FrontendMessage) (fs : List Frame) (items : List CallItem) → StandsAt start at a → (IsUnpolled step → ⊥) → (OpensSavepoint at step → ⊥) → step.polls < 2 ^ 32
    → Ended (limits_of step) (begun_call r a).stream (begun_call r a) b r out.items out.end said fs → (s : Summary a.ledger r said (heard fs) items b.ledger (refuses_copy out.end)) → out ≡ outcome_of b out.items out.end
    → (step.call ≡ calls.Flush → r ≡ requests.Flush) → (waits_to_show step.call ≡ false → WithinMost out.end out.items step.most) → EndsDuly at step r out (next_place at b said s.own fs out.end)
duly_step start at a b step r out said fs items st n o p e s k flush most = record {
  savepoint = λ m x. absurd (o x);
  unpolled = λ u. absurd (n u);
  kept = λ fault w m x.
      let broken : a.broken ≡ Some fault = st.broken ∙ w in
      let h = subst (λ (o : Option ServerFault). EndsOn o (limits_of step) (begun_call r a).stream (begun_call r a) b r said (heard fs) out.items out.end) broken e.ends in
      let own = kept_own a b r said (heard fs) items (refuses_copy out.end) s h.2 (ap (λ (c : ConnSeen). c.ledger.owed) h.4) in (
        inl (untouched_by b out (ends.Err (errors.Protocol (protocol.Server fault))) k h.3 h.0 (did_nothing r a _ h.4)),
        kept_place start at a b r said s.own fs out.end fault st w h.1 own (e.kept fault broken) h.4,
      );
  refused = λ w m x u. refused_step start at a b r out said fs items st w u k ((e.at_once (st.broken ∙ w)).refused (inl u)) s;
  flushed = λ w m c o u. flushed_step start at a b r out said fs items st (flush c) k ((e.at_once (st.broken ∙ w)).flushed (flush_at start at a r st (flush c) o u)) s;
  few = few_of (begun_call r a).stream b step out refl refl k p e.few;
  most = most;
}

-- the dues of a step whose first exchange asked this, and handed on another
pub duly_handed : (start : StreamSeen) (at stop : Place) (a m : ConnSeen) (step : Step) (r next : Request) (out : Outcome) → StandsAt start at a → (IsUnpolled step → ⊥) → (OpensSavepoint at step → ⊥) → HandedOn step.polls (begun_call r a).stream (begun_call r a) m r next → (step.call ≡ calls.Flush → r ≡ requests.Flush)
    → (pending : ℕ) × AnsweredPending out pending × WaitsFew step.polls pending out.end → (waits_to_show step.call ≡ false → WithinMost out.end out.items step.most) → EndsDuly at step r out stop
duly_handed start at stop a m step r next out st n o h flush few most = record {
  savepoint = λ z x. absurd (o x);
  unpolled = λ u. absurd (n u);
  kept = λ fault w. let x = sym h.whole.0 ∙ st.broken ∙ w in absurd cc;
  refused = λ w z x u. absurd (u h.can);
  flushed = λ w z c owes sent. let x = sym h.flush ∙ flush_at start at a r st (flush c) owes sent in absurd cc;
  few = few;
  most = most;
}

-- what an end makes is told beside what its call did: the groups that it counts, and what became of the statements
abbrev Adds : Outcome → Outcome → Type 0
Adds raw out = (out.groups ≡ 0) × (out.cache ≡ raw.cache)

untouched_out : (raw out : Outcome) (end : End) → out ≡ record raw { groups = out.groups; cache = out.cache } → Adds raw out → raw ≡ untouched end → out ≡ untouched end
untouched_out raw out end e g k =
    e ∙ ap₂ (λ (n : ℕ) (s : CacheStep). record raw { groups = n; cache = s }) g.0 (g.1 ∙ ap (λ (x : Outcome). x.cache) k) ∙ ap (λ (x : Outcome). record x { groups = 0; cache = cache.Same }) k

-- where a call did nothing, its end adds nothing, unless it is Ok; and a flush adds nothing
pub duly_out : (at : Place) (step : Step) (r : Request) (raw out : Outcome) (stop : Place) → out ≡ record raw { groups = out.groups; cache = out.cache } → (raw.groups ≡ 0 → is_fine raw.end ≡ false → Adds raw out) → (raw.groups ≡ 0 → step.call ≡ calls.Flush → Adds raw out) → EndsDuly at step r raw stop → EndsDuly at step r out stop
duly_out at step r raw out stop e g f d = record {
  savepoint = λ n o. let x = d.savepoint n o in (other (ends.Err errors.InvalidSavePointStatement) refl x.0, x.1);
  unpolled = λ u. let x = d.unpolled u in (other ends.Dropped refl x.0, x.1);
  kept = λ fault w n o.
      let x = d.kept fault w n o in (
        elim x.0 [
          | inl k ↦ inl (other (ends.Err (errors.Protocol (protocol.Server fault))) refl k)
          | inr k ↦ inr (other (ends.Err errors.OutOfMemory) refl k)
        ],
        x.1,
      );
  refused = λ w n o u. let x = d.refused w n o u in (x.0, x.1, other (ends.Err x.0) refl x.2, x.3);
  flushed = λ w n c o u. let x = d.flushed w n c o u in (untouched_out raw out (ends.Ok AnswersUnit) e (f (ap (λ (y : Outcome). y.groups) x.0) c) x.0, x.1);
  few = subst (λ (x : Outcome). (pending : ℕ) × AnsweredPending x pending × WaitsFew step.polls pending x.end) (sym e) d.few;
  most = λ w. subst (λ (x : Outcome). WithinMost x.end x.items step.most) (sym e) (d.most w);
}
  where
    other : (end : End) → is_fine end ≡ false → raw ≡ untouched end → out ≡ untouched end
    other end n k = untouched_out raw out end e (g (ap (λ (y : Outcome). y.groups) k) (ap (λ (y : Outcome). is_fine y.end) k ∙ n)) k

pub dropped_out : (at : Place) (step : Step) (raw out : Outcome) (stop : Place) → out ≡ record raw { groups = out.groups; cache = out.cache } → IsDropped at step raw stop → IsDropped at step out stop
dropped_out at step raw out stop e d = subst (λ (x : Outcome). IsDropped at step x stop) (sym e) (by (parting_of step.call) d)
  where
    by : (q : Parting) → IsDroppedAs q at step raw stop → IsDroppedAs q at step (record raw { groups = out.groups; cache = out.cache }) stop
    by partings.None k = k
    by partings.Left k = tt
    by partings.Unsaid k = tt
    by (partings.Failed message) k = tt

-- where exchanges lie behind one another, what starved the last of them starved from the first on
pub dropped_from : (at next stop : Place) (step : Step) (out : Outcome) → at.seen.link.write_waits ≤ next.seen.link.write_waits → IsDropped next step out stop → IsDropped at step out stop
dropped_from at next stop step out l = by (parting_of step.call)
  where
    by : (q : Parting) → IsDroppedAs q next step out stop → IsDroppedAs q at step out stop
    by partings.None (inl u) = inl u
    by partings.None (inr (inl (p, inl w))) = inr (inl (p, inl (omega (arith, l, w))))
    by partings.None (inr (inl (p, inr s))) = inr (inl (p, inr s))
    by partings.None (inr (inr most)) = inr (inr most)
    by partings.Left d = tt
    by partings.Unsaid d = tt
    by (partings.Failed message) d = tt
