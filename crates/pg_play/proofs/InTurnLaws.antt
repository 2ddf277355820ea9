-- The exchanges of a step, one behind another: an induction over those that were handed on.
use Rattle.pg_call.specs.declared.after.Filling.{Filling}
use Rattle.std.proofs.Common.{◌≡◌, ℕ, ◌+◌, ◌-◌, ◌*◌, ◌^◌, ◌≤◌, ◌<◌, true, false, List, [], ◌∷◌, ◌++◌, length, refl, sym, ap, ◌∙◌, subst, arith, append-nil, ap₂, Option, Some, None, sum_by}
use Rattle.std.specs.List.{AllByRecursion}
use Rattle.pg_wire.specs.Frame.{Frame}
use Rattle.pg_wire.specs.Parts.{heard}
use Rattle.pg_wire.specs.Frontend.{FrontendMessage}
use Rattle.pg_wire.specs.Backend.{BackendMessage}
use Rattle.pg_wire.proofs.PartLaws.{heard-append}
use Rattle.pg_stream.specs.Links.{LinkSeen, NoneFalls, GrewBy}
use Rattle.pg_stream.specs.Streams.{StreamSeen}
use Rattle.pg_stream.proofs.StreamLemmas.{GrewBy-then}
use Rattle.pg_call.specs.declared.request.Request.{Request}
use Rattle.pg_call.specs.declared.calling.Call.TheVariants as states
use Rattle.pg_call.specs.Requests.{Group, groups_of, kind_of, widths_of}
use Rattle.pg_conn.specs.Connections.{ConnSeen, settled, Standing, standing}
use Rattle.pg_conn.specs.Statements.{held_by}
use Rattle.pg_conn.specs.Turns.{HasAllRoom}
use Rattle.pg_report.specs.declared.outcome.Item.{Item}
use Rattle.pg_report.specs.declared.outcome.Answer.TheVariants.{Unit as AnswersUnit}
use Rattle.pg_report.specs.declared.outcome.End.{End}
use Rattle.pg_report.specs.declared.outcome.End.TheVariants as ends
use Rattle.pg_report.specs.declared.outcome.Outcome.{Outcome}
use Rattle.pg_script.specs.declared.step.Call.{Call}
use Rattle.pg_script.specs.declared.step.Step.{Step}
use Rattle.pg_script.specs.declared.step.Parting.TheVariants as partings
use Rattle.pg_play.specs.Shown.{ComesBehind, LooksOn, parting_of, request_of, handed_by, next_call, waits_how, acts_at_once}
use Rattle.pg_play.specs.Calls.{Bounds, EndsOn, parted, WaitsFew, HasWaitedFew, Ended, EndsCall, PlaysOne, HandsTo, OfLastIn, Counted, knowing, none_counted, asking, behind_end, copy_behind, limits_of, outcome_of, all_groups, asked_from}
use Rattle.pg_play.specs.Places.{refuses_copy, Place, owed, is_fine}
use Rattle.pg_play.specs.Causes.{AnsweredPending, IsParted, IsDropped, IsDroppedAs}
use Rattle.pg_play.specs.Settling.{Settles, handed_at, rule_after}
use Rattle.pg_play.specs.WaitPlaces.{WaitPlaces}
use Rattle.pg_play.specs.Plays.{IsNeverUnlawful, Plays_call, Plays_exchanges, HandsOn, stopped_at, last_of, over, cache_behind, StandsAt}
use Rattle.pg_play.proofs.PlaceLaws.{HasSummary, ends_summary, next_place, readies-append}
use Rattle.pg_play.proofs.ToldLaws.{main_after, queued_one, fine_own, told_of, CountsOn, all_counted}
use Rattle.pg_play.proofs.CauseLaws.{dropped_step, parted_step}
use Rattle.pg_play.proofs.LinkLaws.{sum_more}
use Rattle.pg_play.specs.Copying.{LeavesCopy}
use Rattle.pg_play.proofs.SettleLaws.{left_frames, left_groups, left_link}
use Rattle.pg_play.proofs.CopyLaws.{CanFail, leaves_to}
use Rattle.pg_play.proofs.SettledLaws.{SettlesTo, behind_learnt, conn_behind, settles_call, cleanup_polled, ok_cleans_none}
use Rattle.pg_play.proofs.CalledLaws.{KnownAt, Called, called_exchange, exchanged}
use Rattle.pg_play.proofs.ThroughLaws.{counted_by, held_conn, handed_asking, handed_ended}
use Rattle.pg_play.proofs.ExchangeLaws.{LeadsTo, NextIs, looks_or, next_how, next_parts, runs_how, shows_how, what_is_next}
use Rattle.pg_play.proofs.NextLaws.{good_after, good_messages, replies_same, whole_behind}
use Rattle.pg_play.proofs.BehindLaws.{DescribedAt, IsHeldFor, keeps_next}
use Rattle.pg_play.proofs.KeptLaws.{IsSound, next_sound}
use Rattle.pg_play.proofs.NumberLaws.{numbers_on}
use Rattle.pg_play.proofs.FollowLaws.{closes_known, known_next, looked_kept, next_holds, filled_kept}
use Rattle.pg_play.proofs.PartLaws.{after_more, no_error}
use Rattle.pg_play.specs.Kept.{Keeps}
use Rattle.pg_play.specs.Told.{HasNoError}
use Rattle.pg_rule.specs.declared.rule.Rule.{Rule}
use Rattle.pg_rule.specs.Rules.{IsOrderly}
use Rattle.pg_call.specs.declared.statement.Extended.{Extended}
use Rattle.pg_call.specs.declared.after.Eviction.{Eviction}
use Rattle.pg_learning.specs.declared.learnt.Learnt.{Learnt}
use Rattle.pg_script.specs.declared.step.Call.TheVariants as calls
use Rattle.pg_script.specs.declared.step.Parting.{Parting}
use Rattle.pg_request.specs.declared.progress.CacheStep.{CacheStep}
use Rattle.pg_wire.specs.declared.error.ServerFault.{ServerFault}
use Rattle.pg_call.specs.declared.answer.CallItem.{CallItem}
use Rattle.pg_conn.specs.Connections.{ends_copy}
use Rattle.pg_wire.specs.Parts.{is_ready}
use Rattle.pg_play.proofs.FirstLaws.{copy_learnt}
use Rattle.pg_play.proofs.CallLaws.{unqueued_unfed}
use Rattle.pg_play.proofs.StepLaws.{Summary}
use Rattle.std.specs.List.{count_by}
use Rattle.pg_call.specs.Drains.{after_readys}
use Rattle.pg_call.specs.Calls.{IsFine}
use Rattle.pg_play.specs.Calls.{IsLast}
use Rattle.pg_call.specs.Requests.{CanBeSaid}
use Rattle.pg_play.proofs.DueLaws.{WithinMost, most_by, few_of, dropped_out, dropped_from}

-- ---- what exchanges tell together

abbrev pub exchange_of : Step → Call → Step
exchange_of step call = record step { call = call }

-- behind so many, the numbers of these exchanges are those of the outcome
pub record AddUp (old : Counted) (outs : List Outcome) (out : Outcome) : Type 0 where
  pub groups : GrewBy (sum_by (λ one. one.groups) outs) old.groups out.groups
  pub heard : GrewBy (sum_by (λ one. one.heard) outs) old.heard out.heard
  pub waits : GrewBy (sum_by (λ one. one.waits) outs) old.waits out.waits
  pub moved : GrewBy (sum_by (λ one. one.moved) outs) old.moves out.moved

grew_none : (x : ℕ) → GrewBy 0 x x
grew_none x = (omega arith, omega arith, omega arith)

pub add_none : (d : ConnSeen) (items : List Item) (end : End) → AddUp (counted_by d) [] (outcome_of d items end)
add_none d items end = record {
  groups = grew_none (all_groups d);
  heard = grew_none d.heard;
  waits = grew_none d.stream.waits;
  moved = grew_none d.stream.moves;
}

grew_more : (f : Outcome → ℕ) (told : Outcome) (outs : List Outcome) (x y z : ℕ) → GrewBy (f told) x y → GrewBy (sum_by f outs) y z → GrewBy (sum_by f (told ∷ outs)) x z
grew_more f told outs x y z g more = GrewBy-then (f told) (sum_by f outs) (sum_by f (told ∷ outs)) x y z g more (sum_more f told outs)

pub add_one : (old : Counted) (c : ConnSeen) (told : Outcome) (outs : List Outcome) (out : Outcome) → CountsOn old c told → AddUp (counted_by c) outs out → AddUp old (told ∷ outs) out
add_one old c told outs out grew more = record {
  groups = grew_more (λ (x : Outcome). x.groups) told outs old.groups (all_groups c) out.groups (all_counted old c told grew) more.groups;
  heard = grew_more (λ (x : Outcome). x.heard) told outs old.heard c.heard out.heard grew.heard more.heard;
  waits = grew_more (λ (x : Outcome). x.waits) told outs old.waits c.stream.waits out.waits grew.waits more.waits;
  moved = grew_more (λ (x : Outcome). x.moved) told outs old.moves c.stream.moves out.moved grew.moved more.moved;
}

-- one outcome alone, behind nothing
pub add_alone : (out : Outcome) → AddUp none_counted (out ∷ []) out
add_alone out = record {
  groups = alone (λ (x : Outcome). x.groups);
  heard = alone (λ (x : Outcome). x.heard);
  waits = alone (λ (x : Outcome). x.waits);
  moved = alone (λ (x : Outcome). x.moved);
}
  where
    alone : (f : Outcome → ℕ) → GrewBy (sum_by f (out ∷ [])) 0 (f out)
    alone f = let e = sum_more f out [] in (omega arith, omega (arith, e), omega (arith, e))

-- the groups of its cleanup are counted too
grew_still : (n k x y z : ℕ) → k ≡ n → z ≡ y → GrewBy n x y → GrewBy k x z
grew_still n k x y z e f g = (omega (arith, f, g), omega (arith, e, f, g), omega (arith, e, f, g))

pub counts_settled : (start : StreamSeen) (old : Counted) (at mid : Place) (m d : ConnSeen) (step : Step) (told : Outcome) (one : Plays_call at step told mid) {asks : Option Request} (s : SettlesTo start at step told one.own one.told.response asks mid m d) → CountsOn old m told → CountsOn old d s.out
counts_settled start old at mid m d step told one {asks} s grew =
    let e = s.settles.outcome in
    record {
      groups = GrewBy-then told.groups (length s.settles.cleanup) s.out.groups 0 m.groups d.groups grew.groups s.groups (s.settles.counted ∙ ap (λ (n : ℕ). n + length s.settles.cleanup) (sym one.numbers.groups));
      behind = s.others.3 ∙ grew.behind;
      fits = grew.fits;
      heard = grew_still told.heard s.out.heard old.heard m.heard d.heard (ap (λ (x : Outcome). x.heard) e) s.others.0 grew.heard;
      waits = grew_still told.waits s.out.waits old.waits m.stream.waits d.stream.waits (ap (λ (x : Outcome). x.waits) e) s.others.1 grew.waits;
      moved = grew_still told.moved s.out.moved old.moves m.stream.moves d.stream.moves (ap (λ (x : Outcome). x.moved) e) s.others.2 grew.moved;
    }

-- ---- exchanges one behind another

-- From this place on, behind what was counted, a step goes through exchanges, the first of which this call stands for. The call of the last
-- stopped here, and the connection stands behind them.
pub record InTurn (start : StreamSeen) (at : Place) (step : Step) (call : Call) (old : Counted) (out : Outcome) (stop : Place) (d : ConnSeen) : Type 0 where
  pub later : List Step
  pub told : Outcome
  pub outs : List Outcome
  pub next : Place
  pub run : Plays_exchanges at (exchange_of step call ∷ later) (told ∷ outs) next
  pub limits : AllByRecursion (λ exchange. (exchange.polls ≡ step.polls) × (exchange.most ≡ step.most)) later
  pub hands : HandsOn at (exchange_of step call ∷ later) (told ∷ outs) next run
  pub items : out.items ≡ (last_of told outs).items
  pub ends : out.end ≡ (last_of told outs).end
  pub adds : AddUp old (told ∷ outs) out
  pub caches : out.cache ≡ cache_behind old.cache (told ∷ outs)
  pub stops : stop ≡ stopped_at at at (exchange_of step call ∷ later) (told ∷ outs) next run
  pub stands : StandsAt start next d
  pub keeps : Keeps next

-- there is one alone
pub one_turn : (start : StreamSeen) (at mid left next : Place) (d : ConnSeen) (step : Step) (call : Call) (old : Counted) (raw told out : Outcome) (one : Plays_call at (exchange_of step call) raw mid) → LeavesCopy call one.own raw.end mid left → IsNeverUnlawful at raw mid → WaitPlaces at raw mid → NoneFalls at.seen.link mid.seen.link → (s : Settles at (exchange_of step call) raw told one.own one.told.response left next)
    → StandsAt start next d → Keeps next → out.items ≡ told.items → out.end ≡ told.end → AddUp old (told ∷ []) out → out.cache ≡ over old.cache told.cache → s.asks ≡ None → InTurn start at step call old out mid d
unfolding exchanged
one_turn start at mid left next d step call old raw told out one leaves lawful waits counts s stands keeps items ends adds caches last = record {
  later = [];
  told = told;
  outs = [];
  next = next;
  run = (next, exchanged start at mid left next d (exchange_of step call) raw told one leaves lawful waits counts s stands, refl);
  limits = tt;
  hands = (last, tt);
  items = items;
  ends = ends;
  adds = adds;
  caches = caches;
  stops = refl;
  stands = stands;
  keeps = keeps;
}

-- what is told of an exchange's call
abbrev told_in : {start : StreamSeen} {at : Place} {old : Counted} {m : ConnSeen} {step : Step} {shown : List Item} {end : End} {mid : Place} → Called start at old m step shown end mid → Outcome
told_in {start} {at} {old} {m} {step} {shown} {end} {mid} c = told_of shown end c.groups c.heard c.waits c.moved

-- one stands before the others
more_turns : (start : StreamSeen) (at mid stop : Place) (m c d : ConnSeen) (step : Step) (call part : Call) (old : Counted) (out : Outcome) (one : Called start at old m (exchange_of step call) [] (ends.Ok AnswersUnit) mid) {asks : Option Request} (s : SettlesTo start at (exchange_of step call) (told_in one) one.one.own one.one.told.response asks mid m c) → next_call s.next.rule s.settles.asks ≡ Some part → c.cache ≡ over old.cache s.out.cache
    → InTurn start s.next step part (counted_by c) out stop d → InTurn start at step call old out stop d
unfolding exchanged
more_turns start at mid stop m c d step call part old out one {asks} s comes made t = record {
  later = exchange_of step part ∷ t.later;
  told = s.out;
  outs = t.told ∷ t.outs;
  next = t.next;
  run = (s.next, exchanged start at mid s.left s.next c (exchange_of step call) (told_in one) s.out one.one s.leaves one.lawful one.places one.counts s.settles s.stands, t.run);
  limits = ((refl, refl), t.limits);
  hands = ((ap (λ (x : Outcome). x.end) s.settles.outcome, comes), t.hands);
  items = t.items;
  ends = t.ends;
  adds = add_one old c s.out (t.told ∷ t.outs) out (counts_settled start old at mid m c (exchange_of step call) (told_in one) one.one s one.grew) t.adds;
  caches = t.caches ∙ ap (λ (x : CacheStep). cache_behind x (t.told ∷ t.outs)) made;
  stops = t.stops;
  stands = t.stands;
  keeps = t.keeps;
}

-- ---- exchanges of a call that was polled

-- An exchange begins at this place, behind what was counted: what its request knows is known there, as are the statements that are kept.
pub record BeginsAt (start : StreamSeen) (at : Place) (a : ConnSeen) (old : Counted) (call : Call) : Type 0 where
  pub stands : StandsAt start at a
  pub polled : acts_at_once call ≡ false
  pub known : KnownAt (widths_of (request_of at.rule.depth call)) at
  pub fits : old.groups ≤ 2 ^ 64 - 1
  pub keeps : Keeps at
  pub sound : IsSound at.rule call
  pub holds : IsHeldFor at call

-- and all of them were polled to the step's end
pub record PlaysInTurn (start first : StreamSeen) (at : Place) (step : Step) (call : Call) (old : Counted) (out : Outcome) (stop : Place) (d : ConnSeen) : Type 0 where
  pub turns : InTurn start at step call old out stop d
  pub dropped : out.end ≡ ends.Dropped → IsDropped at step out stop
  pub few : (pending : ℕ) × AnsweredPending out pending × WaitsFew step.polls pending out.end
  pub most : waits_how (runs_how call) ≡ false → WithinMost out.end out.items step.most
  pub waits : out.waits ≤ step.polls
  pub calls : d.stream.link.calls ≤ first.link.calls + 256 * (step.polls + step.most)

has_room_at : (start : StreamSeen) (at : Place) (a : ConnSeen) (old : Counted) (call : Call) → BeginsAt start at a old call → HasAllRoom (asking (request_of at.rule.depth call) old a)
has_room_at start at a old call b =
    let room = b.stands.room in
    omega (arith, room)

-- the numbers are those of the connection before what was left of a copy
settles_behind : (start : StreamSeen) (at mid left : Place) (m c : ConnSeen) (step : Step) (told : Outcome) (one : Plays_call at step told mid) → (c.groups ≡ m.groups) × (c.heard ≡ m.heard) × (c.stream.waits ≡ m.stream.waits) × (c.stream.moves ≡ m.stream.moves) × (c.earlier ≡ m.earlier) × (c.cache ≡ m.cache) × (c.keeping ≡ m.keeping)
    → {d : ConnSeen} {asks : Option Request} → SettlesTo start at step told one.own one.told.response asks mid c d → SettlesTo start at step told one.own one.told.response asks mid m d
settles_behind start at mid left m c step told one same {d} {asks} s = record {
  left = s.left;
  leaves = s.leaves;
  next = s.next;
  out = s.out;
  settles = s.settles;
  asked = s.asked;
  stands = s.stands;
  groups = subst (λ (n : ℕ). GrewBy (length s.settles.cleanup) n d.groups) same.0 s.groups;
  others = (s.others.0 ∙ same.1, s.others.1 ∙ same.2, s.others.2 ∙ same.3, s.others.3 ∙ same.4, s.others.4 ∙ ap (λ (x : CacheStep). over x s.out.cache) same.5);
}

-- what was failed by a message of its own had queued its group
has_own : (o : Option ServerFault) (start first : StreamSeen) (old : Counted) (at : Place) (a b : ConnSeen) (step : Step) (said : List FrontendMessage) (fs : List Frame) (shown : List Item) (end : End) (items : List CallItem) → StandsAt start at a
    → EndsOn o (limits_of step) first (asking (request_of at.rule.depth step.call) old a) b (request_of at.rule.depth step.call) said (heard fs) shown end → (s : Summary a.ledger (request_of at.rule.depth step.call) said (heard fs) items b.ledger (refuses_copy end)) → CanFail (parting_of step.call) s.own end
has_own None start first old at a b step said fs shown ends.Dropped items st h s e message p =
    let k = subst (λ (q : Parting). IsParted q at s.own (heard fs) (next_place at b said s.own fs ends.Dropped)) p (parted_step start first old at a b step said fs shown items st h s) in
    (k.0.0, k.1)
has_own None start first old at a b step said fs shown (ends.Ok answer) items st h s e message p = absurd cc
has_own None start first old at a b step said fs shown (ends.Err x) items st h s e message p = absurd cc
has_own (Some fault) start first old at a b step said fs shown end items st h s e message p = let x = sym e ∙ h.0 in absurd cc

-- so where no group was queued nothing is left of a copy
unleft : (call : Call) (own : List Group) (end : End) (m : ConnSeen) → m.groups ≡ length own → CanFail (parting_of call) own end → all_groups m ≡ 0 → copy_behind (parting_of call) end m ≡ m
unleft call own (ends.Ok answer) m groups some e = refl
unleft call own (ends.Err x) m groups some e = unqueued_unfed (ends_copy x) m (omega (arith, e))
unleft call own ends.Dropped m groups some e = by (parting_of call) refl
  where
    none : (own : List Group) → m.groups ≡ length own → own ≡ []
    none [] k = refl
    none (g ∷ gs) k = absurd (omega (arith, k, e))

    by : (q : Parting) → parting_of call ≡ q → parted q m ≡ m
    by partings.None p = unqueued_unfed false m (omega (arith, e))
    by partings.Left p = unqueued_unfed false m (omega (arith, e))
    by partings.Unsaid p = unqueued_unfed false m (omega (arith, e))
    by (partings.Failed message) p = absurd ((some refl message p).0 (none own groups))

settles_so : (start : StreamSeen) (at mid : Place) (a m : ConnSeen) (old : Counted) (step : Step) (call : Call) (shown : List Item) (end : End) → BeginsAt start at a old call → (c : Called start at old m (exchange_of step call) shown end mid) → standing m ≡ standing (asking (request_of at.rule.depth call) old a) → CanFail (parting_of call) c.one.own end
    → (asks : Option Request) (learnt : Learnt) → LooksOn (handed_at end call c.one.told.response) mid.learnt asks learnt → SettlesTo start at (exchange_of step call) (told_in c) c.one.own c.one.told.response asks mid m (conn_behind asks learnt end (copy_behind (parting_of call) end m))
settles_so start at mid a m old step call shown end b c same can asks learnt looks =
    let groups : m.groups ≡ length c.one.own = omega (arith, c.grew.groups, c.one.numbers.groups, c.small) in
    let l = leaves_to start call at.rule.depth c.one.own end mid m c.stands groups (ap (λ (x : Standing). x.change) same) can in
    settles_behind start at mid l.left m (copy_behind (parting_of call) end m) (exchange_of step call) (told_in c) c.one l.others
    (settles_call start at mid l.left (copy_behind (parting_of call) end m) (exchange_of step call) (told_in c) c.one l.leaves b.polled l.stands c.small (l.others.0 ∙ groups) l.acts (l.others.6 ∙ ap (λ (x : Standing). x.keeping) same) asks learnt (subst (λ (x : Learnt). LooksOn (handed_at end call c.one.told.response) x asks learnt) (sym (ap (λ (x : Place). x.learnt) l.leaves)) looks))

-- only the groups that an end makes are counted behind it, and what it makes of the statements is told
pub same_but_groups : (m d : ConnSeen) (items : List Item) (end : End) → (d.heard ≡ m.heard) × (d.stream.waits ≡ m.stream.waits) × (d.stream.moves ≡ m.stream.moves) → outcome_of d items end ≡ record (outcome_of m items end) { groups = all_groups d; cache = d.cache }
same_but_groups m d items end o = rw (o.0, o.1, o.2) refl

waited_most : (limits : Bounds) (first : StreamSeen) (b : ConnSeen) (end : End) → first.waits ≡ 0 → HasWaitedFew limits.polls first b.stream end → b.stream.waits ≤ limits.polls
waited_most limits first b end z few = omega (arith, z, few.1.all, few.1.waits.1, few.2.1)

-- what ended hands on nothing where nothing that hands on ended it
none_left : (d : ℕ) (call : Call) (response : List BackendMessage) (end : End) → EndsCall (request_of d call) end → handed_at end call response ≡ None
none_left d call response (ends.Ok told) l = by call l
  where
    by : (call : Call) → IsLast (request_of d call) → handed_by call response ≡ None
    by (calls.Describe x) l = absurd (l refl)
    by (calls.Evict v) l = absurd (l refl)
    by (calls.Look lookup) l = absurd (l refl)
    by (calls.Fill filling) l = absurd (l refl)
    by _ l = refl
none_left d call response (ends.Err e) l = refl
none_left d call response ends.Dropped l = refl

describes_none : (d : ℕ) (call : Call) (end : End) (x : Extended) → EndsCall (request_of d call) end → call ≡ calls.Describe x → is_fine end ≡ true → ⊥
describes_none d call (ends.Ok told) x l c f = l (ap (λ (y : Call). kind_of (request_of d y)) c)
describes_none d call (ends.Err e) x l c f = cc
describes_none d call ends.Dropped x l c f = cc

-- what is said of an exchange's polls is said of the step's
of_exchange : (q : Parting) (at : Place) (step : Step) (call : Call) (out : Outcome) (stop : Place) → IsDroppedAs q at (exchange_of step call) out stop → IsDroppedAs q at step out stop
of_exchange partings.None at step call out stop d = d
of_exchange partings.Left at step call out stop d = tt
of_exchange partings.Unsaid at step call out stop d = tt
of_exchange (partings.Failed message) at step call out stop d = tt

-- the exchange that ended its call, behind which the groups alone are counted on
pub last_turn : (start first : StreamSeen) (old : Counted) (at : Place) (a m : ConnSeen) (step : Step) (call : Call) (items : List Item) (end : End) (said : List FrontendMessage) (fs : List Frame) → BeginsAt start at a old call → step.polls < 2 ^ 32 → first.waits ≡ 0 → first.moves ≡ 0 → 0 < step.most
    → parting_of call ≡ parting_of step.call → Ended (limits_of (exchange_of step call)) first (asking (request_of at.rule.depth call) old a) m (request_of at.rule.depth call) items end said fs → EndsCall (request_of at.rule.depth call) end → m.call ≡ states.Idle → (found : HasSummary a.ledger (request_of at.rule.depth call) said (heard fs) m.ledger end items)
    → PlaysInTurn start first at step call old (outcome_of (behind_end end (copy_behind (parting_of call) end m)) items end) (next_place at m said found.1.own fs end) (behind_end end (copy_behind (parting_of call) end m)) × (outcome_of (behind_end end (copy_behind (parting_of call) end m)) items end ≡ record (outcome_of m items end) { groups = all_groups (behind_end end (copy_behind (parting_of call) end m)); cache = (behind_end end (copy_behind (parting_of call) end m)).cache }) × (all_groups m ≡ 0 → copy_behind (parting_of call) end m ≡ m)
unfolding called_exchange
last_turn start first old at a m step call items end said fs h p z v l parts e last idles found =
    let exchange = exchange_of step call in
    let s = found.1 in
    let mid : Place = next_place at m said s.own fs end in
    let c : Called start at old m exchange items end mid = called_exchange start first old at a m exchange items end said fs h.stands h.polled h.fits p z e idles (has_room_at start at a old call h) found h.known in
    let d : ConnSeen = behind_end end (copy_behind (parting_of call) end m) in
    let can : CanFail (parting_of call) c.one.own end = has_own a.broken start first old at a m exchange said fs items end found.0 h.stands e.ends s in
    let response : List BackendMessage = c.one.told.response in
    let none : handed_at end call response ≡ None = none_left at.rule.depth call response end last in
    let stays : d.learnt ≡ m.learnt = behind_learnt end (copy_behind (parting_of call) end m) ∙ copy_learnt (parting_of call) end m in
    let t : SettlesTo start at exchange (told_in c) c.one.own response None mid m d = settles_so start at mid a m old step call items end h c e.went.started.3 can None d.learnt (subst (λ (o : Option Request). LooksOn o m.learnt None d.learnt) (sym none) (refl, stays)) in
    let k = t.settles.outcome in
    let raw : Outcome = outcome_of m items end in
    let real : Outcome = outcome_of d items end in
    let same : real ≡ record raw { groups = all_groups d; cache = d.cache } = same_but_groups m d items end (t.others.0, t.others.1, t.others.2) in
    let keeps : Keeps t.next = (keeps_next at mid t.left t.next exchange (told_in c) t.out c.one t.leaves t.settles h.keeps h.sound h.holds (λ x is f. absurd (describes_none at.rule.depth call end x last is f))).0 in
    let few : m.stream.waits ≤ step.polls = waited_most (limits_of exchange) first m end z e.few in
    let plays : PlaysInTurn start first at step call old real mid d = record {
      turns = one_turn start at mid t.left t.next d step call old (told_in c) t.out real c.one t.leaves c.lawful c.places c.counts t.settles t.stands keeps (sym (ap (λ (x : Outcome). x.items) k)) (sym (ap (λ (x : Outcome). x.end) k))
          (add_one old d t.out [] real (counts_settled start old at mid m d exchange (told_in c) c.one t c.grew) (add_none d items end)) (t.others.4 ∙ ap (λ (x : Standing). over x.cache t.out.cache) e.went.started.3) t.asked;
      dropped = λ y. dropped_out at step raw real mid same (subst (λ (q : Parting). IsDroppedAs q at step raw mid) parts (of_exchange (parting_of call) at step call raw mid (dropped_step a.broken start first old at a m exchange said fs items end found.0 h.stands z v p y e.ends s)));
      few = subst (λ (x : Outcome). (pending : ℕ) × AnsweredPending x pending × WaitsFew step.polls pending x.end) (sym same) (few_of first m step raw z v refl p e.few);
      most = λ w. most_by at.rule.depth a.broken (limits_of exchange) first (asking (request_of at.rule.depth call) old a) m exchange said (heard fs) items end (shows_how call w) l e.ends;
      waits = omega (arith, t.others.1, few);
      calls = omega (arith, e.calls, ap (λ (x : StreamSeen). x.link.calls) t.stands.seen, ap (λ (x : StreamSeen). x.link.calls) t.settles.seen, ap (λ (x : LinkSeen). x.calls) (left_link call c.one.own end mid t.left t.leaves));
    } in
    (plays, same, unleft call c.one.own end m (omega (arith, c.grew.groups, c.one.numbers.groups, c.small)) can)

-- an exchange that handed on another: it is told, and the next one begins behind it
record TurnsOn (start : StreamSeen) (at : Place) (m : ConnSeen) (old : Counted) (step : Step) (call : Call) (next : Request) (learnt : Learnt) : Type 0 where
  mid : Place
  one : Called start at old m (exchange_of step call) [] (ends.Ok AnswersUnit) mid
  settles : SettlesTo start at (exchange_of step call) (told_in one) one.one.own one.one.told.response (Some next) mid m (held_conn (knowing learnt m) next)
  part : Call
  comes : next_call settles.next.rule settles.settles.asks ≡ Some part
  behind : ComesBehind (settled m).rule call one.one.told.response part
  asks : request_of settles.next.rule.depth part ≡ asked_from m next
  begins : BeginsAt start settles.next (held_conn (knowing learnt m) next) (counted_by (held_conn (knowing learnt m) next)) part

-- the response to a description that was heard whole
described_so : (start : StreamSeen) (at next : Place) (a m : ConnSeen) (d : ℕ) (call : Call) (x : Extended) (own cleanup : List Group) (said : List FrontendMessage) (slice : List Frame) (response : List BackendMessage) → StandsAt start at a → call ≡ calls.Describe x → own ≡ groups_of (request_of d call) → length (groups_of (request_of d call)) ≡ 1 → heard next.frames ≡ heard at.frames ++ slice
    → (f : IsFine a.ledger (request_of d call) said slice [] m.ledger) → f.reply ≡ response → CanBeSaid (request_of d call) → DescribedAt at next x own cleanup slice response
described_so start at next a m d call x own cleanup said slice response st is whole one frames f same can =
    let counted : count_by is_ready slice ≡ a.ledger.owed + 1 = omega (arith, f.counted, one) in
    let told = subst (λ (r : List BackendMessage). DescribedAt at next x own cleanup slice r) same (record {
      queued = whole ∙ ap (λ (y : Call). groups_of (request_of d y)) is;
      answered = ap (after_readys (length at.groups)) frames ∙ after_more (heard at.frames) slice (length at.groups) a.ledger.owed st.ledger st.between ∙ f.replied;
      read = omega (arith, st.ledger, counted, ap (λ (t : List Frame). count_by is_ready t) frames, readies-append (heard at.frames) slice);
      ends = whole_behind a.ledger.owed slice f.reply counted f.ends f.replied;
      has_frames = f.reply_has_frames;
      well = good_messages f.reply (subst HasNoError f.replied (good_after slice a.ledger.owed (no_error slice f.well)));
      can = subst (λ (y : Call). CanBeSaid (request_of d y)) is can;
    }) in
    told

turns_on : (start first : StreamSeen) (old : Counted) (at : Place) (a m : ConnSeen) (step : Step) (call : Call) (next : Request) → BeginsAt start at a old call → step.polls < 2 ^ 32 → first.waits ≡ 0 → 0 < step.most
    → (h : HandsTo step.polls first (asking (request_of at.rule.depth call) old a) m (request_of at.rule.depth call) next) → TurnsOn start at m old step call next h.learnt
unfolding called_exchange
turns_on start first old at a m step call next b p z l hands =
    let h = hands.handed in
    let told : Request = hands.told in
    let learnt : Learnt = hands.learnt in
    let looked : LeadsTo told next = looks_or told next m.learnt learnt hands.looks in
    let exchange = exchange_of step call in
    let r = request_of at.rule.depth call in
    let begun = asking r old a in
    let e = handed_ended (limits_of exchange) first begun m r told l h in
    let found = ends_summary a.broken (limits_of exchange) first begun m at.rule.depth call h.said (heard h.fs) [] (ends.Ok AnswersUnit) e.ends in
    let s = found.1 in
    let st = b.stands in
    let mid : Place = next_place at m h.said s.own h.fs (ends.Ok AnswersUnit) in
    let c : Called start at old m exchange [] (ends.Ok AnswersUnit) mid = called_exchange start first old at a m exchange [] (ends.Ok AnswersUnit) h.said h.fs st b.polled b.fits p z e h.over (has_room_at start at a old call b) found b.known in
    let response : List BackendMessage = c.one.told.response in
    let f = h.ends.0.0 in
    let rule : Rule = (settled m).rule in
    let n : NextIs rule at.rule.depth call f.reply told next = what_is_next rule at.rule.depth call f.reply f.status told next m.learnt learnt h.ends.0.1 hands.looks in
    let whole : s.own ≡ groups_of r = fine_own a.ledger r h.said (heard h.fs) [] found.0 m.ledger false s f in
    let q = queued_one a.ledger.owed r s.own (heard h.fs) s.queued (ap (λ (g : List Group). length g) whole ∙ n.one) in
    let same : response ≡ f.reply = replies_same response f.reply (sym c.one.told.says.0 ∙ main_after start at a r s.own (heard h.fs) st q ∙ f.replied) c.one.told.says.1 f.reply_has_frames in
    let handed : handed_by call response ≡ Some told = ap (λ (ms : List BackendMessage). handed_by call ms) same ∙ n.handed in
    let t : SettlesTo start at exchange (told_in c) c.one.own response (Some next) mid m (held_conn (knowing learnt m) next) = settles_so start at mid a m old step call [] (ends.Ok AnswersUnit) b c e.went.started.3 (λ x. absurd cc) (Some next) learnt (subst (λ (o : Option Request). LooksOn o m.learnt (Some next) learnt) (sym handed) (next, refl, hands.looks)) in
    let none : t.settles.cleanup ≡ [] = t.settles.cleans ∙ cleanup_polled at.rule.depth call (ends.Ok AnswersUnit) c.one.own (owed t.left) b.polled ∙ sym (ok_cleans_none at.rule.depth call c.one.own) in
    let groups : t.next.groups ≡ at.groups ++ groups_of r = t.settles.groups ∙ ap (λ (g : List Group). g ++ t.settles.cleanup) (left_groups call c.one.own (ends.Ok AnswersUnit) mid t.left t.leaves) ∙ ap (λ (g : List Group). (at.groups ++ s.own) ++ g) none ∙ append-nil (at.groups ++ s.own) ∙ ap (λ (g : List Group). at.groups ++ g) whole in
    let frames : heard t.next.frames ≡ heard at.frames ++ heard h.fs = ap heard (t.settles.frames ∙ left_frames call c.one.own (ends.Ok AnswersUnit) mid t.left t.leaves) ∙ heard-append at.frames h.fs in
    let knows : t.next.rule ≡ held_by rule next = sym t.stands.rule in
    let kept = keeps_next at mid t.left t.next exchange (told_in c) t.out c.one t.leaves t.settles b.keeps b.sound b.holds
    (λ x is y. described_so start at t.next a m at.rule.depth call x s.own t.settles.cleanup h.said (heard h.fs) response st is whole n.one frames f (sym same) h.can) in
    let keeps : Keeps t.next = kept.0 in
    let asks = n.asks t.next.rule.depth in
    let knows_so : t.next.rule ≡ rule_after at.rule call s.own (Some next) (ends.Ok AnswersUnit) = t.settles.rule ∙ ap (λ (o : Option Request). rule_after at.rule call s.own o (ends.Ok AnswersUnit)) t.asked in
    let closed = λ (v : Eviction) (is : call ≡ calls.Evict v). closes_known at t.next call v s.own response told next is (subst (λ (y : Call). IsSound at.rule y) is b.sound) handed looked knows_so in
    let filled = λ (f : Filling) (is : call ≡ calls.Fill f). filled_kept at t.next call f at.rule.depth (heard h.fs) is b.holds groups frames in
    let known : KnownAt (widths_of (asked_from m next)) t.next = known_next rule start at t.next a (held_conn (knowing learnt m) next) at.rule.depth call told next h.said (heard h.fs) [] st t.stands keeps groups frames closed (λ v is. (subst (λ (y : Call). IsSound at.rule y) is b.sound, looked_kept at t.next call v at.rule.depth (heard h.fs) is b.holds groups frames)) filled h.ends.0 looked in
    record {
      mid = mid;
      one = c;
      settles = t;
      part = n.part;
      comes = ap₂ (λ (k : Rule) (o : Option Request). next_call k o) knows t.asked ∙ n.comes;
      behind = (told, m.learnt, learnt, next, handed, hands.looks, n.is);
      asks = asks;
      begins = record {
        stands = t.stands;
        polled = n.polled;
        known = subst (λ (q : Request). KnownAt (widths_of q) t.next) (sym asks) known;
        fits = omega arith;
        keeps = keeps;
        sound = subst (λ (k : Rule). IsSound k n.part) (sym knows) (subst (λ (y : Call). IsSound (held_by rule next) y) (sym n.is) (next_sound rule at.rule call f.reply told next n.handed looked b.sound (numbers_on at.rule rule call s.own response told next handed looked (sym knows ∙ knows_so)) (subst (λ (k : Rule). IsOrderly k) knows keeps.orderly)));
        holds = subst (λ (y : Call). IsHeldFor t.next y) (sym n.is) (next_holds rule at.rule t.next call f.reply told next n.handed looked b.sound keeps knows closed filled (λ l. kept.1 told next refl handed t.asked l));
      };
    }

-- Any number of exchanges, each handed on by the one before it, is told from the place on at which the first begins.
pub turns_through : (later : List Request) (start first : StreamSeen) (old : Counted) (at : Place) (a b : ConnSeen) (step : Step) (call : Call) (out : Outcome) → BeginsAt start at a old call → step.polls < 2 ^ 32 → first.waits ≡ 0 → first.moves ≡ 0 → 0 < step.most → parting_of call ≡ parting_of step.call
    → OfLastIn later step.polls first (λ x asked. PlaysOne (limits_of step) first x b asked out) (asking (request_of at.rule.depth call) old a) (request_of at.rule.depth call) → (stop : Place) × PlaysInTurn start first at step call old out stop b
turns_through [] start first old at a b step call out h p z v l parts (m, (said, fs, ends, last), over, so, outcome) =
    let e = subst (λ (q : Parting). Ended (record { polls = step.polls; most = step.most; parting = q }) first (asking (request_of at.rule.depth call) old a) m (request_of at.rule.depth call) out.items out.end said fs) (sym parts) ends in
    let is : b ≡ behind_end out.end (copy_behind (parting_of call) out.end m) = so ∙ ap (λ (q : Parting). behind_end out.end (copy_behind q out.end m)) (sym parts) in
    let found = ends_summary a.broken (limits_of (exchange_of step call)) first (asking (request_of at.rule.depth call) old a) m at.rule.depth call said (heard fs) out.items out.end e.ends in
    let stop : Place = next_place at m said found.1.own fs out.end in
    let turn = last_turn start first old at a m step call out.items out.end said fs h p z v l parts e last over found in (
      stop,
      subst (λ (x : Outcome). PlaysInTurn start first at step call old x stop b) (sym (outcome ∙ ap (λ (x : ConnSeen). outcome_of x out.items out.end) is))
          (subst (λ (x : ConnSeen). PlaysInTurn start first at step call old (outcome_of (behind_end out.end (copy_behind (parting_of call) out.end m)) out.items out.end) stop x) (sym is) turn.0),
    )
turns_through (next ∷ later) start first old at a b step call out h p z v l parts (m, hands, behind) =
    let r = request_of at.rule.depth call in
    let t = turns_on start first old at a m step call next h p z l hands in
    let stood = hands.handed.went.started.3 in
    let conn : ConnSeen = held_conn (knowing hands.learnt m) next in
    let made : conn.cache ≡ over old.cache t.settles.out.cache = t.settles.others.4 ∙ ap (λ (x : Standing). over x.cache t.settles.out.cache) stood in
    let further = subst (λ (q : Request). OfLastIn later step.polls first (λ x asked. PlaysOne (limits_of step) first x b asked out) (asking q (counted_by conn) conn) q) (sym t.asks)
    (subst (λ (x : ConnSeen). OfLastIn later step.polls first (λ x asked. PlaysOne (limits_of step) first x b asked out) x (asked_from m next)) (handed_asking step.polls first (asking r old a) m r next hands) behind) in
    let others = turns_through later start first (counted_by conn) t.settles.next conn b step t.part out t.begins p z v l (next_parts (settled m).rule call t.one.one.told.response t.part t.behind ∙ parts) further in
    let o = others.1 in (
      others.0,
      record {
        turns = more_turns start at t.mid others.0 m conn b step call t.part old out t.one t.settles t.comes made o.turns;
        dropped = λ k. dropped_from at t.settles.next others.0 step out (omega (arith, t.one.counts.write_waits, ap (λ (y : StreamSeen). y.link.write_waits) t.settles.settles.seen, ap (λ (y : LinkSeen). y.write_waits) (left_link call t.one.one.own (ends.Ok AnswersUnit) t.mid t.settles.left t.settles.leaves))) (o.dropped k);
        few = o.few;
        most = λ w. o.most (ap waits_how (next_how (settled m).rule call t.one.one.told.response t.part t.behind) ∙ w);
        waits = o.waits;
        calls = o.calls;
      },
    )
