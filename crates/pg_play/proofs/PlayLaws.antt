-- A step, steps one after another, and the bytes of a link that tells them.
use Rattle.std.proofs.Common.{◌≡◌, ◌≢◌, ℕ, ◌+◌, ◌*◌, ◌^◌, ◌≤◌, ◌<◌, Bool, true, false, cond, ◌⊎◌, inl, inr, List, [], ◌∷◌, ◌++◌, length, replicate, refl, sym, ap, ap₂, ◌∙◌, subst, arith, append_assoc, append-nil, Option, Some, None, sum_by}
use Rattle.pg_play.proofs.IdleLaws.{idles_all}
use Rattle.pg_play.specs.Idles.{SaysIdle, statuses}
use Rattle.pg_play.proofs.SettledLaws.{SettlesTo, asks_none, settles_rollback, acts_tell, cleanup_polled, depth_other, depth_stands, moved_other, none_handed}
use Rattle.std.specs.Io.KnownBytes.{Appends}
use Rattle.pg_wire.specs.declared.error.Error.TheVariants as errors
use Rattle.pg_wire.specs.declared.error.Error.{Error}
use Rattle.pg_wire.specs.declared.error.ServerFault.{ServerFault}
use Rattle.pg_wire.specs.Frame.{Frame, text_of, backend_tags}
use Rattle.pg_wire.specs.Parts.{heard}
use Rattle.pg_wire.specs.Frontend.{FrontendMessage}
use Rattle.pg_wire.proofs.CutLaws.{cut_after_taken}
use Rattle.pg_stream.specs.Links.{LinkSeen, GrewBy, NoneFalls}
use Rattle.pg_stream.specs.Streams.{StreamSeen}
use Rattle.pg_stream.proofs.Known.{Appends-then, Appends-refl, NoneFalls-refl, NoneFalls-then}
use Rattle.pg_stream.specs.declared.link.TlsWish.{TlsWish}
use Rattle.pg_startup.specs.Handshake.{ReadyOf, IsSecured, HasBegun}
use Rattle.pg_startup.specs.Exchange.{proofs_text}
use Rattle.pg_startup.specs.Establishing.{EstablishSeen}
use Rattle.pg_call.specs.declared.request.Request.{Request}
use Rattle.pg_call.specs.Requests.{Group, spelled, groups_of, copy_fail}
use Rattle.pg_call.specs.Requests.{kind_of, change_of}
use Rattle.pg_call.specs.declared.kind.Change.{Change}
use Rattle.pg_call.specs.declared.calling.Call.TheVariants as states
use Rattle.pg_rule.specs.declared.rule.Rule.{Rule}
use Rattle.pg_conn.specs.Statements.{asked_by, begun_as, held_by, unmoved}
use Rattle.pg_conn.specs.Turns.{first_exchange}
use Rattle.pg_conn.specs.Connections.{ConnSeen, cleaned, counted_anew, ended as ended_conn, fresh_connection, learnt_for, with_depth, with_spare, left}
use Rattle.pg_report.specs.declared.outcome.Item.{Item}
use Rattle.pg_report.specs.declared.outcome.Answer.TheVariants.{Unit as AnswersUnit}
use Rattle.pg_report.specs.declared.outcome.End.{End}
use Rattle.pg_report.specs.declared.outcome.End.TheVariants as ends
use Rattle.pg_report.specs.declared.outcome.Outcome.{Outcome}
use Rattle.pg_report.specs.declared.outcome.Started.{Started}
use Rattle.pg_script.specs.declared.step.Call.{Call}
use Rattle.pg_script.specs.declared.step.Call.TheVariants as calls
use Rattle.pg_script.specs.declared.step.Step.{Step}
use Rattle.pg_script.specs.declared.step.Parting.{Parting}
use Rattle.pg_script.specs.declared.step.Parting.TheVariants as partings
use Rattle.pg_play.specs.Shown.{parting_of, request_of, has_query, shown_by, acts_at_once, begins_with, exchange_for, waits_how}
use Rattle.pg_play.specs.Calls.{Ended, WaitsFew, PlaysCall, PlaysStep, IsUnpolled, limits_of, untouched, outcome_of, rolled_outcome, broken_after, behind_end, change_fed, change_for, copy_behind, none_counted, begun_call, all_groups, first_conn, LooksFirst, OfLastOn, PlaysOne, EndsOn, knowing, Bounds}
use Rattle.pg_play.specs.Places.{Place, owed, drained, unfed, queued_by, refuses_copy, Queues, first_place, is_fine}
use Rattle.pg_play.specs.Told.{Numbers, CountsTo, WellAtOk}
use Rattle.pg_play.specs.Causes.{AnsweredPending, IsDropped, IsDroppedAs, HasCause, KeepsFault, EndsDuly, OpensSavepoint}
use Rattle.pg_play.specs.Settling.{Settles, has_moved, statements_after, step_after}
use Rattle.pg_play.specs.WaitPlaces.{LastPlaces}
use Rattle.pg_play.specs.Chained.{AreChained, IsChained}
use Rattle.pg_play.specs.Locks.{Guards}
use Rattle.pg_play.proofs.LockLaws.{settles_release}
use Rattle.pg_play.specs.Plays.{IsNeverUnlawful, Plays_call, ActsAtOnce, Plays_step, Plays_from, places_in, TakesInTime, StandsAt, PlaysOn, PlaysInOrder, PlaysChain, PlaysAll, TellsBytes, PlaysCalls, Plays, Totals, KeepsRoom, over, BeginsAs, begun_at, forgets_at, known_at}
use Rattle.pg_play.specs.Starts.{Opening, IsOf, HasOpened, HasWaitedLess}
use Rattle.pg_startup.proofs.FlowLaws.{Flows-none}
use Rattle.pg_play.proofs.PartLaws.{take_none}
use Rattle.pg_call.proofs.RefusalLaws.{memory_refuses}
use Rattle.pg_play.specs.Shown.{asked_of, first_call, IsWanted}
use Rattle.pg_play.specs.Copying.{LeavesCopy}
use Rattle.pg_play.proofs.CopyLaws.{leaves_none, fails_nothing}
use Rattle.pg_play.proofs.UncopiedLaws.{calls_plain}
use Rattle.pg_play.proofs.SettleLaws.{left_link}
use Rattle.pg_play.proofs.FirstLaws.{left_idle, first_changes, wanted_held, wanted_stays}
use Rattle.pg_play.proofs.ExchangeLaws.{first_parts, first_request, first_acts, first_begins_with, first_waits, asked_wanted, exchange_asks}
use Rattle.pg_play.proofs.BehindLaws.{keeps_first, keeps_next}
use Rattle.pg_play.proofs.KeptLaws.{first_sound}
use Rattle.pg_play.proofs.FollowLaws.{first_holds, first_known}
use Rattle.pg_play.specs.Kept.{Keeps}
use Rattle.pg_call.specs.declared.kind.Keeping.{Keeping}
use Rattle.pg_call.specs.declared.kind.Keeping.TheVariants as keepings
use Rattle.pg_call.specs.declared.statement.Extended.{Extended}
use Rattle.pg_request.specs.declared.progress.CacheStep.{CacheStep}
use Rattle.pg_request.specs.declared.progress.CacheStep.TheVariants as cache
use Rattle.pg_conn.specs.Statements.{step_of}
use Rattle.pg_conn.specs.Connections.{Standing}
use Rattle.pg_call.specs.Requests.{keeping_of}
use Rattle.pg_play.proofs.DueLaws.{WithinMost, some_of, polled_most, and_true, duly_step, duly_handed, duly_out}
use Rattle.pg_play.proofs.PlaceLaws.{ends_summary, next_place}
use Rattle.pg_play.proofs.ToldLaws.{CountsOn}
use Rattle.pg_play.proofs.LinkLaws.{where_lawful, totals_all}
use Rattle.pg_play.proofs.CompleteLaws.{where_faultless}
use Rattle.pg_play.proofs.InTurnLaws.{AddUp, exchange_of, add_none, add_one, add_alone, counts_settled, InTurn, one_turn, BeginsAt, PlaysInTurn, same_but_groups, last_turn, turns_through}
use Rattle.pg_play.proofs.WaitPlaceLaws.{places_quiet, places_last, given_next, takes_all}
use Rattle.pg_learning.specs.declared.learnt.Learnt.{Learnt}
use Rattle.pg_learning.specs.Learning.{unnamed_types}
use Rattle.pg_conn.specs.Looking.{named_in, LooksUp}
use Rattle.pg_play.proofs.BeforeLaws.{before_first, looked_begun, begins_before, dropped_before, duly_looked, keeps_begun, stands_so_at}
use Rattle.pg_play.proofs.ForgetLaws.{begins_forgotten, forgets_so, knows_act, knows_query, knows_savepoint, knows_unpolled}
use Rattle.pg_play.proofs.ThroughLaws.{named_is, named_self}

-- ---- one step

abbrev StepsTo : StreamSeen → Place → Step → Outcome → ConnSeen → Type 0
StepsTo start at step out d = (next : Place) × Plays_step at step out next × StandsAt start next d × Keeps next

-- a step begins with the first exchange of its call
abbrev first_step : Rule → Step → Step
first_step rule step = record step { call = first_call rule step.call }

counts_to : (n m k : ℕ) → GrewBy n 0 m → k ≡ m → CountsTo n k
counts_to n m k g e = (omega (arith, g.1, e), omega (arith, g.2, e))

-- nothing was learnt before the first exchange, which asks nothing where it has types that are known by their names alone
begins_plain : (o : Option Request) (first : Call) (at : Learnt) (groups : ℕ) → ((told : Request) → o ≡ Some told → groups ≡ 0) → BeginsAs o first at groups first at
begins_plain None first at groups g = (refl, refl)
begins_plain (Some x) first at groups g = inl (refl, refl, g x refl)

-- its exchanges come in turn, and their numbers are told in sum
steps_to : (start : StreamSeen) (at : Place) (step : Step) (out : Outcome) (stop : Place) (d : ConnSeen) (learnt : Learnt) (call : Call) → known_at at step ≡ at.learnt → BeginsAs (named_in (request_of at.rule.depth (first_call at.rule step.call))) (first_call at.rule step.call) at.learnt out.groups call learnt
    → InTurn start (begun_at at learnt) step call none_counted out stop d → out.waits < 2 ^ 32 → d.stream.link.calls ≤ at.seen.link.calls + 256 * (step.polls + step.most) → (out.end ≡ ends.Dropped → IsDropped at step out stop)
    → (acts_at_once step.call ≡ true → ActsAtOnce at out stop) → (acts_at_once step.call ≡ false → EndsDuly at step (request_of at.rule.depth (first_call at.rule step.call)) out stop) → StepsTo start at step out d
steps_to start at step out stop d learnt call knows begins t few calls dropped now duly = (
  t.next,
  record {
    exchanges = exchange_of step call ∷ t.later;
    outs = t.told ∷ t.outs;
    learnt = learnt;
    run = t.run;
    first = (subst (λ (l : Learnt). BeginsAs (named_in (request_of at.rule.depth (first_call at.rule step.call))) (first_call at.rule step.call) l out.groups call learnt) (sym knows) begins, refl);
    limits = ((refl, refl), t.limits);
    hands = t.hands;
    tells = record {
      items = t.items;
      ends = t.ends;
      groups = counts_to (sum_by (λ (x : Outcome). x.groups) (t.told ∷ t.outs)) out.groups out.groups t.adds.groups refl;
      heard = counts_to (sum_by (λ (x : Outcome). x.heard) (t.told ∷ t.outs)) out.heard out.heard t.adds.heard refl;
      waits = exactly (sum_by (λ (x : Outcome). x.waits) (t.told ∷ t.outs)) out.waits t.adds.waits few;
      moved = counts_to (sum_by (λ (x : Outcome). x.moved) (t.told ∷ t.outs)) out.moved out.moved t.adds.moved refl;
      cache = t.caches;
    };
    stop = stop;
    stops = t.stops;
    calls = omega (arith, calls, ap (λ (x : StreamSeen). x.link.calls) t.stands.seen);
    dropped = dropped;
    at_once = now;
    duly = duly;
  },
  t.stands,
  t.keeps,
)
  where
    exactly : (n m : ℕ) → GrewBy n 0 m → m < 2 ^ 32 → m ≡ n
    exactly n m g l = omega (arith, g, l)

none_opens : (m : ConnSeen) → m.groups ≡ 0 → cleaned m ≡ ended_conn (record m { rule = unmoved m.keeping m.rule })
none_opens m e = rw e refl

-- where no group was queued, an end that isn't Ok tells nothing of the statements
still_made : (end : End) (m : ConnSeen) → all_groups m ≡ 0 → is_fine end ≡ false → (all_groups (behind_end end m) ≡ 0) × ((behind_end end m).cache ≡ m.cache)
still_made (ends.Ok answer) m e f = absurd cc
still_made (ends.Err x) m e f = let is = none_opens m (omega (arith, e)) in (ap (λ (c : ConnSeen). all_groups c) is ∙ e, ap (λ (c : ConnSeen). c.cache) is)
still_made ends.Dropped m e f = let is = none_opens m (omega (arith, e)) in (ap (λ (c : ConnSeen). all_groups c) is ∙ e, ap (λ (c : ConnSeen). c.cache) is)

-- nor does a call that makes nothing of them
plainly_made : (end : End) (m : ConnSeen) → all_groups m ≡ 0 → m.keeping ≡ keepings.Stays → (all_groups (behind_end end m) ≡ 0) × ((behind_end end m).cache ≡ m.cache)
plainly_made (ends.Ok answer) m e k = (e, ap (λ (x : Keeping). step_of x m.cache) k)
plainly_made (ends.Err x) m e k = still_made (ends.Err x) m e refl
plainly_made ends.Dropped m e k = still_made ends.Dropped m e refl

-- the first exchange of a call begins as any other
begins_first : (start : StreamSeen) (at : Place) (a : ConnSeen) (step : Step) → StandsAt start at a → Keeps at → acts_at_once step.call ≡ false → BeginsAt start at a none_counted (first_call at.rule step.call)
begins_first start at a step st k later = record {
  stands = st;
  polled = first_acts at.rule step.call ∙ later;
  known = first_known start at a at.rule.depth step.call st k;
  fits = omega arith;
  keeps = k;
  sound = first_sound at.rule step.call;
  holds = first_holds at at.rule step.call;
}

-- what its exchanges came to is the step's
polled_turns : (start : StreamSeen) (at : Place) (a b : ConnSeen) (step : Step) (out : Outcome) (stop : Place) → known_at at step ≡ at.learnt → StandsAt start at a → acts_at_once step.call ≡ false → step.polls < 2 ^ 32 → PlaysInTurn start (begun_call (request_of at.rule.depth (first_call at.rule step.call)) a).stream at step (first_call at.rule step.call) none_counted out stop b
    → ((told : Request) → named_in (request_of at.rule.depth (first_call at.rule step.call)) ≡ Some told → out.groups ≡ 0) → EndsDuly at step (request_of at.rule.depth (first_call at.rule step.call)) out stop → StepsTo start at step out b
polled_turns start at a b step out stop knows st later p o asks duly =
    steps_to start at step out stop b at.learnt (first_call at.rule step.call) knows (begins_plain (named_in (request_of at.rule.depth (first_call at.rule step.call))) (first_call at.rule step.call) at.learnt out.groups asks) o.turns (omega (arith, o.waits, p)) (omega (arith, o.calls, ap (λ (x : StreamSeen). x.link.calls) st.seen)) o.dropped (λ now. let x = sym later ∙ now in absurd cc)
    (λ x. duly)

-- what is told of a connection by its groups, where its call asked nothing
groups_of_idle : (a m : ConnSeen) → a.groups ≡ 0 → a.earlier ≡ 0 → m.groups ≡ a.groups → m.earlier ≡ a.earlier → all_groups m ≡ 0
groups_of_idle a m g e h k = omega (arith, g, e, h, k)

-- what has types that are known by their names alone asks nothing as it is
named_idles : (o : Option ServerFault) (limits : Bounds) (first : StreamSeen) (a m : ConnSeen) (r : Request) (said : List FrontendMessage) (fs : List Frame) (shown : List Item) (end : End) (x : Request) → a.broken ≡ o → a.groups ≡ 0 → a.earlier ≡ 0 → named_in r ≡ Some x → Ended limits first a m r shown end said fs → EndsOn o limits first a m r said (heard fs) shown end
    → (all_groups m ≡ 0) × (is_fine end ≡ false)
named_idles None limits first a m r said fs shown end x w g e n ended ends =
    let h = (ended.at_once w).refused (inr (x, n)) in
    let idle = h.3.2 in
    (groups_of_idle a m g e (ap (λ (c : ConnSeen). c.groups) idle) (ap (λ (c : ConnSeen). c.earlier) idle), ap is_fine h.2)
named_idles (Some fault) limits first a m r said fs shown end x w g e n ended (is, s, hs, sh, idle) =
    (groups_of_idle a m g e (ap (λ (c : ConnSeen). c.groups) idle) (ap (λ (c : ConnSeen). c.earlier) idle), ap is_fine is)

polled_plain : (start : StreamSeen) (at : Place) (a b : ConnSeen) (step : Step) (out : Outcome) → known_at at step ≡ at.learnt → StandsAt start at a → Keeps at → (IsUnpolled step → ⊥) → (OpensSavepoint at step → ⊥) → acts_at_once step.call ≡ false → step.polls < 2 ^ 32
    → OfLastOn step.polls (begun_call (request_of at.rule.depth (first_call at.rule step.call)) a).stream (λ x asked. PlaysOne (limits_of step) (begun_call (request_of at.rule.depth (first_call at.rule step.call)) a).stream x b asked out) (begun_call (request_of at.rule.depth (first_call at.rule step.call)) a) (request_of at.rule.depth (first_call at.rule step.call))
    → StepsTo start at step out b
polled_plain start at a b step out knows st k n opens later p ([], (m, (said, fs, ends, last), over, so, outcome)) =
    let call = first_call at.rule step.call in
    let parts = first_parts at.rule step.call in
    let e = subst (λ (q : Parting). Ended (record { polls = step.polls; most = step.most; parting = q }) (begun_call (request_of at.rule.depth call) a).stream (begun_call (request_of at.rule.depth call) a) m (request_of at.rule.depth call) out.items out.end said fs) (sym parts) ends in
    let is : b ≡ behind_end out.end (copy_behind (parting_of call) out.end m) = so ∙ ap (λ (q : Parting). behind_end out.end (copy_behind q out.end m)) (sym parts) in
    let r = request_of at.rule.depth call in
    let begun = begun_call r a in
    let d : ConnSeen = behind_end out.end (copy_behind (parting_of call) out.end m) in
    let raw : Outcome = outcome_of m out.items out.end in
    let real : Outcome = outcome_of d out.items out.end in
    let found = ends_summary a.broken (limits_of (exchange_of step call)) begun.stream begun m at.rule.depth call said (heard fs) out.items out.end e.ends in
    let stop : Place = next_place at m said found.1.own fs out.end in
    let turn = last_turn start begun.stream none_counted at a m step call out.items out.end said fs (begins_first start at a step st k later) p refl refl (polled_most step n) parts e last over found in
    let dues : EndsDuly at step r raw stop = duly_step start at a m step r raw said fs found.0 st n opens p ends found.1 refl (λ x. ap (λ (y : Call). request_of at.rule.depth (first_call at.rule y)) x) (λ w. turn.0.most (first_waits at.rule step.call w)) in
    let asks_none = λ (x : Request) (named : named_in r ≡ Some x). (
    let idles = named_idles a.broken (limits_of step) begun.stream begun m r said fs out.items out.end x refl refl refl named ends ends.ends in
    subst (λ (c : ConnSeen). (all_groups (behind_end out.end c) ≡ 0) × ((behind_end out.end c).cache ≡ m.cache)) (sym (turn.2 idles.0)) (still_made out.end m idles.0 idles.1)).0 in
    let steps : StepsTo start at step real d = polled_turns start at a d step real stop knows st later p turn.0 asks_none (duly_out at step r raw real stop turn.1 (λ z f. subst (λ (c : ConnSeen). (all_groups (behind_end out.end c) ≡ 0) × ((behind_end out.end c).cache ≡ m.cache)) (sym (turn.2 z)) (still_made out.end m z f))
    (λ z c. subst (λ (x : ConnSeen). (all_groups (behind_end out.end x) ≡ 0) × ((behind_end out.end x).cache ≡ m.cache)) (sym (turn.2 z)) (plainly_made out.end m z (ap (λ (x : Standing). x.keeping) e.went.started.3 ∙ ap (λ (y : Call). keeping_of (request_of at.rule.depth (first_call at.rule y))) c))) dues) in
    subst (λ (x : Outcome). StepsTo start at step x b) (sym (outcome ∙ ap (λ (x : ConnSeen). outcome_of x out.items out.end) is)) (subst (λ (x : ConnSeen). StepsTo start at step real x) (sym is) steps)
polled_plain start at a b step out knows st k n opens later p (next ∷ more, played) =
    let r = request_of at.rule.depth (first_call at.rule step.call) in
    let t = turns_through (next ∷ more) start (begun_call r a).stream none_counted at a b step (first_call at.rule step.call) out (begins_first start at a step st k later) p refl refl (polled_most step n) (first_parts at.rule step.call) played in
    polled_turns start at a b step out t.0 knows st later p t.1 (λ x named. absurd (played.1.handed.unsaid (inr (x, named))))
    (duly_handed start at t.0 a played.0 step r played.1.told out st n opens played.1.handed (λ x. ap (λ (y : Call). request_of at.rule.depth (first_call at.rule y)) x) t.1.few (λ w. t.1.most (first_waits at.rule step.call w)))

-- where something is looked up first, the exchanges begin with what is known then
polled_step : (start : StreamSeen) (at : Place) (a b : ConnSeen) (step : Step) (out : Outcome) → known_at at step ≡ at.learnt → StandsAt start at a → Keeps at → (IsUnpolled step → ⊥) → (OpensSavepoint at step → ⊥) → acts_at_once step.call ≡ false → step.polls < 2 ^ 32
    → PlaysCall (limits_of step) (begun_call (request_of at.rule.depth (first_call at.rule step.call)) a) b (request_of at.rule.depth (first_call at.rule step.call)) out → StepsTo start at step out b
polled_step start at a b step out knows st k n opens later p (from, asked, inl (f, q), on) =
    let r = request_of at.rule.depth (first_call at.rule step.call) in
    let begun = begun_call r a in
    polled_plain start at a b step out knows st k n opens later p
    (subst (λ (x : Request). OfLastOn step.polls begun.stream (λ y z. PlaysOne (limits_of step) begun.stream y b z out) begun x) q (subst (λ (x : ConnSeen). OfLastOn step.polls begun.stream (λ y z. PlaysOne (limits_of step) begun.stream y b z out) x asked) f on))
polled_step start at a b step out knows st k n opens later p (from, asked, inr h, on) = by (named_in (request_of at.rule.depth (first_call at.rule step.call))) refl h
  where
    r : Request
    r = request_of at.rule.depth (first_call at.rule step.call)

    begun : ConnSeen
    begun = begun_call r a

    by : (o : Option Request) → named_in r ≡ o → LooksFirst o begun from asked → StepsTo start at step out b
    by None e h = absurd h
    by (Some told) e (whole, can, (learnt, next, looks, is, f)) =
        let looks_so : LooksUp told at.learnt next learnt = subst (λ (l : Learnt). LooksUp told l next learnt) st.learnt looks in
        let first = before_first at.rule at.rule.depth step.call told next at.learnt learnt e looks_so in
        let known : ConnSeen = knowing learnt a in
        let asks : request_of at.rule.depth (exchange_for next) ≡ asked = exchange_asks at.rule.depth next first.stands ∙ sym first.same ∙ ap (λ (k : Rule). asked_by k next) (sym st.rule) ∙ sym is in
        let from_is = looked_begun a r told asked next learnt from (named_is r told e) (named_self r told e) is f looks (first.held a.rule) in
        let on_so = subst (λ (q : Request). OfLastOn step.polls begun.stream (λ y z. PlaysOne (limits_of step) begun.stream y b z out) (begun_call q known) q) (sym asks)
        (subst (λ (c : ConnSeen). OfLastOn step.polls begun.stream (λ y z. PlaysOne (limits_of step) begun.stream y b z out) c asked) from_is on) in
        let t = turns_through on_so.0 start begun.stream none_counted (begun_at at learnt) known b step (exchange_for next) out (begins_before start at a step told next learnt st k e looks_so) p refl refl (polled_most step n)
        (first.parts ∙ first_parts at.rule step.call) on_so.1 in
        let o = t.1 in
        steps_to start at step out t.0 b learnt (exchange_for next) knows (subst (λ (z : Option Request). BeginsAs z (first_call at.rule step.call) at.learnt out.groups (exchange_for next) learnt) (sym e) (inr (next, looks_so, refl))) o.turns (omega (arith, o.waits, p))
        (omega (arith, o.calls, ap (λ (y : StreamSeen). y.link.calls) st.seen)) (λ z. dropped_before (parting_of step.call) at learnt step out t.0 (o.dropped z)) (λ now. let y = sym later ∙ now in absurd cc)
        (λ y. duly_looked at step r out t.0 told n opens (sym st.broken ∙ whole) can e (λ c. ap (λ (z : Call). request_of at.rule.depth (first_call at.rule z)) c) o.few (λ w. o.most (ap waits_how first.how ∙ first_waits at.rule step.call w)))

-- a step that does nothing, and is no failure of the server
abbrev IsQuiet : End → Type 0
IsQuiet end = (end ≡ ends.Dropped) ⊎ ((end ≡ ends.Err errors.OutOfMemory) ⊎ ((end ≡ ends.Err errors.InvalidSavePointStatement) ⊎ (end ≡ ends.Ok AnswersUnit)))

quiet_copies : (end : End) → IsQuiet end → refuses_copy end ≡ false
quiet_copies end (inl e) = ap refuses_copy e
quiet_copies end (inr (inl e)) = ap refuses_copy e
quiet_copies end (inr (inr (inl e))) = ap refuses_copy e
quiet_copies end (inr (inr (inr e))) = ap refuses_copy e

quiet_breaks : (o : Option ServerFault) (end : End) → IsQuiet end → broken_after o end ≡ o
quiet_breaks None end (inl e) = ap (broken_after None) e
quiet_breaks None end (inr (inl e)) = ap (broken_after None) e
quiet_breaks None end (inr (inr (inl e))) = ap (broken_after None) e
quiet_breaks None end (inr (inr (inr e))) = ap (broken_after None) e
quiet_breaks (Some fault) end q = refl

-- at Ok nothing was to be queued
quiet_queues : (end : End) (whole : List Group) → IsQuiet end → (is_fine end ≡ true → whole ≡ []) → Queues end whole []
quiet_queues end whole (inl e) f = subst (λ (z : End). Queues z whole []) (sym e) (whole, refl)
quiet_queues end whole (inr (inl e)) f = subst (λ (z : End). Queues z whole []) (sym e) (whole, refl)
quiet_queues end whole (inr (inr (inl e))) f = subst (λ (z : End). Queues z whole []) (sym e) (whole, refl)
quiet_queues end whole (inr (inr (inr e))) f = subst (λ (z : End). Queues z whole []) (sym e) (sym (f (ap is_fine e)))

quiet_said : (at : Place) (end : End) → IsQuiet end → queued_by at [] [] end ≡ []
quiet_said at end q =
    let none : drained at [] ≡ [] = take_none (owed at) in
    ap (λ (xss : List (List Frame)). (replicate (unfed at.is_copy_failed xss) copy_fail ++ []) ++ cond (refuses_copy end) (copy_fail ∷ []) []) none
    ∙ ap (λ (b : Bool). (replicate (unfed at.is_copy_failed []) copy_fail ++ []) ++ cond b (copy_fail ∷ []) []) (quiet_copies end q) ∙ empty at.is_copy_failed
  where
    empty : (f : Bool) → (replicate (unfed f []) copy_fail ++ []) ++ [] ≡ []
    empty true = refl
    empty false = refl

quiet_well : (end : End) (step : Step) (out : Outcome) (at : Place) → IsQuiet end → (is_fine end ≡ true → acts_at_once step.call ≡ true) → acts_at_once step.call ≡ false → WellAtOk end step out [] [] at
quiet_well end step out at (inl e) f a = subst (λ (z : End). WellAtOk z step out [] [] at) (sym e) tt
quiet_well end step out at (inr (inl e)) f a = subst (λ (z : End). WellAtOk z step out [] [] at) (sym e) tt
quiet_well end step out at (inr (inr (inl e))) f a = subst (λ (z : End). WellAtOk z step out [] [] at) (sym e) tt
quiet_well end step out at (inr (inr (inr e))) f a = let x = sym a ∙ f (ap is_fine e) in absurd cc

quiet_lawful : (at : Place) (out : Outcome) → IsQuiet out.end → IsNeverUnlawful at out at
quiet_lawful at out (inl e) tag front gs w x f l = let y = sym e ∙ x in absurd cc
quiet_lawful at out (inr (inl e)) tag front gs w x f l = let y = sym e ∙ x in absurd cc
quiet_lawful at out (inr (inr (inl e))) tag front gs w x f l = let y = sym e ∙ x in absurd cc
quiet_lawful at out (inr (inr (inr e))) tag front gs w x f l = let y = sym e ∙ x in absurd cc

quiet_numbers : (at : Place) (end : End) → Numbers at (untouched end) [] [] at
quiet_numbers at end = record {
  groups = refl;
  heard = refl;
  cache = refl;
  write_waits = 0;
  read_waits = 0;
  moves = 0;
  waits = omega arith;
  moved = refl;
  writes = omega arith;
  reads = omega arith;
  moving = omega arith;
}

quiet_keeps : (fault : ServerFault) (at : Place) (end : End) → IsQuiet end → KeepsFault fault at end at
quiet_keeps fault at end (inl e) = (refl, λ other x. let y = sym e ∙ x in absurd cc)
quiet_keeps fault at end (inr (inl e)) = (refl, λ other x. let y = sym e ∙ x in absurd cc)
quiet_keeps fault at end (inr (inr (inl e))) = (refl, λ other x. let y = sym e ∙ x in absurd cc)
quiet_keeps fault at end (inr (inr (inr e))) = (refl, λ other x. let y = sym e ∙ x in absurd cc)

quiet_call : (at : Place) (step : Step) (out : Outcome) (end : End) → out ≡ untouched end → IsQuiet end → (is_fine end ≡ true → acts_at_once step.call ≡ true) → HasCause at step [] [] at end → (acts_at_once step.call ≡ true → (out ≡ untouched (ends.Ok AnswersUnit)) × (at ≡ at)) → Plays_call at step out at
quiet_call at step out end k q f c now =
    let ends_so : out.end ≡ end = ap (λ (x : Outcome). x.end) k in
    let shows_none : out.items ≡ [] = ap (λ (x : Outcome). x.items) k in
    let quiet : IsQuiet out.end = subst IsQuiet (sym ends_so) q in
    let fine : is_fine out.end ≡ true → acts_at_once step.call ≡ true = λ e. f (ap is_fine (sym ends_so) ∙ e) in
    record {
      own = [];
      slice = [];
      queued = record {
        asks = quiet_queues out.end (groups_of (request_of at.rule.depth step.call)) quiet (λ e. at_once_asks at.rule.depth step.call (fine e));
        can = λ n. absurd (n refl);
        said = sym (ap (λ (x : List FrontendMessage). at.said ++ x) (quiet_said at out.end quiet) ∙ append-nil at.said);
        groups = sym (append-nil at.groups);
        rule = refl;
        learns = ([], tt, refl);
        taken = sym (append-nil (heard at.frames));
        failed = sym (and_true at.is_copy_failed);
        broken = sym (quiet_breaks at.broken out.end quiet);
        unfailed = refl;
        in_turn = λ n. absurd (n refl);
      };
      sends = ([], Appends-refl at.seen.link.taken, ap (λ (m : List FrontendMessage). at.seen.unsent ++ spelled m) (quiet_said at out.end quiet) ∙ append-nil at.seen.unsent);
      told = record {
        response = [];
        says = (refl, tt);
        shows = (shown_by step.call [], ap (λ (x : List Item). x ++ shown_by step.call []) shows_none);
        with_answer = λ w n. shows_none;
        well = quiet_well out.end step out at quiet fine;
        error = inl tt;
      };
      numbers = subst (λ (x : Outcome). Numbers at x [] [] at) (sym k) (quiet_numbers at end);
      cause = subst (λ (z : End). HasCause at step [] [] at z) (sym ends_so) c;
      at_once = now;
      kept = λ fault w. quiet_keeps fault at out.end quiet;
    }
  where
    at_once_asks : (d : ℕ) (call : Call) → acts_at_once call ≡ true → groups_of (request_of d call) ≡ []
    at_once_asks d calls.StartRollback e = refl
    at_once_asks d (calls.Release text) e = refl
    at_once_asks d _ e = absurd cc

-- what a step asks first makes nothing of the statements, where it isn't asked
first_unmoved : (rule : Rule) (d : ℕ) (call : Call) → unmoved (keeping_of (request_of d (first_call rule call))) rule ≡ rule
first_unmoved rule d call =
    let wanted = asked_wanted d call in
    ap (λ (r : Request). unmoved (keeping_of r) rule) (first_request rule d call)
    ∙ ap (λ (k : Rule). unmoved (keeping_of (asked_by rule (begun_as rule (asked_of d call)))) k) (sym (wanted_held rule (asked_of d call) wanted))
    ∙ wanted_stays rule (asked_of d call) wanted

over_same : (step : CacheStep) → step ≡ over cache.Same step
over_same cache.Same = refl
over_same cache.Hit = refl
over_same cache.Put = refl
over_same cache.PutEvicting = refl

-- and the connection makes nothing of it
quiet_step : (start : StreamSeen) (at : Place) (a : ConnSeen) (step : Step) (out : Outcome) (end : End) → known_at at step ≡ at.learnt → StandsAt start at a → Keeps at → acts_at_once step.call ≡ false → is_fine end ≡ false → out ≡ untouched end → IsQuiet end → (one : Plays_call at (first_step at.rule step) out at) → one.own ≡ [] → (out.end ≡ ends.Dropped → IsDropped at step out at)
    → EndsDuly at step (request_of at.rule.depth (first_call at.rule step.call)) out at → StepsTo start at step out a
quiet_step start at a step out end knows st kept later f k q one none dropped duly =
    let ends_so : out.end ≡ end = ap (λ (x : Outcome). x.end) k in
    let groups : out.groups ≡ 0 = ap (λ (x : Outcome). x.groups) k in
    let waits : acts_at_once (first_call at.rule step.call) ≡ false = first_acts at.rule step.call ∙ later in
    let made : has_moved one.own out.end ≡ false = ap (λ (o : List Group). has_moved o out.end) none ∙ moved_other [] out.end (ap is_fine ends_so ∙ f) in
    let call : Call = first_call at.rule step.call in
    let settles : Settles at (first_step at.rule step) out out one.own one.told.response at at = record {
      cleanup = [];
      cleans = rw none (sym (cleanup_polled at.rule.depth (first_call at.rule step.call) out.end [] (owed at) waits));
      asks = None;
      looks = asks_none out.end call one.told.response at.learnt (none_handed out.end call one.told.response (ap is_fine ends_so ∙ f));
      rule = sym (
          ap₂ (λ (b : Bool) (n : ℕ). statements_after (keeping_of (request_of at.rule.depth call)) b (with_depth n at.rule)) made (depth_other at.rule.depth call out.end (ap is_fine ends_so ∙ f) waits)
          ∙ first_unmoved at.rule at.rule.depth step.call
          );
      said = sym (append-nil at.said);
      groups = sym (append-nil at.groups);
      seen = ap (λ (u : List ℕ). record at.seen { unsent = u }) (sym (append-nil at.seen.unsent));
      frames = refl;
      failed = refl;
      broken = refl;
      unfailed = refl;
      outcome = refl;
      cache = ap (λ (x : Outcome). x.cache) k ∙ ap (λ (b : Bool). step_after (keeping_of (request_of at.rule.depth call)) b) (sym made);
      counted = rw (none, groups) (omega arith);
    } in
    let none_waits : out.waits ≡ 0 = ap (λ (x : Outcome). x.waits) k in
    let leaves : LeavesCopy call one.own out.end at at = subst (λ (own : List Group). LeavesCopy call own out.end at at) (sym none) (leaves_none call [] out.end at (fails_nothing call out.end).0 (fails_nothing call out.end).1) in
    let turns = one_turn start at at at at a step (first_call at.rule step.call) none_counted out out out one leaves (quiet_lawful at out (subst IsQuiet (sym ends_so) q)) (places_quiet at out (ap (λ (x : Outcome). x.waits) k)) (NoneFalls-refl at.seen.link) settles st kept refl refl (add_alone out) (over_same out.cache) refl in
    steps_to start at step out at a at.learnt (first_call at.rule step.call) knows (begins_plain (named_in (request_of at.rule.depth (first_call at.rule step.call))) (first_call at.rule step.call) at.learnt out.groups (λ x e. groups)) turns (omega (arith, none_waits)) (omega (arith, ap (λ (x : StreamSeen). x.link.calls) st.seen)) dropped (λ now. let x = sym later ∙ now in absurd cc) (λ x. duly)

quiet_most : (step : Step) (out : Outcome) (end : End) → out ≡ untouched end → (out.end ≢ ends.Dropped → 0 < step.most) → WithinMost out.end out.items step.most
quiet_most step out end k m = let z : length out.items ≡ 0 = ap (λ (x : Outcome). length x.items) k in (λ n. omega (arith, z, m n), omega (arith, z))

quiet_few : (step : Step) (out : Outcome) (end : End) → out ≡ untouched end → (out.end ≢ ends.Dropped → 0 < step.polls) → (pending : ℕ) × AnsweredPending out pending × WaitsFew step.polls pending out.end
quiet_few step out end k m = let z : out.waits ≡ 0 = ap (λ (x : Outcome). x.waits) k in (0, (0, omega (arith, z), omega arith), (m, omega arith))

unpolled_call : (at : Place) (step : Step) (out : Outcome) → IsUnpolled step → acts_at_once step.call ≡ false → out ≡ untouched ends.Dropped → Plays_call at step out at
unpolled_call at step out u later k = quiet_call at step out ends.Dropped k (inl refl) (λ f. absurd cc) (inl u) (λ now. let x = sym later ∙ now in absurd cc)

unpolled_drops : (at : Place) (step : Step) (out : Outcome) (stop : Place) → IsUnpolled step → IsDropped at step out stop
unpolled_drops at step out stop u = by (parting_of step.call)
  where
    by : (q : Parting) → IsDroppedAs q at step out stop
    by partings.None = inl u
    by partings.Left = tt
    by partings.Unsaid = tt
    by (partings.Failed message) = tt

unpolled_duly : (at : Place) (step : Step) (r : Request) (out : Outcome) → IsUnpolled step → out ≡ untouched ends.Dropped → EndsDuly at step r out at
unpolled_duly at step r out u k = record {
  savepoint = λ n o. absurd (n u);
  unpolled = λ v. (k, refl);
  kept = λ fault w n o. absurd (n u);
  refused = λ w n o. absurd (n u);
  flushed = λ w n. absurd (n u);
  few = quiet_few step out ends.Dropped k (λ n. absurd (n (ap (λ (x : Outcome). x.end) k)));
  most = λ w. quiet_most step out ends.Dropped k (λ n. absurd (n (ap (λ (x : Outcome). x.end) k)));
}

unmade_call : (at : Place) (step : Step) (out : Outcome) → acts_at_once step.call ≡ false → out ≡ untouched (ends.Err errors.OutOfMemory) → Plays_call at step out at
unmade_call at step out later k = quiet_call at step out (ends.Err errors.OutOfMemory) k (inr (inl refl)) (λ f. absurd cc) tt (λ now. let x = sym later ∙ now in absurd cc)

unmade_duly : (at : Place) (step : Step) (r : Request) (out : Outcome) → (IsUnpolled step → ⊥) → (OpensSavepoint at step → ⊥) → has_query step.call ≡ true → out ≡ untouched (ends.Err errors.OutOfMemory) → EndsDuly at step r out at
unmade_duly at step r out n opens h k = record {
  savepoint = λ m o. absurd (opens o);
  unpolled = λ u. absurd (n u);
  kept = λ fault w m o. (inr k, refl);
  refused = λ w m o u. (errors.OutOfMemory, memory_refuses r, k, refl);
  flushed = λ w m c. let x = sym h ∙ ap has_query c in absurd cc;
  few = quiet_few step out (ends.Err errors.OutOfMemory) k (λ z. some_of step.polls (λ e. n (inl e)));
  most = λ w. quiet_most step out (ends.Err errors.OutOfMemory) k (λ z. polled_most step n);
}

-- a text of its own would open a savepoint
refused_call : (at : Place) (step : Step) (out : Outcome) → acts_at_once step.call ≡ false → OpensSavepoint at step → out ≡ untouched (ends.Err errors.InvalidSavePointStatement) → Plays_call at step out at
refused_call at step out later opens k = quiet_call at step out (ends.Err errors.InvalidSavePointStatement) k (inr (inr (inl refl))) (λ f. absurd cc) (opens, refl, refl) (λ now. let x = sym later ∙ now in absurd cc)

refused_duly : (at : Place) (step : Step) (r : Request) (out : Outcome) → (IsUnpolled step → ⊥) → OpensSavepoint at step → out ≡ untouched (ends.Err errors.InvalidSavePointStatement) → EndsDuly at step r out at
refused_duly at step r out n opens k = record {
  savepoint = λ m o. (k, refl);
  unpolled = λ u. absurd (n u);
  kept = λ fault w m o. absurd (o opens);
  refused = λ w m o u. absurd (o opens);
  flushed = λ w m c. let y = sym opens.0 ∙ ap begins_with c in absurd cc;
  few = quiet_few step out (ends.Err errors.InvalidSavePointStatement) k (λ z. some_of step.polls (λ e. n (inl e)));
  most = λ w. quiet_most step out (ends.Err errors.InvalidSavePointStatement) k (λ z. polled_most step n);
}

-- ---- what acts at once

acted_call : (at : Place) (step : Step) → acts_at_once step.call ≡ true → Plays_call at step (untouched (ends.Ok AnswersUnit)) at
acted_call at step acts = quiet_call at step (untouched (ends.Ok AnswersUnit)) (ends.Ok AnswersUnit) refl (inr (inr (inr refl))) (λ f. acts) tt (λ now. (refl, refl))

acts_none : (call : Call) (x : Extended) → acts_at_once call ≡ true → call ≡ calls.Describe x → ⊥
acts_none calls.StartRollback x acts d = cc
acts_none (calls.Release text) x acts d = cc
acts_none _ x acts d = absurd cc

acts_first : (rule : Rule) (call : Call) → acts_at_once call ≡ true → first_call rule call ≡ call
acts_first rule calls.StartRollback acts = refl
acts_first rule (calls.Release text) acts = refl
acts_first rule _ acts = absurd cc

acts_unnamed : (d : ℕ) (call : Call) (x : Request) → acts_at_once call ≡ true → named_in (request_of d call) ≡ Some x → ⊥
acts_unnamed d calls.StartRollback x acts e = cc
acts_unnamed d (calls.Release text) x acts e = cc
acts_unnamed d _ x acts e = absurd cc

acted_step : (start : StreamSeen) (at : Place) (a b : ConnSeen) (step : Step) → StandsAt start at a → Keeps at → acts_at_once step.call ≡ true → SettlesTo start at (first_step at.rule step) (untouched (ends.Ok AnswersUnit)) [] [] None at (ended_conn (counted_anew a)) b → StepsTo start at step (rolled_outcome b) b
unfolding quiet_call acted_call
acted_step start at a b step st kept acts settled =
    let told : Outcome = untouched (ends.Ok AnswersUnit) in
    let first : Step = first_step at.rule step in
    let now : acts_at_once first.call ≡ true = first_acts at.rule step.call ∙ acts in
    let one : Plays_call at first told at = acted_call at first now in
    let grew : CountsOn none_counted (ended_conn (counted_anew a)) told = record { groups = omega arith; behind = refl; fits = omega arith; heard = omega arith; waits = omega arith; moved = omega arith } in
    let same : rolled_outcome b ≡ record told { groups = all_groups b; cache = b.cache } = same_but_groups (ended_conn (counted_anew a)) b [] (ends.Ok AnswersUnit) (settled.others.0, settled.others.1, settled.others.2) in
    let rolled_so : rolled_outcome b ≡ record told { groups = all_groups b } = same ∙ ap (λ (x : CacheStep). record told { groups = all_groups b; cache = x }) (settled.others.4 ∙ ap (λ (x : CacheStep). over cache.Same x) (settled.settles.cache ∙ sym (acts_tell at.rule.depth first.call now))) in
    let adds : AddUp none_counted (settled.out ∷ []) (rolled_outcome b) = add_one none_counted b settled.out [] (rolled_outcome b) (counts_settled start none_counted at at (ended_conn (counted_anew a)) b first told one settled grew) (add_none b [] (ends.Ok AnswersUnit)) in
    let k = settled.settles.outcome in
    let turns = one_turn start at at settled.left settled.next b step (first_call at.rule step.call) none_counted told settled.out (rolled_outcome b) one settled.leaves (quiet_lawful at told (inr (inr (inr refl)))) (places_quiet at told refl) (NoneFalls-refl at.seen.link) settled.settles settled.stands
    (keeps_next at at settled.left settled.next first told settled.out one settled.leaves settled.settles kept (first_sound at.rule step.call) (first_holds at at.rule step.call) (λ x d f. absurd (acts_none first.call x now d))).0
    (sym (ap (λ (x : Outcome). x.items) k)) (sym (ap (λ (x : Outcome). x.end) k)) adds settled.others.4 settled.asked in
    steps_to start at step (rolled_outcome b) at b at.learnt (first_call at.rule step.call) (knows_act at step acts)
    (begins_plain (named_in (request_of at.rule.depth (first_call at.rule step.call))) (first_call at.rule step.call) at.learnt (all_groups b) (λ x e. absurd (acts_unnamed at.rule.depth (first_call at.rule step.call) x now e))) turns (omega (arith, settled.others.1)) (omega (arith, ap (λ (x : StreamSeen). x.link.calls) settled.stands.seen, ap (λ (x : StreamSeen). x.link.calls) settled.settles.seen, ap (λ (x : LinkSeen). x.calls) (left_link first.call [] (ends.Ok AnswersUnit) at settled.left settled.leaves))) (λ x. absurd cc) (λ w. (rolled_so, refl)) (λ later. let x = sym later ∙ acts in absurd cc)

-- a call on a connection on which none ran begins with the exchange that the place tells
first_begun : (a : ConnSeen) (request : Request) → a.call ≡ states.Idle → IsWanted request → first_conn request a ≡ begun_call (first_exchange request a) (knowing (learnt_for request a.broken a.learnt) a)
first_begun a request over w =
    let idles : left a ≡ a = left_idle a over in
    let change : change_fed request (change_of (kind_of request)) ≡ change_for (first_exchange request a) = first_changes (left a).rule request w in
    let held : held_by (left a).rule (begun_as (left a).rule request) ≡ (left a).rule = wanted_held (left a).rule request w in
    ap₂ (λ (c : Change) (k : Rule). record (first_conn request a) { change = c; rule = k }) change held
    ∙ ap (λ (x : ConnSeen). begun_call (first_exchange request a) (knowing (learnt_for request x.broken x.learnt) x)) idles

begins_played : (start : StreamSeen) (at : Place) (a b : ConnSeen) (step : Step) (out : Outcome) → StandsAt start at a → PlaysCall (limits_of step) (first_conn (asked_of at.rule.depth step.call) a) b (first_exchange (asked_of at.rule.depth step.call) a) out
    → PlaysCall (limits_of step) (begun_call (request_of at.rule.depth (first_call at.rule step.call)) (knowing (learnt_for (asked_of at.rule.depth step.call) a.broken a.learnt) a)) b (request_of at.rule.depth (first_call at.rule step.call)) out
begins_played start at a b step out st played =
    let request = asked_of at.rule.depth step.call in
    let rule : (left a).rule ≡ at.rule = ap (λ (c : ConnSeen). c.rule) (left_idle a st.idle) ∙ st.rule in
    let same : first_exchange request a ≡ request_of at.rule.depth (first_call at.rule step.call) = ap (λ (k : Rule). asked_by k (begun_as k request)) rule ∙ sym (first_request at.rule at.rule.depth step.call) in
    subst (λ (q : Request). PlaysCall (limits_of step) (begun_call q (knowing (learnt_for request a.broken a.learnt) a)) b q out) same
    (subst (λ (x : ConnSeen). PlaysCall (limits_of step) x b (first_exchange request a) out) (first_begun a request st.idle (asked_wanted at.rule.depth step.call)) played)

-- a call that was polled, which may have begun with the names of types forgotten
polled_begun : (start : StreamSeen) (at : Place) (a b : ConnSeen) (step : Step) (out : Outcome) → StandsAt start at a → Keeps at → (IsUnpolled step → ⊥) → (OpensSavepoint at step → ⊥) → acts_at_once step.call ≡ false → step.polls < 2 ^ 32
    → PlaysCall (limits_of step) (first_conn (asked_of at.rule.depth step.call) a) b (first_exchange (asked_of at.rule.depth step.call) a) out → StepsTo start at step out b
polled_begun start at a b step out st k n opens later p played = by (forgets_at at step) refl
  where
    asked : Request
    asked = asked_of at.rule.depth step.call

    r : Request
    r = request_of at.rule.depth (first_call at.rule step.call)

    begun : (learnt : Learnt) → learnt_for asked a.broken a.learnt ≡ learnt → PlaysCall (limits_of step) (begun_call r (knowing learnt a)) b r out
    begun learnt e = subst (λ (l : Learnt). PlaysCall (limits_of step) (begun_call r (knowing l a)) b r out) e (begins_played start at a b step out st played)

    learns : (now : Bool) → forgets_at at step ≡ now → learnt_for asked a.broken a.learnt ≡ cond now (unnamed_types a.learnt) a.learnt
    learns now e = ap (λ (x : Bool). cond x (unnamed_types a.learnt) a.learnt) (forgets_so at step a.broken n st.broken ∙ e)

    by : (now : Bool) → forgets_at at step ≡ now → StepsTo start at step out b
    by false e = polled_step start at a b step out (ap (λ (x : Bool). cond x (unnamed_types at.learnt) at.learnt) e) st k n opens later p (begun a.learnt (learns false e))
    by true e =
        let known : Learnt = unnamed_types at.learnt in
        let so : StepsTo start (begun_at at known) step out b = polled_step start (begun_at at known) (knowing known a) b step out (ap (λ (x : Bool). cond x (unnamed_types known) known) e) (stands_so_at start at a known st) (keeps_begun at known k) n opens later p
        (begun known (learns true e ∙ ap (λ (l : Learnt). unnamed_types l) st.learnt)) in
        (so.0, begins_forgotten at step out so.0 e k n opens later so.1, so.2, so.3)

-- an error is no drop
undropped : {P : Type 0} (out : Outcome) (e : Error) → out ≡ untouched (ends.Err e) → out.end ≡ ends.Dropped → P
undropped {P} out e k d = let x : ends.Err e ≡ ends.Dropped = sym (ap (λ (z : Outcome). z.end) k) ∙ d in absurd cc

pub plays_step : (start : StreamSeen) (at : Place) (a b : ConnSeen) (step : Step) (out : Outcome) → StandsAt start at a → Keeps at → a.rule.depth < 2 ^ 64 → PlaysStep a b step out → StepsTo start at step out b
unfolding quiet_call unpolled_call unmade_call refused_call
plays_step start at a b step out st kept l (inl (inl (c, is, k))) =
    subst (λ (x : Outcome). StepsTo start at step x b) (sym k) (acted_step start at a b step st kept (ap acts_at_once c) (settles_rollback start at a b (first_step at.rule step) st l (ap (first_call at.rule) c) is))
plays_step start at a b step out st kept l (inl (inr r)) =
    subst (λ (x : Outcome). StepsTo start at step x b) (sym r.tells) (acted_step start at a b step st kept (ap acts_at_once r.asks) (settles_release start at a b (first_step at.rule step) r.text st (ap (first_call at.rule) r.asks) r.lawful r.held r.behind))
plays_step start at a b step out st kept l (inr (later, inl (u, is, k))) =
    subst (λ (x : ConnSeen). StepsTo start at step out x) (sym is) (quiet_step start at a step out ends.Dropped (knows_unpolled at step u) st kept later refl k (inl refl) (unpolled_call at (first_step at.rule step) out u (first_acts at.rule step.call ∙ later) k) refl (λ x. unpolled_drops at step out at u) (unpolled_duly at step (request_of at.rule.depth (first_call at.rule step.call)) out u k))
plays_step start at a b step out st kept l (inr (later, inr (n, p, inl (opens, is, k)))) =
    let asked : OpensSavepoint at step = (opens.0, omega (arith, opens.1, depth_stands start at a st)) in
    subst (λ (x : ConnSeen). StepsTo start at step out x) (sym is) (quiet_step start at a step out (ends.Err errors.InvalidSavePointStatement) (knows_savepoint at step opens.0) st kept later refl k (inr (inr (inl refl))) (refused_call at (first_step at.rule step) out (first_acts at.rule step.call ∙ later) (first_begins_with at.rule step.call ∙ asked.0, asked.1) k) refl (undropped out errors.InvalidSavePointStatement k)
    (refused_duly at step (request_of at.rule.depth (first_call at.rule step.call)) out n asked k))
plays_step start at a b step out st kept l (inr (later, inr (n, p, inr (opens, inl (is, k, h))))) =
    subst (λ (x : ConnSeen). StepsTo start at step out x) (sym is) (quiet_step start at a step out (ends.Err errors.OutOfMemory) (knows_query at step h) st kept later refl k (inr (inl refl)) (unmade_call at (first_step at.rule step) out (first_acts at.rule step.call ∙ later) k) refl (undropped out errors.OutOfMemory k) (unmade_duly at step (request_of at.rule.depth (first_call at.rule step.call)) out n (opens_not at a step st opens) h k))
  where
    opens_not : (at : Place) (a : ConnSeen) (step : Step) → StandsAt start at a → ((begins_with step.call ≡ true) × (0 < a.rule.depth) → ⊥) → OpensSavepoint at step → ⊥
    opens_not at a step st f o = f (o.0, omega (arith, o.1, depth_stands start at a st))
plays_step start at a b step out st kept l (inr (later, inr (n, p, inr (opens, inr played)))) =
    polled_begun start at a b step out st kept n (λ o. opens (o.0, omega (arith, o.1, depth_stands start at a st))) later p
    (subst (λ (d : ℕ). PlaysCall (limits_of step) (first_conn (asked_of d step.call) a) b (first_exchange (asked_of d step.call) a) out) (depth_stands start at a st) played)

-- ---- steps one after another

pub plays_more : (at mid next : Place) (steps : List Step) (outs : List Outcome) (step : Step) (out : Outcome) → Plays_from at steps outs mid → Plays_step mid step out next → Plays_from at (steps ++ step ∷ []) (outs ++ out ∷ []) next
plays_more at mid next [] [] step out run one = (next, subst (λ (m : Place). Plays_step m step out next) run one, refl)
plays_more at mid next [] (o ∷ outs) step out run one = absurd run
plays_more at mid next (s ∷ steps) [] step out run one = absurd run
plays_more at mid next (s ∷ steps) (o ∷ outs) step out run one = (run.0, run.1, plays_more run.0 mid next steps outs step out run.2 one)

plays_on : (a b c : ConnSeen) (steps : List Step) (outs : List Outcome) (step : Step) (out : Outcome) → PlaysOn a b steps outs → b.rule.depth < 2 ^ 64 → PlaysStep b c step out → PlaysOn a c (steps ++ step ∷ []) (outs ++ out ∷ [])
plays_on a b c steps outs step out run d call start at st kept =
    let so_far = run start at st kept in
    let one = plays_step start so_far.0 b c step out so_far.2 so_far.3 d call in
    (one.0, plays_more at so_far.0 one.0 steps outs step out so_far.1 one.1, one.2, one.3)

plays_none : (a : ConnSeen) → PlaysOn a a [] []
plays_none a start at st kept = (at, refl, st, kept)

-- ---- chains of calls

-- calls behind those that were played
plays_behind : (a b c : ConnSeen) (steps : List Step) (outs : List Outcome) (calls : List Step) (told : List Outcome) → PlaysOn a b steps outs → PlaysInOrder b c calls told → PlaysOn a c (steps ++ calls) (outs ++ told)
plays_behind a b c steps outs [] [] on run = rw (append-nil steps, append-nil outs, run) on
plays_behind a b c steps outs [] (o ∷ told) on run = absurd run
plays_behind a b c steps outs (s ∷ calls) [] on run = absurd run
plays_behind a b c steps outs (s ∷ calls) (o ∷ told) on run =
    let one : PlaysOn a run.0 (steps ++ s ∷ []) (outs ++ o ∷ []) = plays_on a b run.0 steps outs s o on run.2 run.1 in
    let more : PlaysOn a c ((steps ++ s ∷ []) ++ calls) ((outs ++ o ∷ []) ++ told) = plays_behind a run.0 c (steps ++ s ∷ []) (outs ++ o ∷ []) calls told one run.3 in
    subst (λ (x : List Step). PlaysOn a c x (outs ++ o ∷ told)) (append_assoc steps (s ∷ []) calls) (subst (λ (y : List Outcome). PlaysOn a c ((steps ++ s ∷ []) ++ calls) y) (append_assoc outs (o ∷ []) told) more)

chained_more : (before : Guards) (steps : List Step) (outs : List Outcome) (calls : List Step) (told : List Outcome) (guards after : Guards) (step : Step) (out : Outcome) (own : List Step) (ones : List Outcome) → AreChained before steps outs calls told guards → IsChained guards after step out own ones
    → AreChained before (steps ++ step ∷ []) (outs ++ out ∷ []) (calls ++ own) (told ++ ones) after
chained_more before [] [] calls told guards after step out own ones all one = (
  own,
  [],
  ones,
  [],
  after,
  subst (λ (g : Guards). IsChained g after step out own ones) all.2 one,
  (refl, refl, refl),
  ap (λ (x : List Step). x ++ own) all.0 ∙ sym (append-nil own),
  ap (λ (x : List Outcome). x ++ ones) all.1 ∙ sym (append-nil ones),
)
chained_more before [] (o ∷ outs) calls told guards after step out own ones all one = absurd all
chained_more before (s ∷ steps) [] calls told guards after step out own ones all one = absurd all
chained_more before (s ∷ steps) (o ∷ outs) calls told guards after step out own ones (first, later, firsts, others, mid, chained, rest, c, t) one = (
  first,
  later ++ own,
  firsts,
  others ++ ones,
  mid,
  chained,
  chained_more mid steps outs later others guards after step out own ones rest one,
  ap (λ (x : List Step). x ++ own) c ∙ append_assoc first later own,
  ap (λ (x : List Outcome). x ++ ones) t ∙ append_assoc firsts others ones,
)

pub plays_step_on : (a b c : ConnSeen) (steps : List Step) (outs : List Outcome) (guards after : Guards) (step : Step) (out : Outcome) → PlaysAll a b steps outs guards → PlaysChain b c guards after step out → PlaysAll a c (steps ++ step ∷ []) (outs ++ out ∷ []) after
plays_step_on a b c steps outs guards after step out (calls, told, chained, on) (own, ones, one, run) =
    (calls ++ own, told ++ ones, chained_more [] steps outs calls told guards after step out own ones chained one, plays_behind a b c calls told own ones on run)

pub plays_no_step : (a : ConnSeen) → PlaysAll a a [] [] []
plays_no_step a = ([], [], (refl, refl, refl), plays_none a)

-- a step that is one call
pub plays_alone : (a b : ConnSeen) (guards : Guards) (step played : Step) (out : Outcome) → IsChained guards guards step out (played ∷ []) (out ∷ []) → a.rule.depth < 2 ^ 64 → PlaysStep a b played out → PlaysChain a b guards guards step out
plays_alone a b guards step played out one d run = (played ∷ [], out ∷ [], one, (b, run, d, refl))

-- ---- from the end of start-up on

stands_first : (opening : Opening) (polls : ℕ) (link : LinkSeen) (a : ConnSeen) → HasOpened opening polls link a → StandsAt a.stream (first_place opening.options.statement_cache_capacity a.stream) a
stands_first opening polls link a g = rw g.fresh (record {
  flows = Flows-none g.ready.stream g.ready.stream refl refl refl refl;
  ledger = refl;
  failed = λ o. absurd (omega (arith, o));
  broken = refl;
  seen = refl;
  rule = refl;
  learnt = refl;
  room = rw g.fresh at g.room;
  idle = refl;
  sayable = tt;
  are_groups = tt;
  between = λ z. refl;
  plain = λ h n. refl;
  requests = refl;
})

tells_new : (x y : Option (List ℕ)) (old new bytes : List ℕ) → x ≡ Some old → y ≡ Some new → Appends x y bytes → new ≡ old ++ bytes
tells_new None y old new bytes e f h = absurd cc
tells_new (Some x) None old new bytes e f h = absurd h
tells_new (Some x) (Some y) old new bytes e f h =
    let p : x ≡ old = cc in
    let q : y ≡ new = cc in
    sym q ∙ h ∙ ap (λ (z : List ℕ). z ++ bytes) p

-- the bytes behind a handshake, which its stream begins with
tells_over : (opening : Opening) (link : LinkSeen) (e : EstablishSeen) (ready : ReadyOf LinkSeen) (b : ConnSeen) (started : Started) (at : Place) → IsOf opening e → HasBegun e.client e.plan e.message link ready → StandsAt ready.stream at b → started.sent ≡ ready.sent → started.read ≡ ready.read → TellsBytes opening link b.stream.link started at
tells_over opening link e ready b started at of g st s r =
    let sent = st.flows.sent in
    let read = st.flows.read in
    let gone : g.said ++ spelled at.said ≡ (g.taken ++ sent.0) ++ b.stream.unsent =
    ap (λ (z : List ℕ). z ++ spelled at.said) g.unsent ∙ append_assoc g.taken ready.stream.unsent (spelled at.said) ∙ ap (λ (z : List ℕ). g.taken ++ z) sent.2 ∙ sym (append_assoc g.taken sent.0 b.stream.unsent) in
    let come : g.given ++ read.0 ≡ g.read ++ (text_of at.frames ++ b.stream.held) =
    ap (λ (z : List ℕ). z ++ read.0) g.held ∙ append_assoc g.read ready.stream.held read.0 ∙ ap (λ (z : List ℕ). g.read ++ z) read.2 in
    record {
      plan = e.plan;
      planned = of.planned;
      said = g.said;
      read = g.read;
      session = ready.session;
      handshake = record {
        asked = g.handshake.asked;
        answered = g.handshake.answered;
        question = g.handshake.question;
        proofs = g.handshake.proofs;
        frames = g.handshake.frames;
        whole = g.handshake.whole;
        leads = rw (← of.client) g.handshake.leads;
        said_is = g.handshake.said_is ∙ ap (λ (message : List ℕ). g.handshake.asked ++ (message ++ proofs_text g.handshake.proofs)) of.message;
        read_is = g.handshake.read_is;
      };
      secured = subst (λ (x : Option TlsWish). IsSecured e.plan g.handshake.answered link.secured x) (sym st.flows.secured) g.secured;
      said_is = counts_to (length g.said) ready.sent started.sent g.sent_counted s;
      read_is = counts_to (length g.read) ready.read started.read g.read_counted r;
      sent = λ old new x y. (g.taken ++ sent.0, tells_new link.taken b.stream.link.taken old new (g.taken ++ sent.0) x y (Appends-then link.taken ready.stream.link.taken b.stream.link.taken g.taken sent.0 g.took sent.1), ap (λ (x : StreamSeen). (g.taken ++ sent.0) ++ x.unsent) (sym st.seen) ∙ sym gone);
      gave = λ old new x y. (
        text_of at.frames ++ b.stream.held,
        tells_new link.given b.stream.link.given old new (g.given ++ read.0) x y (Appends-then link.given ready.stream.link.given b.stream.link.given g.given read.0 g.gave read.1)
            ∙ ap (λ (z : List ℕ). old ++ z) come ∙ sym (append_assoc old g.read (text_of at.frames ++ b.stream.held)),
        ap (λ (x : StreamSeen). text_of at.frames ++ x.held) st.seen,
        λ frames rest c. let t = cut_after_taken backend_tags (text_of at.frames ++ b.stream.held) b.stream.held at.frames frames rest read.3 refl c in (t.0, sym t.1),
      );
    }

tells_bytes : (opening : Opening) (polls : ℕ) (link : LinkSeen) (a b : ConnSeen) (started : Started) (at : Place) → HasOpened opening polls link a → StandsAt a.stream at b → started.sent ≡ a.sent → started.read ≡ a.read → TellsBytes opening link b.stream.link started at
tells_bytes opening polls link a b started at g st s r =
    tells_over opening link g.e g.ready b started at g.of g.begun (subst (λ (x : StreamSeen). StandsAt x at b) (ap (λ (c : ConnSeen). c.stream) g.fresh) st) (s ∙ ap (λ (c : ConnSeen). c.sent) g.fresh) (r ∙ ap (λ (c : ConnSeen). c.read) g.fresh)

-- what was given behind the handshake and before a wait
in_time : (opening : Opening) (polls : ℕ) (link : LinkSeen) (a : ConnSeen) (steps : List Step) (outs : List Outcome) (last : Place) (g : HasOpened opening polls link a) (run : Plays_from (first_place opening.options.statement_cache_capacity a.stream) steps outs last) (old new : List ℕ) → link.given ≡ Some old → last.seen.link.given ≡ Some new
    → TakesInTime (old ++ g.begun.read) new (first_place opening.options.statement_cache_capacity a.stream) steps outs last run
in_time opening polls link a steps outs last g run old new x y =
    let gave : Appends link.given a.stream.link.given g.begun.given = subst (λ (c : ConnSeen). Appends link.given c.stream.link.given g.begun.given) (sym g.fresh) g.begun.gave in
    let held : g.begun.given ≡ g.begun.read ++ a.stream.held = subst (λ (c : ConnSeen). g.begun.given ≡ g.begun.read ++ c.stream.held) (sym g.fresh) g.begun.held in
    let behind : old ++ g.begun.given ≡ (old ++ g.begun.read) ++ a.stream.held = ap (λ (z : List ℕ). old ++ z) held ∙ sym (append_assoc old g.begun.read a.stream.held) in
    takes_all (old ++ g.begun.read) (old ++ g.begun.given) new (first_place opening.options.statement_cache_capacity a.stream) steps outs last run (given_next link.given a.stream.link.given old g.begun.given x gave) behind y

calls_begun : (opening : Opening) (polls : ℕ) (link last : LinkSeen) (a b : ConnSeen) (started : Started) (steps : List Step) (outs : List Outcome) → HasOpened opening polls link a → PlaysOn a b steps outs → started.sent ≡ a.sent → started.read ≡ a.read → last ≡ b.stream.link → PlaysCalls opening polls link last started steps outs
unfolding tells_bytes tells_over
calls_begun opening polls link last a b started steps outs g run s r l =
    let p = run a.stream (first_place opening.options.statement_cache_capacity a.stream) (stands_first opening polls link a g) (keeps_first opening.options.statement_cache_capacity a.stream) in
    let st = p.2 in
    let bytes : TellsBytes opening link b.stream.link started p.0 = tells_bytes opening polls link a b started p.0 g st s r in
    rw l (record {
      begins = a.stream;
      begun = g.counts;
      startup = g.waited;
      counts = NoneFalls-then link a.stream.link b.stream.link g.counts st.flows.counts;
      place = p.0;
      plays = p.1;
      kept = p.3;
      bytes = bytes;
      can = st.sayable;
      groups = st.are_groups;
      at_link = sym (ap (λ (x : StreamSeen). x.link) st.seen);
      totals = subst (λ (x : LinkSeen). Totals a.stream.link x outs) (sym (ap (λ (x : StreamSeen). x.link) st.seen)) (totals_all (first_place opening.options.statement_cache_capacity a.stream) steps outs p.0 p.1);
      waits = subst (λ (x : LinkSeen). LastPlaces link x outs (places_in (first_place opening.options.statement_cache_capacity a.stream) steps outs p.0 p.1)) (sym (ap (λ (x : StreamSeen). x.link) st.seen))
          (places_last link (first_place opening.options.statement_cache_capacity a.stream) steps outs p.0 p.1 g.begun.given g.counts (subst (λ (c : ConnSeen). Appends link.given c.stream.link.given g.begun.given) (sym g.fresh) g.begun.gave));
      in_time = λ old new x y. in_time opening polls link a steps outs p.0 g p.1 old new x (sym (ap (λ (s : StreamSeen). s.link.given) st.seen) ∙ y);
      idle = λ few first orderly. idles_all (SaysIdle (statuses bytes.session.status (heard p.0.frames))) (first_place opening.options.statement_cache_capacity a.stream) steps outs p.0 p.1 few (λ z. first) orderly;
      uncopied = λ n. calls_plain (first_place opening.options.statement_cache_capacity a.stream) steps outs p.0 p.1 n (refl, tt);
      lawful = where_lawful (first_place opening.options.statement_cache_capacity a.stream) p.0 steps outs p.1 refl st.sayable st.flows.read.3 st.plain p.3;
      complete = where_faultless link (first_place opening.options.statement_cache_capacity a.stream) p.0 steps outs p.1 g.counts refl st.sayable st.flows.read.3 st.plain;
      plain = st.plain;
    })

-- room that is kept for guards is no matter
opened_kept : (opening : Opening) (polls : ℕ) (link : LinkSeen) (a b : ConnSeen) → HasOpened opening polls link a → KeepsRoom a b → HasOpened opening polls link b
opened_kept opening polls link a b g k = record {
  e = g.e;
  of = g.of;
  ready = record g.ready { stream = b.stream };
  begun = subst (λ (s : StreamSeen). HasBegun g.e.client g.e.plan g.e.message link (record g.ready { stream = s })) (sym same) (begun_kept b.stream.spare g.begun);
  counts = subst (λ (s : StreamSeen). NoneFalls link s.link) (sym stream) g.counts;
  waited = subst (λ (s : StreamSeen). HasWaitedLess polls link s.link) (sym stream) g.waited;
  held = b.held;
  fresh = k.0 ∙ ap (λ (c : ConnSeen). record (with_spare b.stream.spare c) { held = b.held }) g.fresh ∙ ap (λ (s : StreamSeen). record (fresh_connection opening.options.statement_cache_capacity s g.ready.sent g.ready.read) { held = b.held }) (sym same);
  room = k.1 g.room;
}
  where
    stream : b.stream ≡ record a.stream { spare = b.stream.spare }
    stream = ap (λ (c : ConnSeen). c.stream) k.0

    same : b.stream ≡ record g.ready.stream { spare = b.stream.spare }
    same = stream ∙ ap (λ (c : ConnSeen). record c.stream { spare = b.stream.spare }) g.fresh

    begun_kept : (n : ℕ) → HasBegun g.e.client g.e.plan g.e.message link g.ready → HasBegun g.e.client g.e.plan g.e.message link (record g.ready { stream = record g.ready.stream { spare = n } })
    begun_kept n h = record { said = h.said; read = h.read; handshake = h.handshake; secured = h.secured; taken = h.taken; took = h.took; unsent = h.unsent; given = h.given; gave = h.gave; held = h.held; sent_counted = h.sent_counted; read_counted = h.read_counted }

pub plays_begun : (opening : Opening) (polls : ℕ) (link last : LinkSeen) (a k b : ConnSeen) (started : Started) (steps : List Step) (outs : List Outcome) (guards : Guards) → HasOpened opening polls link a → KeepsRoom a k → PlaysAll k b steps outs guards → started.sent ≡ k.sent → started.read ≡ k.read → last ≡ b.stream.link → Plays opening polls link last started steps outs
plays_begun opening polls link last a k b started steps outs guards g keeps (calls, told, chained, on) s r l = (calls, told, guards, chained, calls_begun opening polls link last k b started calls told (opened_kept opening polls link a k g keeps) on s r l)
