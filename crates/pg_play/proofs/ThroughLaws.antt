-- One more poll of a call that is played: of one exchange, or through its end into the next ones.
use Rattle.std.proofs.Common.{nat_eq, cond, ◌≡◌, ℕ, ◌+◌, ◌*◌, ◌<◌, ◌≤◌, inl, inr, ◌⊎◌, Bool, true, false, List, [], ◌∷◌, ◌++◌, length, map, refl, sym, ap, ◌∙◌, subst, arith, Option, Some, None, Ok, Err, ap₂, min, ◌-◌, ◌^◌}
use Rattle.std.proofs.lemmas.Option.{same_Some}
use Rattle.pg_wire.specs.Backend.{BackendMessage}
use Rattle.pg_rule.specs.declared.rule.Rule.{Rule}
use Rattle.pg_call.specs.declared.after.After.TheVariants as afters
use Rattle.pg_call.specs.declared.after.After.{After}
use Rattle.pg_call.specs.declared.statement.Goal.TheVariants as goals
use Rattle.pg_call.specs.declared.statement.Goal.{Goal}
use Rattle.pg_call.specs.declared.calling.Call.{Call}
use Rattle.pg_conn.specs.Statements.{asked_by, begun_as, held_by}
use Rattle.futures.specs.declared.task.Poll.{Poll}
use Rattle.futures.specs.declared.task.Poll.TheVariants.{Ready, Pending}
use Rattle.pg_wire.specs.declared.error.Error.{Error}
use Rattle.pg_wire.specs.declared.error.Error.TheVariants as errors
use Rattle.pg_wire.specs.declared.error.ServerFault.{ServerFault}
use Rattle.pg_wire.specs.Frame.{Frame}
use Rattle.pg_wire.specs.Parts.{heard}
use Rattle.pg_wire.specs.Frontend.{FrontendMessage}
use Rattle.pg_stream.specs.Streams.{StreamSeen, AllMoved, Moves}
use Rattle.pg_stream.proofs.StreamLemmas.{Moves-then, AllMoved-then, NoneWaited-then, WriteWaited-after, PendingCause-after}
use Rattle.pg_wire.specs.declared.message.copy_response.CopyResponseData.{CopyResponseData}
use Rattle.pg_call.specs.declared.kind.Change.{Change}
use Rattle.pg_call.specs.declared.kind.Change.TheVariants as changes
use Rattle.pg_call.specs.declared.kind.Kind.{Kind}
use Rattle.pg_call.specs.declared.kind.Kind.TheVariants as kinds
use Rattle.pg_call.specs.declared.ledger.Ledger.{Ledger}
use Rattle.pg_call.specs.declared.request.Request.{Request}
use Rattle.pg_call.specs.declared.request.Request.TheVariants as requests
use Rattle.pg_call.specs.declared.answer.CallItem.{CallItem}
use Rattle.pg_call.specs.declared.answer.CallAnswer.{CallAnswer}
use Rattle.pg_call.specs.declared.answer.CallAnswer.TheVariants as answers
use Rattle.pg_call.specs.declared.answer.Turn.{Turn}
use Rattle.pg_call.specs.declared.answer.Turn.TheVariants as turns
use Rattle.pg_call.specs.declared.calling.Call.TheVariants as calls
use Rattle.pg_call.specs.declared.calling.Beat.{Beat}
use Rattle.pg_call.specs.declared.calling.Beat.TheVariants as beats
use Rattle.pg_call.specs.Requests.{CanBeSaid, IsRefusal, kind_of, main_kind, change_of, goal_kind, after_kind, request_behind, looked_behind}
use Rattle.pg_call.specs.Items.{own_items, shown}
use Rattle.pg_call.specs.Calls.{CallIs, EndsFine, next_of}
use Rattle.pg_call.specs.Hearing.{IsOpen}
use Rattle.pg_call.specs.Replies.{part_after}
use Rattle.pg_call.specs.declared.judging.Part.{Part}
use Rattle.pg_call.specs.declared.judging.Part.TheVariants.{Feeding, Opening}
use Rattle.pg_call.proofs.CopyInLaws.{came}
use Rattle.pg_call.proofs.FitLaws.{hands_on_described, next_is}
use Rattle.pg_conn.specs.Connections.{ConnSeen, begun_with, handed, settled, runs, left, started_call, cleaned, ended, idle, resolved, resolved_by}
use Rattle.pg_learning.specs.declared.learnt.Learnt.{Learnt}
use Rattle.pg_conn.specs.Looking.{AsksNamed, AsksNext, LooksUp, named_by, named_in}
use Rattle.pg_conn.proofs.FirstLaws.{IsHanded, handed_unnamed, polls_refused, named_flushes}
use Rattle.pg_conn.proofs.StateLaws.{named_asked}
use Rattle.pg_conn.proofs.FeedingLaws.{copies_main}
use Rattle.pg_conn.proofs.StatementLaws.{asked_main}
use Rattle.pg_conn.specs.Turns.{BeginsBy, IsSayable, Polled, PollsOn, PollsThrough, Refused, RefusesNamed, HandsOver, PollsBy, beat_of, BeatCause, SendCause, TakesBeat, is_flushed, first_exchange}
use Rattle.pg_report.specs.declared.outcome.Item.{Item}
use Rattle.pg_report.specs.declared.outcome.Answer.TheVariants.{Unit as AnswersUnit}
use Rattle.pg_report.specs.declared.outcome.End.{End}
use Rattle.pg_report.specs.declared.outcome.End.TheVariants as ends
use Rattle.pg_report.specs.declared.outcome.Outcome.{Outcome}
use Rattle.pg_play.specs.declared.tally.Added.{Added}
use Rattle.pg_play.specs.declared.tally.Added.TheVariants as adds
use Rattle.pg_play.specs.declared.tally.Limits.{Limits}
use Rattle.pg_play.specs.declared.tally.Pause.{Pause}
use Rattle.pg_play.specs.declared.tally.Pause.TheVariants as pauses
use Rattle.pg_play.specs.declared.tally.Tally.{Tally}
use Rattle.pg_play.specs.Shown.{item_of, IsBegun, IsUncopied, IsWanted}
use Rattle.pg_play.specs.Calls.{Bounds, bounds, Adds, pause_of, change_fed, change_for, Finishes, again, InCopy, InPlay, IsCopying, Waited, IsPlayingOn, IsPlaying, Ended, EndsOn, broken_after, Counted, asking, HandedOn, HandsTo, handed_from, knowing, LooksFirst, OfLastIn, OfLastOn, OfLast, StartsAt, IsCallPlaying, StopsBy, Pauses, PollGives, PlaysOne, PlaysCall, outcome_of, all_groups, asked_from, first_conn}
use Rattle.pg_play.proofs.ExchangeLaws.{LeadsTo, looks_or, told_by}
use Rattle.pg_play.proofs.FirstLaws.{fresh_play, playing_one, plays_one, asked_changes, wanted_stays, not_fed, first_changes}
use Rattle.pg_play.proofs.CallLaws.{AfterSome, PlayBeat, OverPoll, over_poll, after_beat, goes_waits, goes_yields, goes_ok, goes_unshown, goes_err, drops_waiting, drops_shown, goes_unkept, answered}

-- what holds of the exchange that came last
on_last_in : (later : List Request) (polls : ℕ) (first : StreamSeen) (P Q : ConnSeen → Request → Type 0) (a : ConnSeen) (r : Request) → ((at : ConnSeen) (asked : Request) → P at asked → Q at asked) → OfLastIn later polls first P a r → OfLastIn later polls first Q a r
on_last_in [] polls first P Q a r f p = f a r p
on_last_in (next ∷ later) polls first P Q a r f h = (h.0, h.1, on_last_in later polls first P Q (handed_from (knowing h.1.learnt h.0) next) (asked_from h.0 next) f h.2)

pub on_last : (polls : ℕ) (first : StreamSeen) (P Q : ConnSeen → Request → Type 0) (a : ConnSeen) (r : Request) → ((at : ConnSeen) (asked : Request) → P at asked → Q at asked) → OfLast polls first P a r → OfLast polls first Q a r
on_last polls first P Q a r f (from, asked, starts, on) = (from, asked, starts, (on.0, on_last_in on.0 polls first P Q from asked f on.1))

-- what was handed on describes a statement, runs or tells one
handed_is : (r : Request) (reply : List BackendMessage) (told : Request) → next_of r reply ≡ Some told → IsHanded told
handed_is (requests.Describe x) reply told e = subst IsHanded (same_Some (told_by x reply) told e) tt
handed_is (requests.Look l) reply told e = subst IsHanded (same_Some (requests.Describe l.extended) told e) tt
handed_is (requests.Fill f) reply told e = subst IsHanded (same_Some (requests.Run (looked_behind f.bound)) told e) tt
handed_is (requests.Evict v) reply told e = subst IsHanded (same_Some (request_behind v.after) told e) (by v.after)
  where
    by : (a : After) → IsHanded (request_behind a)
    by (afters.Run bound) = tt
    by (afters.Fill filling) = tt
    by (afters.Prepare prepared) = refl
handed_is _ reply told e = absurd cc

-- so behind the first exchange no type is known by its name alone
next_unnamed : (polls : ℕ) (first : StreamSeen) (a m : ConnSeen) (r next : Request) → HandsTo polls first a m r next → named_in (asked_from m next) ≡ None
next_unnamed polls first a m r next h =
    let ends = h.handed.ends.0 in
    handed_unnamed (settled m).rule h.told next m.learnt h.learnt (handed_is r ends.0.reply h.told (next_is r ends.0.reply ends.0.status h.told ends.1).1) h.looks

-- ---- an exchange that hands on the next one

shown_none : (items : List CallItem) → shown kinds.Describe items ≡ []
shown_none [] = refl
shown_none (i ∷ is) = shown_none is

-- it is a description, and showed nothing
shows_none : (start : Ledger) (r : Request) (said : List FrontendMessage) (hs : List Frame) (items : List CallItem) (ledger : Ledger) (next : Request) → EndsFine start r said hs items ledger (beats.HandsOn next) → items ≡ []
shows_none start r said hs items ledger next e =
    e.0.items_are ∙ ap (λ (k : Kind). shown k (own_items r e.0.reply)) (hands_on_described r e.0.reply e.0.status next e.1) ∙ shown_none (own_items r e.0.reply)

not_flushed : (f : Bool) → (f ≡ true → ⊥) → f ≡ false
not_flushed true h = absurd (h refl)
not_flushed false h = refl

-- and is no copy
described_again : (r : Request) → kind_of r ≡ kinds.Describe → again r ≡ 0
described_again (requests.CopyIn feed) k = absurd cc
described_again _ k = refl

hands_over : (polls : ℕ) (first : StreamSeen) (a m : ConnSeen) (r next : Request) (waits : ℕ) (items : List CallItem) → waits < polls → a.broken ≡ None → AfterSome first a m r waits items (beats.HandsOn next) → HandedOn polls first a m r next × (items ≡ [])
hands_over polls first a m r next waits items l e h =
    let after = h.2 in
    let none : items ≡ [] = shows_none a.ledger r h.0 (heard h.1) items m.ledger next after.tells.1 in (
      record {
        said = h.0;
        fs = h.1;
        went = after.went;
        whole = (e, after.broken);
        asked = after.asked;
        room = after.room;
        over = after.tells.0;
        ends = (subst (λ (x : List CallItem). EndsFine a.ledger r h.0 (heard h.1) x m.ledger (beats.HandsOn next)) none after.tells.1, after.tells.2);
        can = after.tells.1.0.can;
        unsaid = λ u. after.unsaid u;
        flush = not_flushed (is_flushed a) (λ k. after.unflushed k);
        waits = waits;
        waited = after.over.waited (λ w. absurd cc);
        few = l;
        calls = omega (arith, after.over.calls, l, ap (λ (x : List CallItem). length x) none, described_again r (hands_on_described r after.tells.1.0.reply after.tells.1.0.status next after.tells.1.1));
      },
      none,
    )

-- what handed on is a description
pub handed_described : (polls : ℕ) (first : StreamSeen) (a m : ConnSeen) (r next : Request) → HandedOn polls first a m r next → kind_of r ≡ kinds.Describe
handed_described polls first a m r next h = hands_on_described r h.ends.0.0.reply h.ends.0.0.status next h.ends.0.1

described_stays : (r : Request) → kind_of r ≡ kinds.Describe → change_of (main_kind r) ≡ changes.Stays
described_stays (requests.Describe x) k = by x.goal
  where
    by : (goal : Goal) → change_of (goal_kind goal) ≡ changes.Stays
    by (goals.Run how) = refl
    by goals.Prepare = refl
described_stays (requests.Evict eviction) k = by eviction.after
  where
    by : (after : After) → change_of (after_kind after) ≡ changes.Stays
    by (afters.Run bound) = refl
    by (afters.Fill filling) = refl
    by (afters.Prepare prepared) = refl
described_stays (requests.Look lookup) k = by lookup.extended.goal
  where
    by : (goal : Goal) → change_of (goal_kind goal) ≡ changes.Stays
    by (goals.Run how) = refl
    by goals.Prepare = refl
described_stays (requests.Run bound) k = refl
described_stays (requests.Fill filling) k = refl
described_stays _ k = absurd cc

-- nor is it a copy from the client
described_main : (r : Request) → kind_of r ≡ kinds.Describe → main_kind r ≡ kinds.CopyIn → ⊥
described_main (requests.Describe x) k e = by x.goal e
  where
    by : (goal : Goal) → goal_kind goal ≡ kinds.CopyIn → ⊥
    by (goals.Run how) e = cc
    by goals.Prepare e = cc
described_main (requests.Evict eviction) k e = by eviction.after e
  where
    by : (after : After) → after_kind after ≡ kinds.CopyIn → ⊥
    by (afters.Run bound) e = cc
    by (afters.Fill filling) e = cc
    by (afters.Prepare prepared) e = cc
described_main (requests.Fill filling) k e = cc
described_main (requests.Look lookup) k e = by lookup.extended.goal e
  where
    by : (goal : Goal) → goal_kind goal ≡ kinds.CopyIn → ⊥
    by (goals.Run how) e = cc
    by goals.Prepare e = cc
described_main _ k e = absurd cc

-- what is looked up is for the same call
looked_main : (told next : Request) → LeadsTo told next → main_kind next ≡ main_kind told
looked_main told next (inl same) = ap main_kind same
looked_main told next (inr (inl l)) = ap main_kind l.asks ∙ sym (ap main_kind l.tells)
looked_main told next (inr (inr (inl f))) = ap main_kind f.asks ∙ sym (ap main_kind f.tells)
looked_main told next (inr (inr (inr (inl r)))) = ap main_kind r.asks ∙ sym (ap main_kind r.tells)
looked_main told next (inr (inr (inr (inr (inl f))))) = ap main_kind f.asks ∙ sym (ap main_kind f.tells)
looked_main told next (inr (inr (inr (inr (inr f))))) = ap main_kind f.asks ∙ sym (ap main_kind f.tells)

handed_main : (polls : ℕ) (first : StreamSeen) (a m : ConnSeen) (r told next : Request) (learnt : Learnt) → HandedOn polls first a m r told → LooksUp told m.learnt next learnt → main_kind next ≡ main_kind r
handed_main polls first a m r told next learnt h looks = looked_main told next (looks_or told next m.learnt learnt looks) ∙ (next_is r h.ends.0.0.reply h.ends.0.0.status told h.ends.0.1).0

-- what is asked next opens and closes nothing
pub handed_stays : (polls : ℕ) (first : StreamSeen) (a m : ConnSeen) (r told next : Request) (learnt : Learnt) → HandedOn polls first a m r told → LooksUp told m.learnt next learnt → change_for (asked_from m next) ≡ changes.Stays
handed_stays polls first a m r told next learnt h looks =
    let main = handed_main polls first a m r told next learnt h looks in
    not_fed (asked_from m next) (λ e. described_main r (handed_described polls first a m r told h) (sym main ∙ sym (asked_main (settled m).rule next) ∙ e)) ∙ asked_changes (settled m).rule next ∙ ap change_of main ∙ described_stays r (handed_described polls first a m r told h)

-- what a connection has counted
abbrev pub counted_by : ConnSeen → Counted
counted_by c = record { groups = all_groups c; heard = c.heard; waits = c.stream.waits; moves = c.stream.moves; cache = c.cache }

-- the connection behind an exchange that handed this on, where a statement may be held for it
abbrev pub held_conn : ConnSeen → Request → ConnSeen
held_conn m next = record (settled m) { rule = held_by (settled m).rule next }

-- the next exchange begins as any other, behind what was counted
pub handed_asking : (polls : ℕ) (first : StreamSeen) (a m : ConnSeen) (r next : Request) → (h : HandsTo polls first a m r next) → handed_from (knowing h.learnt m) next ≡ asking (asked_from m next) (counted_by (held_conn (knowing h.learnt m) next)) (held_conn (knowing h.learnt m) next)
handed_asking polls first a m r next h = ap (λ (x : Change). record (handed_from (knowing h.learnt m) next) { change = x }) (sym (handed_stays polls first a m r h.told next h.learnt h.handed h.looks))

-- The exchange that handed on is told of as any that ended. It ends no call.
pub handed_ended : (limits : Bounds) (first : StreamSeen) (a m : ConnSeen) (r next : Request) → 0 < limits.most → (h : HandedOn limits.polls first a m r next) → Ended limits first a m r [] (ends.Ok AnswersUnit) h.said h.fs
handed_ended limits first a m r next l h = record {
  went = h.went;
  broken = h.whole.1 ∙ sym (ap (λ (o : Option ServerFault). broken_after o (ends.Ok AnswersUnit)) h.whole.0);
  kept = λ fault e. let x = sym h.whole.0 ∙ e in absurd cc;
  few = (h.waits, h.waited, (λ d. h.few, omega (arith, h.few)));
  room = h.room;
  calls = omega (arith, h.calls);
  at_once = λ o. record { refused = λ u. absurd (h.unsaid u); flushed = λ f. let x = sym h.flush ∙ f in absurd cc };
  ends = subst (λ (o : Option ServerFault). EndsOn o limits first a m r h.said (heard h.fs) [] (ends.Ok AnswersUnit)) (sym h.whole.0) ([], answers.Unit, refl, l, refl, answered a.ledger r h.said (heard h.fs) [] m.ledger (beats.HandsOn next) answers.Unit refl h.ends.0, h.ends.1);
}

-- ---- an exchange begins in the poll in which the one before it ended

send_later : (a b c : ConnSeen) → AllMoved a.stream b.stream → b.stream.left ≤ a.stream.left → c.stream.left ≤ b.stream.left → SendCause b c → SendCause a c
send_later a b c h k l (inl w) = inl (WriteWaited-after a.stream b.stream c.stream h.2 w)
send_later a b c h k l (inr f) = inr (f.0, AllMoved-then a.stream b.stream c.stream h k f.1 l)

-- the cause of a beat behind calls of the link that all moved is one of both
cause_later : (a b c : ConnSeen) (beat : Beat) → AllMoved a.stream b.stream → b.stream.left ≤ a.stream.left → c.stream.left ≤ b.stream.left → BeatCause b c beat → BeatCause a c beat
cause_later a b c beats.More h k l t = AllMoved-then a.stream b.stream c.stream h k t l
cause_later a b c beats.Waits h k l t = (PendingCause-after a.stream b.stream c.stream h k l t.0, λ s. send_later a b c h k l (t.1 s))
cause_later a b c (beats.Yields item) h k l t = NoneWaited-then a.stream b.stream c.stream h.2 t
cause_later a b c (beats.Opens opened) h k l t = NoneWaited-then a.stream b.stream c.stream h.2 t
cause_later a b c (beats.Ends (Ok answer)) h k l t = AllMoved-then a.stream b.stream c.stream h k t l
cause_later a b c (beats.HandsOn next) h k l t = AllMoved-then a.stream b.stream c.stream h k t l
cause_later a b c (beats.Ends (Err e)) h k l t = NoneWaited-then a.stream b.stream c.stream h.2 t

-- An exchange begins in the midst of a poll, which began with b, of a call that has waited so often. All calls of the link in it have moved.
record Begins (first : StreamSeen) (b at : ConnSeen) (r : Request) (waits : ℕ) : Type 0 where
  queued : List ℕ
  frames : List Frame
  moves : Moves (begun_with 256 b).stream at.stream queued frames
  moved : AllMoved (begun_with 256 b).stream at.stream
  waited : Waited waits first b.stream
  made : b.stream.link.calls ≤ first.link.calls + 256 * waits
  whole : at.broken ≡ None
  asks : at.call ≡ calls.Asked r
  change : at.change ≡ change_for r
  unnamed : named_in r ≡ None

-- what is asked has no type that is known by its name alone
asks_plainly : (b c : ConnSeen) (beat : Beat) → IsSayable b.call ⊎ Refused b c beat → named_by b.call ≡ None → (IsSayable b.call × (named_by b.call ≡ None)) ⊎ Refused b c beat
asks_plainly b c beat (inl can) n = inl (can, n)
asks_plainly b c beat (inr refused) n = inr refused

later_beat : (first : StreamSeen) (b at c : ConnSeen) (r : Request) (waits : ℕ) (beat : Beat) → Begins first b at r waits → (p : Polled at c beat) → AfterSome first at p.stopped r waits [] beat
later_beat first b at c r waits beat s p =
    let two = p.turns.3 in
    let moves = Moves-then (begun_with 256 b).stream at.stream p.stopped.stream s.queued p.turns.0 s.frames p.turns.1 s.moves two.moves in
    let cause = cause_later (begun_with 256 b) at p.stopped beat s.moved s.moves.left two.moves.left two.cause in
    let over : OverPoll first at p.stopped waits (0 + again r) beat = over_poll first at b p.stopped waits (0 + again r) beat (s.queued ++ p.turns.0) (s.frames ++ p.turns.1) (omega (arith, s.moved.2.2.0)) s.waited (omega (arith, s.made)) moves cause in
    after_beat at.stream.left at.stream first at at p.stopped r 0 waits [] beat [] [] (fresh_play at r s.whole s.asks s.change) p.turns p.whole (asks_plainly at p.stopped beat p.says (ap (λ (k : Call). named_by k) s.asks ∙ s.unnamed)) p.flush over

-- the next one begins where it stopped
begins_next : (polls : ℕ) (first : StreamSeen) (b at m : ConnSeen) (r next : Request) (waits : ℕ) → Begins first b at r waits → (h : HandsTo polls first at m r next) → TakesBeat at m (beats.HandsOn h.told) → Begins first b (handed_from (knowing h.learnt m) next) (asked_from m next) waits
begins_next polls first b at m r next waits s h t = record {
  queued = s.queued ++ t.0;
  frames = s.frames ++ t.1;
  moves = Moves-then (begun_with 256 b).stream at.stream m.stream s.queued t.0 s.frames t.1 s.moves t.3.moves;
  moved = AllMoved-then (begun_with 256 b).stream at.stream m.stream s.moved s.moves.left t.3.cause t.3.moves.left;
  waited = s.waited;
  made = s.made;
  whole = h.handed.whole.1;
  asks = refl;
  change = sym (handed_stays polls first at m r h.told next h.learnt h.handed h.looks);
  unnamed = next_unnamed polls first at m r next h;
}

-- ---- what a poll makes of an exchange

-- an exchange behind a poll
abbrev Turned : ℕ → StreamSeen → ConnSeen → ℕ → List Item → Poll Turn → ConnSeen → Request → Type 0
Turned most first c waits shown answer at asked = PlayBeat at.broken most first at c asked waits shown (beat_of answer)

turned_whole : (most : ℕ) (first : StreamSeen) (a c : ConnSeen) (r : Request) (waits : ℕ) (shown : List Item) (answer : Poll Turn) (o : Option ServerFault) → a.broken ≡ o → PlayBeat o most first a c r waits shown (beat_of answer) → Turned most first c waits shown answer a r
turned_whole most first a c r waits shown answer o e h = subst (λ (x : Option ServerFault). PlayBeat x most first a c r waits shown (beat_of answer)) (sym e) h

-- what is asked behind an exchange that handed on, and the connection on which it begins
asks_on : (polls : ℕ) (first : StreamSeen) (a m between c : ConnSeen) (r told next : Request) → HandedOn polls first a m r told → between ≡ settled m → AsksNext told between next c
    → (h : HandsTo polls first a m r next) × (c ≡ handed next (settled (knowing h.learnt m))) × (TakesBeat a m (beats.HandsOn told) → TakesBeat a m (beats.HandsOn h.told))
asks_on polls first a m between c r told next h is (learnt, looks, stands) = (
  record { told = told; handed = h; learnt = learnt; looks = subst (λ (x : ConnSeen). LooksUp told x.learnt next learnt) is looks },
  stands ∙ ap (λ (x : ConnSeen). handed next (knowing learnt x)) is,
  λ t. t,
)

-- exchanges that begin in the midst of a poll, the last of which goes on behind it
later_turns : (later : List Request) (polls most : ℕ) (first : StreamSeen) (b at last c : ConnSeen) (r : Request) (waits : ℕ) (shown : List Item) (answer : Poll Turn) → waits < polls → shown ≡ [] → length shown < most → Begins first b (resolved at) r waits → HandsOver at later last → Polled (resolved last) c (beat_of answer)
    → OfLastIn later polls first (Turned most first c waits shown answer) (resolved at) r
later_turns [] polls most first b at last c r waits shown answer l n few s h p =
    let p' = subst (λ (x : ConnSeen). Polled (resolved x) c (beat_of answer)) h p in
    turned_whole most first (resolved at) c r waits shown answer None s.whole ([], n, few, p'.stopped, p'.behind_is, later_beat first b (resolved at) c r waits (beat_of answer) s p', p'.asked)
later_turns (next ∷ later) polls most first b at last c r waits shown answer l n few s h p =
    let told = h.1.0 in
    let between = h.1.1 in
    let one = h.1.2 in
    let asks = h.1.3 in
    let m = one.stopped in
    let over = hands_over polls first (resolved at) m r told waits [] l s.whole (later_beat first b (resolved at) between r waits (beats.HandsOn told) s one) in
    let on = asks_on polls first (resolved at) m between h.0 r told next over.0 one.behind_is asks in
    (m, on.0, later_turns later polls most first b (handed next (settled (knowing on.0.learnt m))) last c (asked_from m next) waits shown answer l n few (begins_next polls first b (resolved at) m r next waits s on.0 (on.2 one.turns)) (subst (λ (x : ConnSeen). HandsOver x later last) on.1 h.2) p)

-- a poll that may make so many calls of the link begins so, whether or not what is asked stands as an exchange
begun_resolved : (c : ConnSeen) → resolved (begun_with 256 c) ≡ begun_with 256 (resolved c)
begun_resolved c = by c.call
  where
    by : (call : Call) → resolved_by call (begun_with 256 c) ≡ begun_with 256 (resolved_by call c)
    by (calls.Asked r) = refl
    by calls.Idle = refl
    by (calls.Waiting w) = refl
    by (calls.Own reply) = refl
    by calls.Closing = refl

resolved_broken : (c : ConnSeen) → (resolved c).broken ≡ c.broken
resolved_broken c = by c.call
  where
    by : (call : Call) → (resolved_by call c).broken ≡ c.broken
    by (calls.Asked r) = refl
    by calls.Idle = refl
    by (calls.Waiting w) = refl
    by (calls.Own reply) = refl
    by calls.Closing = refl

-- the exchange that runs goes on by a beat
goes_on : (most : ℕ) (first : StreamSeen) (a b c : ConnSeen) (r : Request) (waits : ℕ) (shown : List Item) (beat : Beat) → (i : IsPlayingOn None most first a b r waits shown) → (p : Polled (begun_with 256 (resolved b)) c beat)
    → (IsSayable (resolved b).call × (named_by (resolved b).call ≡ None)) ⊎ Refused (begun_with 256 (resolved b)) p.stopped beat → AfterSome first a p.stopped r waits i.0 beat
goes_on most first a b c r waits shown beat i p says =
    let from : ConnSeen = resolved b in
    let over = over_poll first a from p.stopped waits (length i.0 + again r) beat p.turns.0 p.turns.1 i.5.went.flows.counts.write_waits i.5.waited (omega (arith, i.5.calls)) p.turns.3.moves p.turns.3.cause in
    after_beat 256 first first a from p.stopped r waits waits i.0 beat i.1 i.2 i.5 p.turns p.whole says p.flush over

-- one exchange went on, or the next ones began
turns_on : (polls most : ℕ) (first : StreamSeen) (a b c : ConnSeen) (r : Request) (waits : ℕ) (shown : List Item) (answer : Poll Turn) → waits < polls → a.broken ≡ None → named_by (resolved b).call ≡ None → IsPlayingOn None most first a b r waits shown → PollsOn (begun_with 256 b) c answer → OfLastOn polls first (Turned most first c waits shown answer) a r
turns_on polls most first a b c r waits shown answer l e n i t = by t.later t.hands
  where
    from : ConnSeen
    from = resolved b

    polled_from : (c : ConnSeen) (beat : Beat) → Polled (resolved (begun_with 256 b)) c beat → Polled (begun_with 256 from) c beat
    polled_from c beat p = subst (λ (x : ConnSeen). Polled x c beat) (begun_resolved b) p

    plainly : (c : ConnSeen) (beat : Beat) → (p : Polled (begun_with 256 from) c beat) → AfterSome first a p.stopped r waits i.0 beat
    plainly c beat p = goes_on most first a b c r waits shown beat i p (asks_plainly (begun_with 256 from) p.stopped beat p.says n)

    by : (later : List Request) → HandsOver (begun_with 256 b) later t.last → OfLastOn polls first (Turned most first c waits shown answer) a r
    by [] h =
        let p = polled_from c (beat_of answer) (subst (λ (x : ConnSeen). Polled (resolved x) c (beat_of answer)) h t.polled) in
        ([], turned_whole most first a c r waits shown answer None e (i.0, i.3, i.4, p.stopped, p.behind_is, plainly c (beat_of answer) p, p.asked))
    by (next ∷ later) h =
        let told = h.1.0 in
        let between = h.1.1 in
        let one = polled_from between (beats.HandsOn told) h.1.2 in
        let asks = h.1.3 in
        let m = one.stopped in
        let over = hands_over polls first a m r told waits i.0 l e (plainly between (beats.HandsOn told) one) in
        let on = asks_on polls first a m between h.0 r told next over.0 one.behind_is asks in
        let few : from.stream.link.calls ≤ first.link.calls + 256 * waits = omega (arith, i.5.calls, ap (λ (x : List CallItem). length x) over.1, described_again r (handed_described polls first a m r told over.0)) in
        let begins : Begins first from (handed_from (knowing on.0.learnt m) next) (asked_from m next) waits = record {
          queued = one.turns.0;
          frames = one.turns.1;
          moves = one.turns.3.moves;
          moved = one.turns.3.cause;
          waited = i.5.waited;
          made = few;
          whole = over.0.whole.1;
          asks = refl;
          change = sym (handed_stays polls first a m r on.0.told next on.0.learnt on.0.handed on.0.looks);
          unnamed = next_unnamed polls first a m r next on.0;
        } in
        let further = subst (λ (x : ConnSeen). HandsOver x later t.last) on.1 h.2 in
        (next ∷ later, (m, on.0, later_turns later polls most first from (handed next (settled (knowing on.0.learnt m))) t.last c (asked_from m next) waits shown answer l (i.3 ∙ ap (map item_of) over.1) i.4 begins further t.polled))

-- ---- the first poll of a call whose types are known by their names alone

pub named_is : (r told : Request) → named_in r ≡ Some told → r ≡ told
named_is r told e = by (named_asked (calls.Asked r) told e)
  where
    by : calls.Asked r ≡ calls.Asked told → r ≡ told
    by e = cc

-- it describes a statement, or runs one
named_stays : (r told : Request) → named_in r ≡ Some told → change_of (main_kind r) ≡ changes.Stays
named_stays (requests.Describe x) told e = described_stays (requests.Describe x) refl
named_stays (requests.Run bound) told e = refl
named_stays _ told e = absurd cc

named_plain : (r told : Request) → named_in r ≡ Some told → change_for r ≡ changes.Stays
named_plain (requests.Describe x) told e = refl
named_plain (requests.Run bound) told e = refl
named_plain _ told e = absurd cc

named_main : (r told : Request) → named_in r ≡ Some told → main_kind r ≡ kinds.CopyIn → ⊥
named_main (requests.Describe x) told e k = described_main (requests.Describe x) refl k
named_main (requests.Run bound) told e k = cc
named_main _ told e k = absurd cc

named_handed : (r told : Request) → named_in r ≡ Some told → IsHanded r
named_handed (requests.Describe x) told e = tt
named_handed (requests.Run bound) told e = tt
named_handed _ told e = absurd cc

named_again : (r told : Request) → named_in r ≡ Some told → again r ≡ 0
named_again (requests.Describe x) told e = refl
named_again (requests.Run bound) told e = refl
named_again _ told e = absurd cc

pub named_self : (r told : Request) → named_in r ≡ Some told → named_in told ≡ Some told
named_self r told e = ap named_in (sym (named_is r told e)) ∙ e

-- what is looked up for it opens and closes nothing
pub looked_stays : (rule : Rule) (told next : Request) (a b : Learnt) → named_in told ≡ Some told → LooksUp told a next b → change_for (asked_by rule next) ≡ changes.Stays
looked_stays rule told next a b named looks =
    let main = looked_main told next (looks_or told next a b looks) in
    not_fed (asked_by rule next) (λ e. named_main told told named (sym main ∙ sym (asked_main rule next) ∙ e)) ∙ asked_changes rule next ∙ ap change_of main ∙ named_stays told told named

looks_first : (polls most : ℕ) (first : StreamSeen) (a b c now : ConnSeen) (r : Request) (waits : ℕ) (shown : List Item) (answer : Poll Turn) → waits < polls → a.broken ≡ None → IsPlayingOn None most first a b r waits shown → (told : Request) → named_by (resolved (begun_with 256 b)).call ≡ Some told
    → CanBeSaid told → (next : Request) → AsksNext told (resolved (begun_with 256 b)) next now → PollsOn now c answer → OfLast polls first (Turned most first c waits shown answer) a r
looks_first polls most first a b c now r waits shown answer l whole i told n can next (learnt, looks, is) t =
    let asked_x : (resolved (begun_with 256 b)).call ≡ calls.Asked told = named_asked (resolved (begun_with 256 b)).call told n in
    let in_call : (resolved b).call ≡ calls.Asked told = ap (λ (y : ConnSeen). y.call) (sym (begun_resolved b)) ∙ asked_x in
    let runs_so = subst (λ (k : Call). CallIs a.ledger r i.1 (heard i.2) i.0 (resolved b).ledger k) in_call i.5.call in
    let self : named_in told ≡ Some told = subst (λ (k : Call). named_by k ≡ Some told) asked_x n in
    let named : named_in r ≡ Some told = ap named_in (sym runs_so.0) ∙ self in
    let fresh = i.5.unsaid (inr (told, named)) in
    let begun : resolved (begun_with 256 b) ≡ begun_with 256 a = begun_resolved b ∙ ap (λ (y : ConnSeen). begun_with 256 y) fresh.0 in
    let looks_so : LooksUp told a.learnt next learnt = subst (λ (y : ConnSeen). LooksUp told y.learnt next learnt) begun looks in
    let asking_on : ConnSeen = handed next (knowing learnt a) in
    let from : ConnSeen = resolved asking_on in
    let asked : Request = asked_by a.rule next in
    let change : from.change ≡ change_for asked = i.5.asked ∙ ap (λ (q : Request). change_for q) (sym runs_so.0) ∙ named_plain told told self ∙ sym (looked_stays a.rule told next a.learnt learnt self looks_so) in
    let play = fresh_play from asked whole refl change in
    let moved : (resolved b).stream.link.calls ≡ a.stream.link.calls = ap (λ (y : ConnSeen). y.stream.link.calls) fresh.0 in
    let j : InPlay first from from asked waits [] [] [] = record {
      went = play.went;
      broken = play.broken;
      call = play.call;
      asked = play.asked;
      room = play.room;
      waited = subst (λ (y : ConnSeen). Waited waits first y.stream) fresh.0 i.5.waited;
      calls = omega (arith, i.5.calls, moved, ap (λ (ys : List CallItem). length ys) runs_so.4, named_again r told named);
      unsaid = play.unsaid;
      unflushed = play.unflushed;
    } in
    let on = turns_on polls most first from asking_on c asked waits shown answer l whole (handed_unnamed a.rule told next a.learnt learnt (named_handed told told self) looks_so) ([], [], [], i.3 ∙ ap (map item_of) runs_so.4, i.4, j)
    (subst (λ (y : ConnSeen). PollsOn y c answer) (is ∙ ap (λ (y : ConnSeen). handed next (record y { learnt = learnt })) begun) t) in
    (from, asked, inr (subst (λ (o : Option Request). LooksFirst o a from asked) (sym named) (whole, can, (learnt, next, looks_so, refl, refl))), on)

-- it is refused before anything is looked up for it
refused_first : (polls most : ℕ) (first : StreamSeen) (a b c : ConnSeen) (r : Request) (waits : ℕ) (shown : List Item) (told : Request) (e : Error) → a.broken ≡ None → IsPlayingOn None most first a b r waits shown → named_by (resolved (begun_with 256 b)).call ≡ Some told
    → IsRefusal told e → c ≡ cleaned (idle (resolved (begun_with 256 b))) → OfLast polls first (Turned most first c waits shown (Ready (turns.Err e))) a r
refused_first polls most first a b c r waits shown told e whole i n h is =
    let one = polls_refused (begun_with 256 b) c told e (sym (resolved_broken b) ∙ i.5.broken) (named_flushes (resolved (begun_with 256 b)).call told n) (named_asked (resolved (begun_with 256 b)).call told n) h is in
    let p = subst (λ (y : ConnSeen). (q : Polled y c (beats.Ends (Err e))) × Refused y q.stopped (beats.Ends (Err e))) (begun_resolved b) one in
    (a, r, inl (refl, refl), ([], turned_whole most first a c r waits shown (Ready (turns.Err e)) None whole (i.0, i.3, i.4, p.0.stopped, p.0.behind_is, goes_on most first a b c r waits shown (beats.Ends (Err e)) i p.0 (inr p.1), p.0.asked)))

turns_through : (polls most : ℕ) (first : StreamSeen) (a b c : ConnSeen) (r : Request) (waits : ℕ) (shown : List Item) (answer : Poll Turn) → waits < polls → a.broken ≡ None → IsPlayingOn None most first a b r waits shown → PollsThrough (begun_with 256 b) c answer → OfLast polls first (Turned most first c waits shown answer) a r
turns_through polls most first a b c r waits shown answer l e i (now, begins, t) = starts begins
  where
    asks : (o : Option Request) → named_by (resolved (begun_with 256 b)).call ≡ o → AsksNamed o (begun_with 256 b) now → OfLast polls first (Turned most first c waits shown answer) a r
    asks None n same =
        let plain : named_by (resolved b).call ≡ None = ap (λ (x : ConnSeen). named_by x.call) (sym (begun_resolved b)) ∙ n in
        (a, r, inl (refl, refl), turns_on polls most first a b c r waits shown answer l e plain i (subst (λ (x : ConnSeen). PollsOn x c answer) same t))
    asks (Some x) n (can, (next, looks)) = looks_first polls most first a b c now r waits shown answer l e i x n can next looks t

    refused : (o : Option Request) → named_by (resolved (begun_with 256 b)).call ≡ o → (z : Poll Turn) → RefusesNamed o (begun_with 256 b) c z → OfLast polls first (Turned most first c waits shown z) a r
    refused None n z h = absurd h
    refused (Some x) n Pending h = absurd h
    refused (Some x) n (Ready (turns.Item item)) h = absurd h
    refused (Some x) n (Ready (turns.Ok answer)) h = absurd h
    refused (Some x) n (Ready (turns.Opened opened)) h = absurd h
    refused (Some x) n (Ready (turns.Err err)) h = refused_first polls most first a b c r waits shown x err e i n h.0 h.1

    starts : BeginsBy (begun_with 256 b) now c answer → OfLast polls first (Turned most first c waits shown answer) a r
    starts (inl h) = asks (named_by (resolved (begun_with 256 b)).call) refl h
    starts (inr (same, h)) = refused (named_by (resolved (begun_with 256 b)).call) refl answer h

-- on a connection that is broken
turns_broken : (polls most : ℕ) (first : StreamSeen) (a b c : ConnSeen) (r : Request) (waits : ℕ) (shown : List Item) (answer : Poll Turn) (fault : ServerFault) → a.broken ≡ Some fault → IsPlayingOn (Some fault) most first a b r waits shown → PollsBy b.broken (begun_with 256 b) b c answer → OfLastOn polls first (Turned most first c waits shown answer) a r
turns_broken polls most first a b c r waits shown answer fault e i p =
    let broke = subst (λ (k : Option ServerFault). PollsBy k (begun_with 256 b) b c answer) i.0 p in
    ([], turned_whole most first a c r waits shown answer (Some fault) e (broke.0 ∙ sym i.1, broke.1, i.2, i.3, i.4))

polls_whole : (most : ℕ) (first : StreamSeen) (a b c : ConnSeen) (r : Request) (waits : ℕ) (shown : List Item) (answer : Poll Turn) → IsPlayingOn None most first a b r waits shown → PollsBy b.broken (begun_with 256 b) b c answer → PollsThrough (begun_with 256 b) c answer
polls_whole most first a b c r waits shown answer i p = subst (λ (k : Option ServerFault). PollsBy k (begun_with 256 b) b c answer) (sym (resolved_broken b) ∙ i.5.broken) p

turns_one : (polls most : ℕ) (first : StreamSeen) (a b c : ConnSeen) (r : Request) (waits : ℕ) (shown : List Item) (answer : Poll Turn) → waits < polls → IsPlaying most first a b r waits shown → PollsBy b.broken (begun_with 256 b) b c answer → OfLast polls first (Turned most first c waits shown answer) a r
turns_one polls most first a b c r waits shown answer l i p = by a.broken refl i
  where
    by : (o : Option ServerFault) → a.broken ≡ o → IsPlayingOn o most first a b r waits shown → OfLast polls first (Turned most first c waits shown answer) a r
    by None e i = turns_through polls most first a b c r waits shown answer l e i (polls_whole most first a b c r waits shown answer i p)
    by (Some fault) e i = (a, r, inl (refl, refl), turns_broken polls most first a b c r waits shown answer fault e i p)

-- where what is asked has no such type
turns_plain : (polls most : ℕ) (first : StreamSeen) (a b c : ConnSeen) (r : Request) (waits : ℕ) (shown : List Item) (answer : Poll Turn) → named_in r ≡ None → waits < polls → IsPlaying most first a b r waits shown → PollsBy b.broken (begun_with 256 b) b c answer → OfLastOn polls first (Turned most first c waits shown answer) a r
turns_plain polls most first a b c r waits shown answer n l i p = by a.broken refl i
  where
    called : (said : List FrontendMessage) (fs : List Frame) (items : List CallItem) (ledger : Ledger) (call : Call) → CallIs a.ledger r said (heard fs) items ledger call → named_by call ≡ None
    called said fs items ledger (calls.Asked q) h = ap named_in h.0 ∙ n
    called said fs items ledger _ h = refl

    begins_at : (now : ConnSeen) → named_by (resolved (begun_with 256 b)).call ≡ None → BeginsBy (begun_with 256 b) now c answer → now ≡ begun_with 256 b
    begins_at now none (inl h) = subst (λ (o : Option Request). AsksNamed o (begun_with 256 b) now) none h
    begins_at now none (inr (same, h)) = same

    by : (o : Option ServerFault) → a.broken ≡ o → IsPlayingOn o most first a b r waits shown → OfLastOn polls first (Turned most first c waits shown answer) a r
    by None e i =
        let none : named_by (resolved b).call ≡ None = called i.1 i.2 i.0 (resolved b).ledger (resolved b).call i.5.call in
        let t = polls_whole most first a b c r waits shown answer i p in
        let same = begins_at t.0 (ap (λ (x : ConnSeen). named_by x.call) (begun_resolved b) ∙ none) t.1 in
        turns_on polls most first a b c r waits shown answer l e none i (subst (λ (x : ConnSeen). PollsOn x c answer) same t.2)
    by (Some fault) e i = turns_broken polls most first a b c r waits shown answer fault e i p

-- the exchange that came last goes on
turns_last : (later : List Request) (polls most : ℕ) (first : StreamSeen) (a b c : ConnSeen) (r : Request) (waits : ℕ) (shown : List Item) (answer : Poll Turn) → named_in r ≡ None → waits < polls → OfLastIn later polls first (λ at asked. IsPlaying most first at b asked waits shown) a r → PollsBy b.broken (begun_with 256 b) b c answer
    → OfLastOn polls first (Turned most first c waits shown answer) a r
turns_last [] polls most first a b c r waits shown answer n l i p = turns_plain polls most first a b c r waits shown answer n l i p
turns_last (next ∷ later) polls most first a b c r waits shown answer n l (m, h, rest) p =
    let behind = turns_last later polls most first (handed_from (knowing h.learnt m) next) b c (asked_from m next) waits shown answer (next_unnamed polls first a m r next h) l rest p in
    (next ∷ behind.0, (m, h, behind.1))

-- what comes before a description has no such type either
starts_unnamed : (a from : ConnSeen) (r asked : Request) → LooksFirst (named_in r) a from asked → named_in asked ≡ None
starts_unnamed a from r asked h = by (named_in r) refl h
  where
    by : (o : Option Request) → named_in r ≡ o → LooksFirst o a from asked → named_in asked ≡ None
    by None n h = absurd h
    by (Some told) n (whole, can, (learnt, next, looks, is, f)) = ap named_in is ∙ handed_unnamed a.rule told next a.learnt learnt (named_handed told told (named_self r told n)) looks

call_turns : (limits : Limits) (a b c : ConnSeen) (r : Request) (waits : ℕ) (shown : List Item) (answer : Poll Turn) → waits < limits.polls → IsCallPlaying limits a b r waits shown → PollsBy b.broken (begun_with 256 b) b c answer → OfLast limits.polls a.stream (Turned limits.most a.stream c waits shown answer) a r
call_turns limits a b c r waits shown answer l (from, asked, inl (f, q), ([], i)) p =
    turns_one limits.polls limits.most a.stream a b c r waits shown answer l (subst (λ (x : Request). IsPlaying limits.most a.stream a b x waits shown) q (subst (λ (x : ConnSeen). IsPlaying limits.most a.stream x b asked waits shown) f i)) p
call_turns limits a b c r waits shown answer l (from, asked, inl same, (next ∷ later, (m, h, rest))) p =
    let behind = turns_last later limits.polls limits.most a.stream (handed_from (knowing h.learnt m) next) b c (asked_from m next) waits shown answer (next_unnamed limits.polls a.stream from m asked next h) l rest p in
    (from, asked, inl same, (next ∷ behind.0, (m, h, behind.1)))
call_turns limits a b c r waits shown answer l (from, asked, inr looks, (later, i)) p =
    (from, asked, inr looks, turns_last later limits.polls limits.most a.stream from b c asked waits shown answer (starts_unnamed a from r asked looks) l i p)

-- ---- one poll

pub poll_goes : (limits : Limits) (a b c : ConnSeen) (r : Request) (waits : ℕ) (shown : List Item) → waits < limits.polls → IsCallPlaying limits a b r waits shown → PollsBy b.broken (begun_with 256 b) b c Pending → PollGives limits a c r (waits + 1) shown None
poll_goes limits a b c r waits shown l i p =
    on_last limits.polls a.stream (Turned limits.most a.stream c waits shown Pending) (λ at asked. IsPlaying limits.most a.stream at c asked (waits + 1) shown) a r
    (λ at asked h. goes_waits at.broken limits.most a.stream at c asked waits shown h) (call_turns limits a b c r waits shown Pending l i p)

pub poll_drops : (limits : Limits) (a b c : ConnSeen) (r : Request) (waits : ℕ) (shown : List Item) → waits + 1 ≡ limits.polls → IsCallPlaying limits a b r waits shown → PollsBy b.broken (begun_with 256 b) b c Pending → PollGives limits a c r (waits + 1) shown (Some (pauses.Ended ends.Dropped))
poll_drops limits a b c r waits shown k i p =
    on_last limits.polls a.stream (Turned limits.most a.stream c waits shown Pending) (λ at asked. StopsBy (bounds limits) a.stream at c asked shown ends.Dropped) a r
    (λ at asked h. drops_waiting limits at.broken a.stream at c asked waits shown k refl h) (call_turns limits a b c r waits shown Pending (omega (arith, k)) i p)

-- an exchange whose end is the call's
ends_ok : (limits : Limits) (first : StreamSeen) (a c : ConnSeen) (r : Request) (old new : Tally) (answer : CallAnswer) (end : End) → old.waits < limits.polls → Finishes answer old new end → Turned limits.most first c old.waits old.items.items (Ready (turns.Ok answer)) a r → StopsBy (bounds limits) first a c r new.items.items end
ends_ok limits first a c r old new answer (ends.Ok told) l f h = goes_ok (bounds limits) a.broken first a c r old.waits old.items.items new.items.items answer told l refl f.1 f.2 h
ends_ok limits first a c r old new answer (ends.Err e) l f h = goes_unshown (bounds limits) a.broken first a c r old.waits old.items.items new.items.items answer e l refl f.1 f.2 f.3 h
ends_ok limits first a c r old new answer ends.Dropped l f h = absurd f

pub poll_ok : (limits : Limits) (a b c : ConnSeen) (r : Request) (old new : Tally) (answer : CallAnswer) (end : End) → old.waits < limits.polls → Finishes answer old new end → IsCallPlaying limits a b r old.waits old.items.items → PollsBy b.broken (begun_with 256 b) b c (Ready (turns.Ok answer))
    → PollGives limits a c r new.waits new.items.items (Some (pauses.Ended end))
poll_ok limits a b c r old new answer end l f i p =
    on_last limits.polls a.stream (Turned limits.most a.stream c old.waits old.items.items (Ready (turns.Ok answer))) (λ at asked. StopsBy (bounds limits) a.stream at c asked new.items.items end) a r
    (λ at asked h. ends_ok limits a.stream at c asked old new answer end l f h) (call_turns limits a b c r old.waits old.items.items (Ready (turns.Ok answer)) l i p)

pub poll_err : (limits : Limits) (a b c : ConnSeen) (r : Request) (waits : ℕ) (shown : List Item) (e : Error) → waits < limits.polls → IsCallPlaying limits a b r waits shown → PollsBy b.broken (begun_with 256 b) b c (Ready (turns.Err e)) → PollGives limits a c r waits shown (Some (pauses.Ended (ends.Err e)))
poll_err limits a b c r waits shown e l i p =
    on_last limits.polls a.stream (Turned limits.most a.stream c waits shown (Ready (turns.Err e))) (λ at asked. StopsBy (bounds limits) a.stream at c asked shown (ends.Err e)) a r
    (λ at asked h. goes_err (bounds limits) at.broken a.stream at c asked waits shown e l refl h) (call_turns limits a b c r waits shown (Ready (turns.Err e)) l i p)

playing_at : (o : Option ServerFault) (most : ℕ) (first : StreamSeen) (a c : ConnSeen) (r : Request) (w w' : ℕ) (is is' : List Item) → w' ≡ w → is' ≡ is → IsPlayingOn o most first a c r w is → IsPlayingOn o most first a c r w' is'
playing_at o most first a c r w w' is is' x y h = subst (λ (n : ℕ). IsPlayingOn o most first a c r n is') (sym x) (subst (λ (t : List Item). IsPlayingOn o most first a c r w t) (sym y) h)

shows : (limits : Limits) (first : StreamSeen) (a c : ConnSeen) (r : Request) (old new : Tally) (item : CallItem) → Adds limits (item_of item) old new adds.More → Turned limits.most first c old.waits old.items.items (Ready (turns.Item item)) a r → IsPlaying limits.most first a c r new.waits new.items.items
shows limits first a c r old new item g h =
    playing_at a.broken limits.most first a c r old.waits new.waits (old.items.items ++ item_of item ∷ []) new.items.items g.0 g.1 (goes_yields a.broken limits.most first a c r old.waits old.items.items item (rw g.1 at g.2) h)

-- an item is told: the polls go on, or it was the last that may be shown, or there was no memory for it
pub poll_item : (limits : Limits) (a b c : ConnSeen) (r : Request) (old new : Tally) (item : CallItem) (added : Added) → old.waits < limits.polls → Adds limits (item_of item) old new added → IsCallPlaying limits a b r old.waits old.items.items → PollsBy b.broken (begun_with 256 b) b c (Ready (turns.Item item))
    → PollGives limits a c r new.waits new.items.items (pause_of added)
poll_item limits a b c r old new item adds.More l g i p =
    on_last limits.polls a.stream (Turned limits.most a.stream c old.waits old.items.items (Ready (turns.Item item))) (λ at asked. IsPlaying limits.most a.stream at c asked new.waits new.items.items) a r
    (λ at asked h. shows limits a.stream at c asked old new item g h) (call_turns limits a b c r old.waits old.items.items (Ready (turns.Item item)) l i p)
poll_item limits a b c r old new item adds.Last l g i p =
    on_last limits.polls a.stream (Turned limits.most a.stream c old.waits old.items.items (Ready (turns.Item item))) (λ at asked. StopsBy (bounds limits) a.stream at c asked new.items.items ends.Dropped) a r
    (λ at asked h. drops_shown limits at.broken a.stream at c asked old.waits old.items.items new.items.items item l g.1 g.2 refl h) (call_turns limits a b c r old.waits old.items.items (Ready (turns.Item item)) l i p)
poll_item limits a b c r old new item adds.Starved l g i p =
    on_last limits.polls a.stream (Turned limits.most a.stream c old.waits old.items.items (Ready (turns.Item item))) (λ at asked. StopsBy (bounds limits) a.stream at c asked new.items.items (ends.Err errors.OutOfMemory)) a r
    (λ at asked h. goes_unkept (bounds limits) at.broken a.stream at c asked old.waits old.items.items new.items.items item errors.OutOfMemory l g.1 refl refl h) (call_turns limits a b c r old.waits old.items.items (Ready (turns.Item item)) l i p)

-- what is open wasn't fed to its end
opened_once : (start : Ledger) (r : Request) (said : List FrontendMessage) (hs : List Frame) (items : List CallItem) (ledger : Ledger) (call : Call) → kind_of r ≡ kinds.CopyIn → IsOpen call → CallIs start r said hs items ledger call → again r ≡ 0
opened_once start (requests.CopyIn feed) said hs items ledger (calls.Own reply) k o i =
    let c = i.2 in
    let at = came feed.is_ended (Feeding false) c.own (subst (λ (p : Part). part_after (Opening feed.is_ended) c.own ≡ Some p) o c.so_far) in
    ap (λ (b : Bool). cond b 1 0) (sym at.3)
opened_once start (requests.CopyIn feed) said hs items ledger calls.Idle k o i = absurd o
opened_once start (requests.CopyIn feed) said hs items ledger (calls.Asked asked) k o i = absurd o
opened_once start (requests.CopyIn feed) said hs items ledger (calls.Waiting w) k o i = absurd o
opened_once start (requests.CopyIn feed) said hs items ledger calls.Closing k o i = absurd o
opened_once start _ said hs items ledger call k o i = refl

-- a copy from the client is open
opens : (o : Option ServerFault) (most : ℕ) (first : StreamSeen) (a c : ConnSeen) (r : Request) (waits : ℕ) (shown : List Item) (opened : CopyResponseData) → a.broken ≡ o → PlayBeat o most first a c r waits shown (beats.Opens opened) → IsCopying most first a c r waits shown
opens None most first a c r waits shown opened e h =
    let after = h.5.2 in
    let m = h.3 in
    let in_copy : InCopy first a m r waits h.0 h.5.0 h.5.1 = record {
      went = after.went;
      broken = after.broken;
      call = after.tells.0;
      kind = after.tells.1;
      is_open = after.tells.2;
      asked = after.asked;
      room = after.room;
      waited = after.over.waited (λ w. absurd cc);
      calls = omega (arith, after.over.calls, opened_once a.ledger r h.5.0 (heard h.5.1) h.0 m.ledger m.call after.tells.1 after.tells.2 after.tells.0);
    } in
    (e, (h.0, h.5.0, h.5.1, h.1, h.2, subst (λ (x : ConnSeen). InCopy first a x r waits h.0 h.5.0 h.5.1) (sym h.4) in_copy))
opens (Some fault) most first a c r waits shown opened e h = let x = h.1 in absurd cc

pub poll_opened : (limits : Limits) (a b c : ConnSeen) (r : Request) (waits : ℕ) (shown : List Item) (opened : CopyResponseData) → waits < limits.polls → IsCallPlaying limits a b r waits shown → PollsBy b.broken (begun_with 256 b) b c (Ready (turns.Opened opened)) → PollGives limits a c r waits shown (Some pauses.Opened)
poll_opened limits a b c r waits shown opened l i p =
    on_last limits.polls a.stream (Turned limits.most a.stream c waits shown (Ready (turns.Opened opened))) (λ at asked. IsCopying limits.most a.stream at c asked waits shown) a r
    (λ at asked h. opens at.broken limits.most a.stream at c asked waits shown opened refl h) (call_turns limits a b c r waits shown (Ready (turns.Opened opened)) l i p)

unopened_in : (later : List Request) (polls most : ℕ) (first : StreamSeen) (a b : ConnSeen) (r : Request) (waits : ℕ) (shown : List Item) → (main_kind r ≡ kinds.CopyIn → ⊥) → OfLastIn later polls first (λ at asked. IsCopying most first at b asked waits shown) a r → ⊥
unopened_in [] polls most first a b r waits shown n p = n (copies_main r p.1.5.kind)
unopened_in (next ∷ later) polls most first a b r waits shown n (m, h, rest) =
    unopened_in later polls most first (handed_from (knowing h.learnt m) next) b (asked_from m next) waits shown
    (λ e. described_main r (handed_described polls first a m r h.told h.handed) (sym (handed_main polls first a m r h.told next h.learnt h.handed h.looks) ∙ sym (asked_main (settled m).rule next) ∙ e)) rest

-- what comes before a description is for the same call
starts_main : (a from : ConnSeen) (r asked : Request) → StartsAt a r from asked → main_kind asked ≡ main_kind r
starts_main a from r asked (inl (f, q)) = ap main_kind q
starts_main a from r asked (inr h) = by (named_in r) refl h
  where
    by : (o : Option Request) → named_in r ≡ o → LooksFirst o a from asked → main_kind asked ≡ main_kind r
    by None e h = absurd h
    by (Some told) e (whole, can, (learnt, next, looks, is, f)) =
        ap main_kind is ∙ asked_main a.rule next ∙ looked_main told next (looks_or told next a.learnt learnt looks) ∙ sym (ap main_kind (named_is r told e))

-- what copies nothing from the client opens no copy
pub unopened : (limits : Limits) (old b : ConnSeen) (request : Request) (waits : ℕ) (shown : List Item) → IsUncopied request → Pauses limits (first_conn request old) b (first_exchange request old) waits shown pauses.Opened → ⊥
unopened limits old b request waits shown u (from, asked, starts, on) =
    unopened_in on.0 limits.polls limits.most (first_conn request old).stream from b asked waits shown
    (λ e. other request u (sym (asked_main (left old).rule (begun_as (left old).rule request)) ∙ sym (starts_main (first_conn request old) from (first_exchange request old) asked starts) ∙ e)) on.1
  where
    clears : (b : Bool) (statements : List ℕ) → main_kind (cond b requests.Flush (requests.Clear statements)) ≡ kinds.CopyIn → ⊥
    clears true statements e = cc
    clears false statements e = cc

    goals_other : (goal : Goal) → goal_kind goal ≡ kinds.CopyIn → ⊥
    goals_other (goals.Run how) e = cc
    goals_other goals.Prepare e = cc

    after_other : (after : After) → after_kind after ≡ kinds.CopyIn → ⊥
    after_other (afters.Run bound) e = cc
    after_other (afters.Fill filling) e = cc
    after_other (afters.Prepare prepared) e = cc

    other : (request : Request) → IsUncopied request → main_kind (begun_as (left old).rule request) ≡ kinds.CopyIn → ⊥
    other (requests.CopyIn feed) u e = u
    other (requests.Describe x) u e = goals_other x.goal e
    other (requests.Evict v) u e = after_other v.after e
    other (requests.Look lookup) u e = goals_other lookup.extended.goal e
    other (requests.Run bound) u e = cc
    other (requests.Fill filling) u e = cc
    other (requests.Clear statements) u e = clears (nat_eq (length (left old).rule.cache.entries) 0) statements e
    other _ u e = cc

-- ---- the first poll

pub playing_runs : (limits : Limits) (a b : ConnSeen) (r : Request) (waits : ℕ) (shown : List Item) → IsCallPlaying limits a b r waits shown → runs b.call ≡ true
playing_runs limits a b r waits shown (from, asked, starts, on) = by on.0 from asked on.1
  where
    by : (later : List Request) (at : ConnSeen) (asked : Request) → OfLastIn later limits.polls a.stream (λ at asked. IsPlaying limits.most a.stream at b asked waits shown) at asked → runs b.call ≡ true
    by [] at asked i = playing_one limits.most a.stream at b asked waits shown i
    by (next ∷ later) at asked h = by later (handed_from (knowing h.1.learnt h.0) next) (asked_from h.0 next) h.2

-- a call has begun, and was not polled yet
begun_fed : (r : Request) (change : Change) → IsBegun r → change_fed r change ≡ change
begun_fed (requests.CopyIn feed) change e = ap (λ (b : Bool). cond b changes.Fed change) e
begun_fed _ change e = refl

pub plain_begins : (r : Request) → IsUncopied r → IsBegun r
plain_begins (requests.CopyIn feed) u = absurd u
plain_begins _ u = tt

pub call_starts : (limits : Limits) (c : ConnSeen) (request : Request) → 0 < limits.most → IsWanted request → IsBegun request → IsCallPlaying limits (first_conn request c) (started_call request c) (first_exchange request c) 0 []
call_starts limits c request m w b = (a, first_exchange request c, inl (refl, refl), ([], starts_on a.broken refl))
  where
    a : ConnSeen
    a = first_conn request c

    rule : Rule
    rule = (left c).rule

    changes_first : a.change ≡ change_for (first_exchange request c)
    changes_first = first_changes rule request w

    none : min (0 + 0) (2 ^ 64 - 1) ≡ 0
    none = omega arith

    same : cleaned (idle a) ≡ ended (idle (started_call request c))
    same = ap₂ (λ (k : Rule) (n : ℕ). record (ended (idle (started_call request c))) { rule = k; earlier = n }) (wanted_stays rule request w) none

    begun : a ≡ resolved (started_call request c)
    begun = ap (λ (x : Change). record (resolved (started_call request c)) { change = x }) (begun_fed request (change_of (kind_of request)) b)

    starts_on : (o : Option ServerFault) → a.broken ≡ o → IsPlayingOn o limits.most a.stream a (started_call request c) (first_exchange request c) 0 []
    starts_on None e = ([], [], [], refl, m, subst (λ (x : ConnSeen). InPlay a.stream a x (first_exchange request c) 0 [] [] []) begun (fresh_play a (first_exchange request c) e refl changes_first))
    starts_on (Some fault) e = (e, same, refl, refl, refl, refl)

-- ---- the end

pub plays_call : (limits : Limits) (a c d : ConnSeen) (r : Request) (waits : ℕ) (shown : List Item) (end : End) (out : Outcome) → PollGives limits a c r waits shown (Some (pauses.Ended end)) → d ≡ left c → out ≡ outcome_of d shown end → PlaysCall (bounds limits) a d r out
plays_call limits a c d r waits shown end out g k e =
    on_last limits.polls a.stream (λ at asked. StopsBy (bounds limits) a.stream at c asked shown end) (λ at asked. PlaysOne (bounds limits) a.stream at d asked out) a r (λ at asked h. plays_one (bounds limits) a.stream at c d asked shown end out h k e) g
