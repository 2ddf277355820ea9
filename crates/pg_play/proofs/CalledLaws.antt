-- One exchange of a play: its call, and what the connection makes of its end.
use Rattle.std.proofs.Common.{◌≡◌, ℕ, ◌+◌, ◌-◌, ◌^◌, ◌≤◌, ◌<◌, Bool, false, inl, inr, List, [], ◌∷◌, ◌++◌, length, refl, sym, ap, ◌∙◌, subst, arith, Option, Some, None}
use Rattle.pg_call.specs.declared.calling.Call.TheVariants as states
use Rattle.pg_play.proofs.SettleLaws.{settled_waits, settled_counts}
use Rattle.pg_play.proofs.PlaceLaws.{all_split}
use Rattle.pg_play.proofs.SettleLaws.{left_counts, left_waits}
use Rattle.std.specs.List.{count_by, AllByRecursion}
use Rattle.pg_wire.specs.declared.error.Error.TheVariants as errors
use Rattle.pg_wire.specs.declared.error.ProtocolFault.TheVariants as protocol
use Rattle.pg_wire.specs.declared.error.ServerFault.{ServerFault}
use Rattle.pg_wire.specs.declared.error.ServerFault.TheVariants as faults
use Rattle.pg_wire.specs.Frame.{Frame, backend_tags}
use Rattle.pg_wire.specs.Parts.{heard, is_ready}
use Rattle.pg_wire.specs.Frontend.{FrontendMessage}
use Rattle.pg_wire.specs.Groups.{IsGroup}
use Rattle.pg_wire.specs.Server.{MayHear}
use Rattle.pg_wire.proofs.PartLaws.{heard-append}
use Rattle.pg_wire.proofs.CutLaws.{frame_unique}
use Rattle.pg_stream.specs.Links.{NoneFalls}
use Rattle.pg_stream.specs.Streams.{StreamSeen, Sends}
use Rattle.pg_call.specs.declared.request.Request.{Request}
use Rattle.pg_call.specs.declared.answer.CallItem.{CallItem}
use Rattle.pg_call.specs.Requests.{Group, said_in, spelled}
use Rattle.pg_call.specs.Drains.{after_readys}
use Rattle.pg_conn.specs.Connections.{ConnSeen, idle}
use Rattle.pg_conn.specs.Turns.{ends_request, HasAllRoom}
use Rattle.pg_report.specs.declared.outcome.Item.{Item}
use Rattle.pg_report.specs.declared.outcome.End.{End}
use Rattle.pg_report.specs.declared.outcome.End.TheVariants as ends
use Rattle.pg_report.specs.declared.outcome.Outcome.{Outcome}
use Rattle.pg_script.specs.declared.step.Step.{Step}
use Rattle.pg_play.specs.Shown.{request_of, acts_at_once}
use Rattle.pg_play.specs.Copying.{LeavesCopy}
use Rattle.pg_play.specs.Calls.{EndsOn, Ended, limits_of, broken_after, Counted, asking}
use Rattle.pg_play.specs.Places.{Place, ended, owed, queued_by, main_frames, refuses_copy}
use Rattle.pg_play.specs.Causes.{IsFront, IsUnlawful, HasCause, KeepsFault}
use Rattle.pg_play.specs.Settling.{Settles}
use Rattle.pg_play.specs.WaitPlaces.{WaitPlaces}
use Rattle.pg_play.specs.Plays.{IsNeverUnlawful, Plays_call, Plays_exchange, StandsAt}
use Rattle.pg_play.proofs.PartLaws.{after_more}
use Rattle.pg_play.proofs.StepLaws.{Summary}
use Rattle.pg_exchanges.specs.Expecting.{Widths, BeginsKnowing}
use Rattle.pg_call.specs.Requests.{widths_of}
use Rattle.pg_play.proofs.DueLaws.{kept_own, still_place}
use Rattle.pg_play.proofs.PlaceLaws.{HasSummary, said_is_queued, next_place, stands_next, never_copies, owed_is}
use Rattle.pg_play.proofs.ToldLaws.{main_after, queued_one, queued_step, told_of, CountsOn, numbers_step, counts_on, told_step, at_most_one}
use Rattle.pg_play.proofs.CauseLaws.{cause_step}
use Rattle.pg_play.proofs.LawfulLaws.{lawful_begins}
use Rattle.pg_play.proofs.WaitPlaceLaws.{places_step}

-- ---- a lawful server

-- what any lawful server begins in response to an exchange's own group, behind what was heard
abbrev Knows : Widths → Place → List Group → List Frame → Place → Type 0
Knows widths at own slice next = (group : Group) (front : Frame) → AllByRecursion IsGroup next.groups → own ≡ group ∷ [] → ended next ≡ length at.groups → MayHear (said_in next.groups) (heard next.frames ++ front ∷ []) → BeginsKnowing widths group (main_frames at own slice ++ front ∷ [])

-- At this place these columns are known, where nothing was copied from the client: whatever is heard behind it, any lawful server has begun a response to the next group, and knows them.
abbrev pub KnownAt : Widths → Place → Type 0
KnownAt widths at = (group : Group) (slice : List Frame) (front : Frame) → AllByRecursion IsGroup at.groups → IsGroup group → MayHear (said_in (at.groups ++ group ∷ [])) ((heard at.frames ++ slice) ++ front ∷ []) → count_by is_ready (heard at.frames ++ slice) ≡ length at.groups → BeginsKnowing widths group (after_readys (owed at) slice ++ front ∷ [])

-- no columns are known anywhere
pub known_none : (start : StreamSeen) (at : Place) (a : ConnSeen) → StandsAt start at a → KnownAt [] at
known_none start at a st group slice front gs g l count = (
  lawful_begins at.groups (group ∷ []) group (heard at.frames ++ slice) (after_readys (owed at) slice) front gs g refl l count
      (after_more (heard at.frames) slice (length at.groups) a.ledger.owed st.ledger st.between ∙ ap (λ (n : ℕ). after_readys n slice) (sym (owed_is start at a st))),
  tt,
)

-- what is known at a place is known of the exchange that begins there
pub knows_here : (start : StreamSeen) (at : Place) (a b : ConnSeen) (step : Step) (widths : Widths) (said : List FrontendMessage) (fs : List Frame) (items : List CallItem) (copied : Bool) (end : End) → StandsAt start at a → KnownAt widths at → (s : Summary a.ledger (request_of at.rule.depth step.call) said (heard fs) items b.ledger copied)
    → Knows widths at s.own (heard fs) (next_place at b said s.own fs end)
knows_here start at a b step widths said fs items copied end st known s group front all last in_own l =
    let q = queued_one a.ledger.owed (request_of at.rule.depth step.call) s.own (heard fs) s.queued (ap (λ (g : List Group). length g) last) in
    let parts = all_split IsGroup at.groups s.own all in
    let groups = subst (AllByRecursion IsGroup) last parts.1 in
    let listened = heard-append at.frames fs in
    let main : main_frames at s.own (heard fs) ≡ after_readys (owed at) (heard fs) = main_after start at a (request_of at.rule.depth step.call) s.own (heard fs) st q ∙ ap (λ (n : ℕ). after_readys n (heard fs)) (sym (owed_is start at a st)) in
    let may = subst (λ (g : List Group). MayHear (said_in (at.groups ++ g)) ((heard at.frames ++ heard fs) ++ front ∷ [])) last (subst (λ (h : List Frame). MayHear (said_in (at.groups ++ s.own)) (h ++ front ∷ [])) listened l) in
    subst (λ (h : List Frame). BeginsKnowing widths group (h ++ front ∷ [])) (sym main) (known group (heard fs) front parts.0 groups.0 may (ap (λ (h : List Frame). count_by is_ready h) (sym listened) ∙ in_own))

unlawful_begins : (at next : Place) (widths : Widths) (own : List Group) (slice : List Frame) (tag : ℕ) (front : Frame) → Knows widths at own slice next → IsUnlawful widths at own slice next tag → IsFront next front → AllByRecursion IsGroup next.groups → MayHear (said_in next.groups) (heard next.frames ++ front ∷ []) → ⊥
unlawful_begins at next widths own slice tag front k u f gs l =
    let same = frame_unique backend_tags front u.front f.rest u.is_front.rest f.whole u.is_front.whole (sym f.held ∙ u.is_front.held) in
    u.none (k u.group u.front gs u.last u.in_own (subst (λ (x : Frame). MayHear (said_in next.groups) (heard next.frames ++ x ∷ [])) same.0 l))

pub never_unlawful : (at next : Place) (step : Step) (out : Outcome) (own : List Group) (slice : List Frame) → Knows (widths_of (request_of at.rule.depth step.call)) at own slice next → HasCause at step own slice next out.end → IsNeverUnlawful at out next
never_unlawful at next step out own slice k c tag front gs w e f l =
    elim (subst (λ (z : End). HasCause at step own slice next z) e c) [
      | inl kept ↦ none_kept at.broken (faults.Unlawful tag) w kept
      | inr shown ↦ unlawful_begins at next (widths_of (request_of at.rule.depth step.call)) own slice tag front k shown f gs l
    ]
  where
    none_kept : (o : Option ServerFault) (fault : ServerFault) → o ≡ None → o ≡ Some fault → ⊥
    none_kept None fault x y = absurd cc
    none_kept (Some g) fault x y = absurd cc

-- ---- one exchange

-- replies are owed for the Query and Sync messages that have had none
pub owes_requests : (start : StreamSeen) (at : Place) (c : ConnSeen) → StandsAt start at c → ended at + owed at ≡ count_by ends_request at.said
owes_requests start at c st = omega (arith, st.ledger, st.requests)

-- what an exchange on a broken connection leaves, and answers
pub kept_call : (start : StreamSeen) (old : Counted) (at : Place) (a b : ConnSeen) (r : Request) (said : List FrontendMessage) (own : List Group) (fs : List Frame) (end : End) (fault : ServerFault) → StandsAt start at a → at.broken ≡ Some fault → end ≡ ends.Err (errors.Protocol (protocol.Server fault)) → said ≡ [] → own ≡ [] → fs ≡ [] → idle b ≡ idle (asking r old a)
    → KeepsFault fault at end (next_place at b said own fs end)
kept_call start old at a b r said own fs end fault st w k s o f i = (still_place at b said own fs end (record at.seen { left = b.stream.left; waits = b.stream.waits; moves = b.stream.moves }) seen s o f (still at.broken w) (ap (λ (c : ConnSeen). c.learnt) i ∙ st.learnt), λ other e. same other (sym e ∙ k))
  where
    seen : b.stream ≡ record at.seen { left = b.stream.left; waits = b.stream.waits; moves = b.stream.moves }
    seen = ap (λ (c : ConnSeen). record c.stream { left = b.stream.left; waits = b.stream.waits; moves = b.stream.moves }) i ∙ ap (λ (x : StreamSeen). record x { left = b.stream.left; waits = b.stream.waits; moves = b.stream.moves }) st.seen

    still : (o : Option ServerFault) → o ≡ Some fault → broken_after o end ≡ o
    still None e = absurd cc
    still (Some g) e = refl

    same : (other : ServerFault) → ends.Err (errors.Protocol (protocol.Server other)) ≡ ends.Err (errors.Protocol (protocol.Server fault)) → other ≡ fault
    same other e = cc

-- the call of an exchange, counted behind so many, and where the connection stands behind it
pub record Called (start : StreamSeen) (at : Place) (old : Counted) (m : ConnSeen) (step : Step) (shown : List Item) (end : End) (mid : Place) : Type 0 where
  pub groups : ℕ
  pub heard : ℕ
  pub waits : ℕ
  pub moved : ℕ
  pub one : Plays_call at step (told_of shown end groups heard waits moved) mid
  pub stands : StandsAt start mid m
  pub small : length one.own ≤ 1
  pub lawful : IsNeverUnlawful at (told_of shown end groups heard waits moved) mid
  pub places : WaitPlaces at (told_of shown end groups heard waits moved) mid
  pub counts : NoneFalls at.seen.link mid.seen.link
  pub grew : CountsOn old m (told_of shown end groups heard waits moved)

unfoldable pub called_exchange : (start first : StreamSeen) (old : Counted) (at : Place) (a b : ConnSeen) (step : Step) (shown : List Item) (end : End) (said : List FrontendMessage) (fs : List Frame) → StandsAt start at a → acts_at_once step.call ≡ false → old.groups ≤ 2 ^ 64 - 1 → step.polls < 2 ^ 32 → first.waits ≡ 0
    → Ended (limits_of step) first (asking (request_of at.rule.depth step.call) old a) b (request_of at.rule.depth step.call) shown end said fs → b.call ≡ states.Idle → HasAllRoom (asking (request_of at.rule.depth step.call) old a) → (found : HasSummary a.ledger (request_of at.rule.depth step.call) said (heard fs) b.ledger end shown)
    → KnownAt (widths_of (request_of at.rule.depth step.call)) at → Called start at old b step shown end (next_place at b said found.1.own fs end)
called_exchange start first old at a b step shown end said fs st later fits p z e idles space found known =
    let r = request_of at.rule.depth step.call in
    let begun = asking r old a in
    let s = found.1 in
    let went = e.went in
    let told : Outcome = told_of shown end (length s.own) (length (heard fs)) (went.tallies.write_waits + went.tallies.read_waits) went.tallies.moved in
    let at_place = subst (λ (o : Option ServerFault). EndsOn o (limits_of step) first begun b r said (heard fs) shown end) st.broken e.ends in
    let cause = cause_step at.broken start first old at a b step said fs shown end found.0 st refl at_place s in
    let grew = counts_on start old at a b at.rule.depth step.call said fs shown end found.0 st fits went s in
    let stands = stands_next start at a b at.rule.depth step.call said fs found.0 end st s (record { counts = went.flows.counts; secured = went.flows.secured; sent = went.flows.sent; read = went.flows.read }) e.broken idles went.started.2 (e.room space)
    (never_copies a.broken (limits_of step) first begun b r said (heard fs) shown end e.ends) in
    record {
      groups = length s.own;
      heard = length (heard fs);
      waits = went.tallies.write_waits + went.tallies.read_waits;
      moved = went.tallies.moved;
      one = record {
        own = s.own;
        slice = heard fs;
        queued = queued_step a.broken (limits_of step) start first old at a b step told said fs shown found.0 st e.ends s went.learns;
        sends = subst (λ (x : StreamSeen). Sends x b.stream (spelled (queued_by at s.own (heard fs) end))) st.seen
            (subst (λ (m : List FrontendMessage). Sends a.stream b.stream (spelled m)) (said_is_queued start at a r said (heard fs) found.0 b.ledger end st s) went.flows.sent);
        told = told_step a.broken (limits_of step) start first old at a b step told said fs found.0 st e.ends s found.2;
        numbers = numbers_step start old at a b at.rule.depth step.call said fs shown end s.own st went;
        cause = cause;
        at_once = λ now. let x = sym later ∙ now in absurd cc;
        kept = λ fault w.
            let h = subst (λ (o : Option ServerFault). EndsOn o (limits_of step) first begun b r said (heard fs) shown end) (st.broken ∙ w) e.ends in
            let own = kept_own a b r said (heard fs) found.0 (refuses_copy end) s h.2 (ap (λ (c : ConnSeen). c.ledger.owed) h.4) in
            kept_call start old at a b r said s.own fs end fault st w h.0 h.1 own (e.kept fault (st.broken ∙ w)) h.4;
      };
      stands = stands;
      small = at_most_one a.ledger.owed r s.own (heard fs) s.queued;
      lawful = never_unlawful at (next_place at b said s.own fs end) step told s.own (heard fs) (knows_here start at a b step (widths_of r) said fs found.0 (refuses_copy end) end st known s) cause;
      places = places_step start first old at a b r step.polls told said s.own fs st z p grew.waits e.few went.waits;
      counts = subst (λ (x : StreamSeen). NoneFalls x.link b.stream.link) st.seen went.flows.counts;
      grew = grew;
    }

-- an exchange whose call stands behind it, once the connection has settled its end
unfoldable pub exchanged : (start : StreamSeen) (at mid left next : Place) (d : ConnSeen) (step : Step) (told out : Outcome) (one : Plays_call at step told mid) → LeavesCopy step.call one.own told.end mid left → IsNeverUnlawful at told mid → WaitPlaces at told mid → NoneFalls at.seen.link mid.seen.link → Settles at step told out one.own one.told.response left next → StandsAt start next d → Plays_exchange at step out next
exchanged start at mid left next d step told out one leaves lawful waits counts s stands = record {
  told = told;
  ended_at = mid;
  call = one;
  left_at = left;
  leaves = leaves;
  settles = s;
  waits = settled_waits at step told out one.own left next s (left_waits at told step.call one.own told.end mid left leaves waits);
  counts = settled_counts at step told out one.own left next at.seen.link s (left_counts step.call one.own told.end mid left at.seen.link leaves counts);
  lawful = lawful;
  ledger = owes_requests start next d stands;
}
