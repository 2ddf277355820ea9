-- Steps about advisory locks: releases without waiting, what is held behind a step, and the calls of a step one behind another.
use Rattle.std.proofs.Common.{◌≡◌, inl, inr, ℕ, ◌+◌, ◌-◌, ◌^◌, ◌<◌, ◌≤◌, Bool, true, false, cond, nat_eq, ltb, ne_eqb, List, [], ◌∷◌, ◌++◌, take, drop, Option, Some, None, refl, sym, ap, ◌∙◌, subst, arith, append-nil}
use Rattle.std.specs.Prelude.{leb}
use Rattle.std.proofs.lemmas.Bool.{ltb-true}
use Rattle.pg_wire.proofs.Tests.{both_true}
use Rattle.pg_stream.specs.Links.{LinkSeen}
use Rattle.pg_stream.specs.Streams.{StreamSeen}
use Rattle.pg_request.specs.declared.progress.CacheStep.TheVariants as cache
use Rattle.pg_call.specs.declared.request.Request.{Request}
use Rattle.pg_call.specs.Requests.{spelled}
use Rattle.pg_conn.specs.Connections.{ConnOf, ConnSeen, begins_copy, cleaned, counted_anew, ended, ends_copy, has_room_for, idle, left, queued_group, rolled_back, runs, seen_by, unfed, with_depth, with_group, with_spare, rollback}
use Rattle.pg_conn.specs.Holding.{IsRelease, held_fewer, held_more, let_go, release, took_held}
use Rattle.pg_conn.specs.Turns.{HasAllRoom, first_exchange, kept_for, level_of}
use Rattle.pg_conn.specs.Looking.{named_in}
use Rattle.pg_conn.proofs.CleanupLaws.{has_room, held_cleaned, held_queued, held_unfed}
use Rattle.pg_conn.proofs.HoldingLaws.{all_held, all_took_held, release_short}
use Rattle.pg_locks.specs.declared.key.PgAdvisoryLockKey.{PgAdvisoryLockKey}
use Rattle.pg_locks.specs.Keys.{with_key}
use Rattle.pg_locks.specs.Locks.{lock_statement}
use Rattle.pg_request.specs.Queries.{QueryText}
use Rattle.pg_report.specs.declared.outcome.Answer.TheVariants.{Unit as AnswersUnit}
use Rattle.pg_report.specs.declared.outcome.End.{End}
use Rattle.pg_report.specs.declared.outcome.End.TheVariants as ends
use Rattle.pg_report.specs.declared.outcome.Outcome.{Outcome}
use Rattle.pg_script.specs.declared.step.Call.{Call}
use Rattle.pg_script.specs.declared.step.Call.TheVariants as calls
use Rattle.pg_script.specs.declared.step.Chain.{Chain}
use Rattle.pg_script.specs.declared.step.Step.{Step}
use Rattle.std.specs.List.{AllByRecursion}
use Rattle.pg_script.specs.declared.step.Fed.{Fed}
use Rattle.pg_script.specs.declared.step.Parting.{Parting}
use Rattle.pg_script.specs.declared.step.Parting.TheVariants as partings
use Rattle.pg_play.specs.Shown.{acts_at_once, asked_of, is_release}
use Rattle.pg_play.specs.Calls.{Bounds, failed_by, parted, first_conn, IsUnmade, LooksFirst, StartsAt, OfLastIn, PlaysOne, PlaysPolled, PlaysStep, asked_from, behind_end, copy_behind, handed_from, knowing, rolled_outcome, untouched}
use Rattle.pg_play.specs.Chained.{IsChainedAs}
use Rattle.pg_play.specs.Chains.{IsCopied, IsCopiedAs, preparing}
use Rattle.pg_script.specs.declared.step.Copying.{Copying}
use Rattle.pg_play.specs.Locks.{GivesUp, Guards, IsAsked, IsFirstAt, IsLocked, asking, end_locked, is_due, is_had, is_open, lock_at, locking, releasing, told_flag, told_locked, told_released}
use Rattle.pg_play.specs.Places.{Place, is_fine, owed}
use Rattle.pg_play.specs.Settling.{release_at, rule_after}
use Rattle.pg_play.specs.Plays.{KeepsRoom, PlaysAs, PlaysInOrder, StandsAt}
use Rattle.pg_conn.proofs.ViewLaws.{seen_left}
use Rattle.pg_play.proofs.ChainLaws.{unmade_alone}
use Rattle.pg_play.proofs.CopyLaws.{leaves_none, fails_nothing}
use Rattle.pg_play.proofs.PlaceLaws.{owed_is}
use Rattle.pg_play.proofs.SettledLaws.{SettlesTo, acts_ask_none, acts_tell, and_false, no_group, one_group, stands_anew, stands_group, text_conn, text_place}

-- ---- a release without waiting

not_none : (n : ℕ) → 0 < n → nat_eq n 0 ≡ false
not_none n l = ne_eqb n 0 (λ z. absurd (omega (arith, z, l)))

-- the release is queued where one reply more can be counted
takes : (a : ConnSeen) (text : List ℕ) → left a ≡ a → 0 < a.held → took_held (Some text) a ≡ queued_group (spelled (release text)) (held_fewer (ended (counted_anew a)))
takes a text idles some =
    ap (λ (b : Bool). cond b a (let_go (Some text) (ended (counted_anew (left a))))) (not_none a.held some)
    ∙ ap (λ (x : ConnSeen). let_go (Some text) (ended (counted_anew x))) idles
    ∙ ap (λ (b : Bool). cond b (ended (counted_anew a)) (queued_group (spelled (release text)) (held_fewer (ended (counted_anew a))))) (not_none a.held some)

stands_fewer : (start : StreamSeen) (at : Place) (a : ConnSeen) → StandsAt start at a → StandsAt start (record at { seen = record at.seen { waits = 0; moves = 0 } }) (held_fewer (ended (counted_anew a)))
stands_fewer start at a st =
    let s = stands_anew start at a st in
    let room = s.room in
    record {
      flows = s.flows;
      ledger = s.ledger;
      failed = s.failed;
      broken = s.broken;
      seen = s.seen;
      rule = s.rule;
      learnt = s.learnt;
      room = omega (arith, room);
      idle = s.idle;
      sayable = s.sayable;
      are_groups = s.are_groups;
      between = s.between;
      plain = s.plain;
      requests = s.requests;
    }

-- what is known of the session stays
release_knows : (at : Place) (a : ConnSeen) (step : Step) (text : List ℕ) → a.rule ≡ at.rule → step.call ≡ calls.Release text → a.rule ≡ rule_after at.rule step.call [] None (ends.Ok AnswersUnit)
release_knows at a step text same c = same ∙ ap (λ (call : Call). rule_after at.rule call [] None (ends.Ok AnswersUnit)) (sym c)

releases_none : (start : StreamSeen) (at : Place) (a : ConnSeen) (step : Step) (text : List ℕ) → StandsAt start at a → step.call ≡ calls.Release text → [] ≡ release_at text (owed at)
    → SettlesTo start at step (untouched (ends.Ok AnswersUnit)) [] [] None at (ended (counted_anew a)) (held_fewer (ended (counted_anew a)))
releases_none start at a step text st c none = record {
  left = at;
  leaves = leaves_none step.call [] (ends.Ok AnswersUnit) at (fails_nothing step.call (ends.Ok AnswersUnit)).0 (fails_nothing step.call (ends.Ok AnswersUnit)).1;
  next = record at { seen = record at.seen { waits = 0; moves = 0 } };
  out = untouched (ends.Ok AnswersUnit);
  settles = record {
    cleanup = [];
    cleans = rw c none;
    asks = None;
    looks = acts_ask_none step.call at.learnt (ap acts_at_once c);
    rule = sym st.rule ∙ release_knows at a step text st.rule c;
    said = sym (append-nil at.said);
    groups = sym (append-nil at.groups);
    seen = ap (λ (u : List ℕ). record at.seen { unsent = u; waits = 0; moves = 0 }) (sym (append-nil at.seen.unsent));
    frames = refl;
    failed = refl;
    broken = refl;
    unfailed = refl;
    outcome = refl;
    cache = acts_tell at.rule.depth step.call (ap acts_at_once c);
    counted = omega arith;
  };
  asked = refl;
  stands = stands_fewer start at a st;
  groups = omega arith;
  others = (refl, refl, refl, refl, refl);
}

releases_one : (start : StreamSeen) (at : Place) (a : ConnSeen) (step : Step) (text : List ℕ) → StandsAt start at a → step.call ≡ calls.Release text → IsRelease text → has_room_for (spelled (release text)) (held_fewer (ended (counted_anew a))) ≡ true
    → HasAllRoom (text_conn (held_fewer (ended (counted_anew a))) text a.rule cache.Same) → release text ∷ [] ≡ release_at text (owed at)
    → SettlesTo start at step (untouched (ends.Ok AnswersUnit)) [] [] None at (ended (counted_anew a)) (text_conn (held_fewer (ended (counted_anew a))) text a.rule cache.Same)
releases_one start at a step text st c lawful r room some =
    let m : ConnSeen = held_fewer (ended (counted_anew a)) in
    let d = text_conn m text a.rule cache.Same in
    let mid : Place = record at { seen = record at.seen { waits = 0; moves = 0 } } in
    record {
      left = at;
      leaves = leaves_none step.call [] (ends.Ok AnswersUnit) at (fails_nothing step.call (ends.Ok AnswersUnit)).0 (fails_nothing step.call (ends.Ok AnswersUnit)).1;
      next = text_place mid d text a.rule;
      out = record (untouched (ends.Ok AnswersUnit)) { groups = 1 };
      settles = record {
        cleanup = release text ∷ [];
        cleans = rw c some;
        asks = None;
        looks = acts_ask_none step.call at.learnt (ap acts_at_once c);
        rule = release_knows at a step text st.rule c;
        said = refl;
        groups = refl;
        seen = ap (λ (x : StreamSeen). record x { unsent = x.unsent ++ spelled (release text); spare = d.stream.spare; waits = 0; moves = 0 }) st.seen;
        frames = refl;
        failed = refl;
        broken = refl;
        unfailed = refl;
        outcome = refl;
        cache = acts_tell at.rule.depth step.call (ap acts_at_once c);
        counted = omega arith;
      };
      asked = refl;
      stands = stands_group start mid m text a.rule cache.Same (stands_fewer start at a st) lawful.1 r room;
      groups = omega arith;
      others = (refl, refl, refl, refl, refl);
    }

pub settles_release : (start : StreamSeen) (at : Place) (a b : ConnSeen) (step : Step) (text : List ℕ) → StandsAt start at a → step.call ≡ calls.Release text → IsRelease text → 0 < a.held → b ≡ took_held (Some text) a
    → SettlesTo start at step (untouched (ends.Ok AnswersUnit)) [] [] None at (ended (counted_anew a)) b
settles_release start at a b step text st c lawful some is = subst (λ (x : ConnSeen). SettlesTo start at step (untouched (ends.Ok AnswersUnit)) [] [] None at (ended (counted_anew a)) x) (sym (is ∙ took)) (by (ltb a.ledger.owed (2 ^ 64 - 1)) refl)
  where
    frame : List ℕ
    frame = spelled (release text)

    m : ConnSeen
    m = held_fewer (ended (counted_anew a))

    took : took_held (Some text) a ≡ queued_group frame m
    took = takes a text (rw st.idle refl) some

    owes : ltb (owed at) (2 ^ 64 - 1) ≡ ltb a.ledger.owed (2 ^ 64 - 1)
    owes = ap (λ (o : ℕ). ltb o (2 ^ 64 - 1)) (owed_is start at a st)

    room : HasAllRoom (queued_group frame m)
    room = subst (λ (x : ConnSeen). HasAllRoom x) took (all_took_held (Some text) a lawful st.room)

    by : (q : Bool) → ltb a.ledger.owed (2 ^ 64 - 1) ≡ q → SettlesTo start at step (untouched (ends.Ok AnswersUnit)) [] [] None at (ended (counted_anew a)) (queued_group frame m)
    by true q =
        let short = release_short text lawful.0 in
        let space = st.room in
        let r = has_room frame m (omega (arith, short, space, some)) (ltb-true _ _ q) in
        let same : queued_group frame m ≡ text_conn m text a.rule cache.Same = one_group frame m r in
        subst (λ (x : ConnSeen). SettlesTo start at step (untouched (ends.Ok AnswersUnit)) [] [] None at (ended (counted_anew a)) x) (sym same)
        (releases_one start at a step text st c lawful r (subst (λ (x : ConnSeen). HasAllRoom x) same room) (ap (λ (b : Bool). cond b (release text ∷ []) []) (sym (owes ∙ q))))
    by false q =
        let none : has_room_for frame m ≡ false = rw q (and_false _) in
        subst (λ (x : ConnSeen). SettlesTo start at step (untouched (ends.Ok AnswersUnit)) [] [] None at (ended (counted_anew a)) x) (sym (no_group frame m none))
        (releases_none start at a step text st c (ap (λ (b : Bool). cond b (release text ∷ []) []) (sym (owes ∙ q))))

-- ---- what is seen of it

seen_let_go : {A : Type 0} (seen : A → LinkSeen) (text : List ℕ) (c : ConnOf A) → seen_by seen (let_go (Some text) (ended (counted_anew c))) ≡ let_go (Some text) (ended (counted_anew (seen_by seen c)))
seen_let_go {A} seen text c = by (nat_eq c.held 0) (has_room_for (spelled (release text)) (held_fewer (ended (counted_anew c))))
  where
    by : (z h : Bool) → seen_by seen (cond z (ended (counted_anew c)) (cond h (with_group (spelled (release text)) (held_fewer (ended (counted_anew c)))) (held_fewer (ended (counted_anew c)))))
        ≡ cond z (ended (counted_anew (seen_by seen c))) (cond h (with_group (spelled (release text)) (held_fewer (ended (counted_anew (seen_by seen c))))) (held_fewer (ended (counted_anew (seen_by seen c)))))
    by true h = refl
    by false true = refl
    by false false = refl

pub seen_took : {A : Type 0} (seen : A → LinkSeen) (text : List ℕ) (c : ConnOf A) → seen_by seen (took_held (Some text) c) ≡ took_held (Some text) (seen_by seen c)
seen_took {A} seen text c = by (nat_eq c.held 0)
  where
    gone : seen_by seen (let_go (Some text) (ended (counted_anew (left c)))) ≡ let_go (Some text) (ended (counted_anew (left (seen_by seen c))))
    gone = seen_let_go seen text (left c) ∙ ap (λ (x : ConnSeen). let_go (Some text) (ended (counted_anew x))) (seen_left seen c)

    by : (z : Bool) → seen_by seen (cond z c (let_go (Some text) (ended (counted_anew (left c))))) ≡ cond z (seen_by seen c) (let_go (Some text) (ended (counted_anew (left (seen_by seen c)))))
    by true = refl
    by false = gone

-- ---- room that is kept

-- for one guard more, or for none
pub keeps_one : {A : Type 0} (seen : A → LinkSeen) (a b : ConnOf A) → b ≡ held_more (with_spare b.stream.spare a) → kept_for a + level_of a.change a.groups + 192 ≤ b.stream.spare → KeepsRoom (seen_by seen a) (seen_by seen b)
keeps_one seen a b e room =
    let is : seen_by seen b ≡ held_more (with_spare b.stream.spare (seen_by seen a)) = ap (seen_by seen) e in
    (is ∙ ap (λ (n : ℕ). record (with_spare b.stream.spare (seen_by seen a)) { held = n }) (sym (ap (λ (c : ConnSeen). c.held) is)), λ r. subst (λ (c : ConnSeen). HasAllRoom c) (sym is) (all_held (seen_by seen a) b.stream.spare room))

pub keeps_none : {A : Type 0} (seen : A → LinkSeen) (a b : ConnOf A) → b ≡ with_spare b.stream.spare a → a.stream.spare ≤ b.stream.spare → KeepsRoom (seen_by seen a) (seen_by seen b)
keeps_none seen a b e room =
    let is : seen_by seen b ≡ with_spare b.stream.spare (seen_by seen a) = ap (seen_by seen) e in
    (is ∙ ap (λ (n : ℕ). record (with_spare b.stream.spare (seen_by seen a)) { held = n }) (sym (ap (λ (c : ConnSeen). c.held) is)), λ r. subst (λ (c : ConnSeen). HasAllRoom c) (sym is) (omega (arith, r, room)))

pub keeps_same : (a : ConnSeen) → KeepsRoom a a
keeps_same a = (refl, λ r. r)

pub keeps_then : (a b c : ConnSeen) → KeepsRoom a b → KeepsRoom b c → KeepsRoom a c
keeps_then a b c k l = (l.0 ∙ ap (λ (x : ConnSeen). record (with_spare c.stream.spare x) { held = c.held }) k.0, λ r. l.1 (k.1 r))

-- ---- how many locks are held behind a step

held_left : (c : ConnSeen) → (left c).held ≡ c.held
held_left c = by (runs c.call)
  where
    by : (b : Bool) → (cond b (idle (cleaned (unfed false c))) c).held ≡ c.held
    by true = held_cleaned (unfed false c) ∙ held_unfed false c
    by false = refl

held_parted : (parting : Parting) (m : ConnSeen) → (parted parting m).held ≡ m.held
held_parted partings.None m = held_unfed false m
held_parted partings.Left m = held_unfed false m
held_parted partings.Unsaid m = held_unfed false m
held_parted (partings.Failed message) m = by (begins_copy m.change)
  where
    by : (b : Bool) → (cond b (failed_by message m) (unfed false m)).held ≡ m.held
    by true = refl
    by false = held_unfed false m

held_behind : (parting : Parting) (end : End) (m : ConnSeen) → (behind_end end (copy_behind parting end m)).held ≡ m.held
held_behind parting (ends.Ok answer) m = refl
held_behind parting (ends.Err e) m = held_cleaned (unfed (ends_copy e) m) ∙ held_unfed (ends_copy e) m
held_behind parting ends.Dropped m = held_cleaned (parted parting m) ∙ held_parted parting m

call_holds : (later : List Request) (polls : ℕ) (limits : Bounds) (first : StreamSeen) (a b : ConnSeen) (r : Request) (out : Outcome) → OfLastIn later polls first (λ at asked. PlaysOne limits first at b asked out) a r → b.held ≡ a.held
call_holds [] polls limits first a b r out (m, (said, fs, e, last), over, is, tells) = ap (λ (x : ConnSeen). x.held) is ∙ held_behind limits.parting out.end m ∙ ap (λ s. s.held) e.went.started.3
call_holds (next ∷ later) polls limits first a b r out (m, hands, behind) =
    call_holds later polls limits first (handed_from (knowing hands.learnt m) next) b (asked_from m next) out behind ∙ ap (λ s. s.held) hands.handed.went.started.3

starts_held : (a from : ConnSeen) (r asked : Request) → StartsAt a r from asked → from.held ≡ a.held
starts_held a from r asked (inl (f, q)) = ap (λ (x : ConnSeen). x.held) f
starts_held a from r asked (inr h) = by (named_in r) h
  where
    by : (o : Option Request) → LooksFirst o a from asked → from.held ≡ a.held
    by None h = absurd h
    by (Some told) (whole, can, (learnt, next, looks, is, f)) = ap (λ (y : ConnSeen). y.held) f

polled_holds : (a b : ConnSeen) (step : Step) (out : Outcome) → PlaysPolled a b step out → b.held ≡ a.held
polled_holds a b step out (inl (u, is, k)) = ap (λ (x : ConnSeen). x.held) is
polled_holds a b step out (inr (n, p, inl (opens, is, k))) = ap (λ (x : ConnSeen). x.held) is
polled_holds a b step out (inr (n, p, inr (opens, inl (is, k, h)))) = ap (λ (x : ConnSeen). x.held) is
polled_holds a b step out (inr (n, p, inr (opens, inr (from, asked, starts, (later, played))))) =
    call_holds later step.polls _ _ from b asked out played ∙ starts_held (first_conn (asked_of a.rule.depth step.call) a) from (first_exchange (asked_of a.rule.depth step.call) a) asked starts ∙ held_left a

held_rolled : (a : ConnSeen) → (rolled_back a).held ≡ a.held
held_rolled a = by (nat_eq (left a).rule.depth 0) ∙ held_left a
  where
    c : ConnSeen
    c = ended (counted_anew (left a))

    by : (z : Bool) → (cond z c (queued_group (spelled (rollback ((left a).rule.depth - 1))) (record c { rule = with_depth ((left a).rule.depth - 1) c.rule }))).held ≡ (left a).held
    by true = refl
    by false = held_queued (spelled (rollback ((left a).rule.depth - 1))) (record c { rule = with_depth ((left a).rule.depth - 1) c.rule })

-- a step that releases none leaves as many
pub step_holds : (a b : ConnSeen) (step : Step) (out : Outcome) → is_release step.call ≡ false → PlaysStep a b step out → b.held ≡ a.held
step_holds a b step out n (inl (inl (c, is, k))) = ap (λ (x : ConnSeen). x.held) is ∙ held_rolled a
step_holds a b step out n (inl (inr r)) = let x = sym n ∙ ap is_release r.asks in absurd cc
step_holds a b step out n (inr (later, p)) = polled_holds a b step out p

-- calls of which none does
ReleaseNone : List Step → Type 0
ReleaseNone steps = AllByRecursion (λ (s : Step). is_release s.call ≡ false) steps

all_hold : (a b : ConnSeen) (steps : List Step) (outs : List Outcome) → ReleaseNone steps → PlaysInOrder a b steps outs → b.held ≡ a.held
unfolding ReleaseNone
all_hold a b [] [] n run = ap (λ (c : ConnSeen). c.held) run
all_hold a b (step ∷ steps) (out ∷ outs) n (m, played, counts, others) = all_hold m b steps outs n.1 others ∙ step_holds a m step out n.0 played
all_hold a b [] (out ∷ outs) n run = absurd run
all_hold a b (step ∷ steps) [] n run = absurd run

-- a copy and the flushes behind it release none
copies_on : (parting : Parting) (step : Step) (copying : Copying) (fed : Fed) (out : Outcome) (parts : List Step) (told : List Outcome) → IsCopiedAs parting step copying fed out parts told → ReleaseNone parts
unfolding ReleaseNone
copies_on partings.None step copying fed out parts told is = subst ReleaseNone (sym is.0) (refl, tt)
copies_on partings.Left step copying fed out parts told is = subst ReleaseNone (sym is.1) (refl, tt)
copies_on partings.Unsaid step copying fed out parts told is = subst ReleaseNone (sym is.3) (refl, tt)
copies_on (partings.Failed message) step copying fed out parts told (inl is) = subst ReleaseNone (sym is.2) (refl, (refl, tt))
copies_on (partings.Failed message) step copying fed out parts told (inr is) = subst ReleaseNone (sym is.3) (refl, (refl, (refl, tt)))

pub copied_holds : (a b : ConnSeen) (step : Step) (copying : Copying) (out : Outcome) → PlaysAs a b (IsCopied step copying out) → b.held ≡ a.held
copied_holds a b step copying out (parts, told, (fed, came, is), run) = all_hold a b parts told (copies_on fed.parting step copying fed out parts told is) run

-- one fewer is held behind a release
took_fewer : (text : List ℕ) (c : ConnSeen) → 0 < c.held → (left c).held ≡ c.held → (took_held (Some text) c).held ≡ c.held - 1
took_fewer text c some same =
    ap (λ (b : Bool). (cond b c (let_go (Some text) (ended (counted_anew (left c))))).held) (not_none c.held some)
    ∙ ap (λ (b : Bool). (cond b (ended (counted_anew (left c))) (queued_group (spelled (release text)) (held_fewer (ended (counted_anew (left c)))))).held) (ap (λ (n : ℕ). nat_eq n 0) same ∙ not_none c.held some)
    ∙ by (has_room_for (spelled (release text)) (held_fewer (ended (counted_anew (left c))))) ∙ ap (λ (n : ℕ). n - 1) same
  where
    by : (h : Bool) → (cond h (with_group (spelled (release text)) (held_fewer (ended (counted_anew (left c))))) (held_fewer (ended (counted_anew (left c))))).held ≡ (left c).held - 1
    by true = refl
    by false = refl

pub released_fewer : {A : Type 0} (seen : A → LinkSeen) (text : List ℕ) (a b : ConnOf A) → 0 < a.held → b ≡ took_held (Some text) a → b.held ≡ a.held - 1
released_fewer seen text a b some e = ap (λ (c : ConnOf _). (seen_by seen c).held) e ∙ ap (λ (c : ConnSeen). c.held) (seen_took seen text a) ∙ took_fewer text (seen_by seen a) some (held_left (seen_by seen a))

pub releases_by : {A : Type 0} (seen : A → LinkSeen) (text : List ℕ) (a b : ConnOf A) (step : Step) (out : Outcome) → step.call ≡ calls.Release text → IsRelease text → 0 < a.held → b ≡ took_held (Some text) a → out ≡ rolled_outcome (seen_by seen b) → PlaysStep (seen_by seen a) (seen_by seen b) step out
releases_by seen text a b step out c lawful some e k = inl (inr (record { text = text; asks = c; lawful = lawful; held = some; behind = ap (seen_by seen) e ∙ seen_took seen text a; tells = k }))

-- ---- the guards of a key

pub gives_none : (a : ConnSeen) (step : Step) (key : PgAdvisoryLockKey) (guards : Guards) (out : Outcome) → IsFirstAt key guards None → out ≡ untouched (ends.Ok AnswersUnit) → PlaysAs a a (GivesUp step key guards guards out)
gives_none a step key guards out n k = ([], [], inl (n, refl, refl, refl, k), refl)

pub gives_first : (a b : ConnSeen) (step : Step) (key : PgAdvisoryLockKey) (guards : Guards) (i : ℕ) (out : Outcome) → IsFirstAt key guards (Some i) → PlaysStep a b (releasing step key) out → a.rule.depth < 2 ^ 64 → PlaysAs a b (GivesUp step key guards (take i guards ++ drop (i + 1) guards) out)
gives_first a b step key guards i out f run d = (releasing step key ∷ [], out ∷ [], inr (take i guards, drop (i + 1) guards, f.1, f.2, refl, refl, refl), (b, run, d, refl))

-- ---- the calls of a step about a lock

abbrev Asks : ConnSeen → ConnSeen → Step → List ℕ → PgAdvisoryLockKey → Outcome → Type 0
Asks a b step text key out = PlaysAs a b (IsAsked step text key out)

abbrev Locks : ConnSeen → ConnSeen → Step → PgAdvisoryLockKey → Outcome → Type 0
Locks a b step key out = PlaysAs a b (IsLocked step key out)

-- for want of memory nothing is played
unmade_asking : (a : ConnSeen) (step : Step) (text : List ℕ) (key : PgAdvisoryLockKey) (out : Outcome) → IsUnmade step out → PlaysStep a a (asking step text key) out
unmade_asking a step text key out (inl (unpolled, is)) = inr (refl, inl (unpolled, refl, is))
unmade_asking a step text key out (inr (polled, few, is)) = inr (refl, inr (polled, few, inr ((λ b. let e : false ≡ true = b.0 in cc), inl (refl, is, refl))))

flag_unmade : (step : Step) (out : Outcome) → IsUnmade step out → out ≡ told_flag out
flag_unmade step out (inl (unpolled, is)) = rw is refl
flag_unmade step out (inr (polled, few, is)) = rw is refl

fine_unmade : (step : Step) (out : Outcome) → IsUnmade step out → is_fine out.end ≡ false
fine_unmade step out (inl (unpolled, is)) = rw is refl
fine_unmade step out (inr (polled, few, is)) = rw is refl

pub asks_nothing : (a : ConnSeen) (step : Step) (text : List ℕ) (key : PgAdvisoryLockKey) (out : Outcome) → IsUnmade step out → a.rule.depth < 2 ^ 64 → Asks a a step text key out
asks_nothing a step text key out u d = (asking step text key ∷ [], out ∷ [], (out, refl, refl, flag_unmade step out u), (a, unmade_asking a step text key out u, d, refl))

pub asks_one : (a b : ConnSeen) (step : Step) (text : List ℕ) (key : PgAdvisoryLockKey) (asked : Outcome) → PlaysStep a b (asking step text key) asked → a.rule.depth < 2 ^ 64 → Asks a b step text key (told_flag asked)
asks_one a b step text key asked run d = (asking step text key ∷ [], asked ∷ [], (asked, refl, refl, refl), (b, run, d, refl))

-- what is released isn't had
pub due_not_had : (first later : Outcome) → is_due first later ≡ true → is_had (end_locked later.end) ≡ false
due_not_had first later due = by later.end (both_true (is_open later.end) (leb (lock_at first.cache) later.groups) due).0
  where
    by : (end : End) → is_open end ≡ true → is_had (end_locked end) ≡ false
    by (ends.Ok answer) o = absurd cc
    by (ends.Err e) o = refl
    by ends.Dropped o = refl

pub locking_is : (step : Step) (waits : ℕ) (key : PgAdvisoryLockKey) (query : QueryText) → query ≡ with_key (lock_statement key) key → record step { call = calls.Execute query; polls = step.polls - waits } ≡ locking step waits key
locking_is step waits key query e = ap (λ (q : QueryText). record step { call = calls.Execute q; polls = step.polls - waits }) e

pub locks_nothing : (a : ConnSeen) (step : Step) (key : PgAdvisoryLockKey) (out : Outcome) → IsUnmade step out → a.rule.depth < 2 ^ 64 → Locks a a step key out
locks_nothing a step key out u d = (preparing step (lock_statement key) ∷ [], out ∷ [], inl (out, fine_unmade step out u, refl, refl, refl), (a, unmade_alone a step (lock_statement key) out u, d, refl))

-- the statement was not prepared
pub locks_alone : (a b : ConnSeen) (step : Step) (key : PgAdvisoryLockKey) (first : Outcome) → PlaysStep a b (preparing step (lock_statement key)) first → a.rule.depth < 2 ^ 64 → is_fine first.end ≡ false → Locks a b step key first
locks_alone a b step key first run d f = (preparing step (lock_statement key) ∷ [], first ∷ [], inl (first, f, refl, refl, refl), (b, run, d, refl))

-- it was, and ran
pub locks_both : (a m b : ConnSeen) (step : Step) (key : PgAdvisoryLockKey) (first later : Outcome) → PlaysStep a m (preparing step (lock_statement key)) first → a.rule.depth < 2 ^ 64 → is_fine first.end ≡ true → PlaysStep m b (locking step first.waits key) later → m.rule.depth < 2 ^ 64 → is_due first later ≡ false
    → Locks a b step key (told_locked first later)
locks_both a m b step key first later run d f behind e due = (
  preparing step (lock_statement key) ∷ locking step first.waits key ∷ [],
  first ∷ later ∷ [],
  inr (inl (first, later, f, due, refl, refl, refl)),
  (m, run, d, (b, behind, e, refl)),
)

-- and the lock is released
pub locks_released : (a m n b : ConnSeen) (step : Step) (key : PgAdvisoryLockKey) (first later act : Outcome) → PlaysStep a m (preparing step (lock_statement key)) first → a.rule.depth < 2 ^ 64 → is_fine first.end ≡ true → PlaysStep m n (locking step first.waits key) later → m.rule.depth < 2 ^ 64 → is_due first later ≡ true
    → PlaysStep n b (releasing step key) act → n.rule.depth < 2 ^ 64 → Locks a b step key (told_released first later act)
locks_released a m n b step key first later act run d f behind e due acts h = (
  preparing step (lock_statement key) ∷ locking step first.waits key ∷ releasing step key ∷ [],
  first ∷ later ∷ act ∷ [],
  inr (inr (first, later, act, f, due, refl, refl, refl)),
  (m, run, d, (n, behind, e, (b, acts, h, refl))),
)

-- and of the guards behind them
pub with_guards : (a b : ConnSeen) (Are : List Step → List Outcome → Type 0) (after guards : Guards) → after ≡ guards → PlaysAs a b Are → PlaysAs a b (λ calls told. (after ≡ guards) × Are calls told)
with_guards a b Are after guards e (calls, told, are, run) = (calls, told, (e, are), run)

-- a chain as it was found to be
pub chained_by : (a b : ConnSeen) (chain found : Chain) (after guards : Guards) (step : Step) (out : Outcome) → chain ≡ found → PlaysAs a b (IsChainedAs (calls.Chain found) guards after step out) → PlaysAs a b (IsChainedAs (calls.Chain chain) guards after step out)
chained_by a b chain found after guards step out e p = subst (λ (x : Chain). PlaysAs a b (IsChainedAs (calls.Chain x) guards after step out)) (sym e) p
