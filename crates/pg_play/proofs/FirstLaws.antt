-- The first poll of a call, and its end.
use Rattle.std.proofs.Common.{◌≡◌, ◌⊎◌, ℕ, inl, inr, cond, Bool, true, false, List, [], ◌∷◌, length, refl, sym, ap, ◌∙◌, subst, arith, Option, Some, None, not, ◌&&◌, nat_eq, leb, ◌-◌}
use Rattle.pg_columns.specs.declared.column.PgColumn.{PgColumn}
use Rattle.pg_rule.specs.Caches.{entry_at}
use Rattle.pg_rule.specs.declared.cache.Entry.{Entry}
use Rattle.pg_request.specs.Queries.{QueryText, ArgumentsSeen}
use Rattle.pg_call.specs.declared.kind.How.TheVariants as hows
use Rattle.pg_call.specs.declared.kind.Kind.{Kind}
use Rattle.pg_call.specs.declared.kind.Kind.TheVariants as kinds
use Rattle.pg_call.specs.declared.kind.How.{How}
use Rattle.pg_call.specs.declared.after.After.TheVariants as afters
use Rattle.pg_call.specs.declared.after.After.{After}
use Rattle.pg_call.specs.declared.statement.Goal.TheVariants as goals
use Rattle.pg_call.specs.declared.statement.Goal.{Goal}
use Rattle.pg_call.specs.declared.kind.Keeping.TheVariants as keepings
use Rattle.pg_conn.proofs.StateLaws.{runs_on}
use Rattle.pg_conn.proofs.StatementLaws.{asked_main}
use Rattle.pg_conn.specs.Statements.{asked_by, begun_as, held_by, number_for, prepare_by, query_by, run_or_describe, tell_or_describe, unmoved}
use Rattle.pg_rule.specs.declared.rule.Rule.{Rule}
use Rattle.pg_call.specs.declared.kind.Change.TheVariants as changes
use Rattle.pg_call.specs.Items.{shown}
use Rattle.pg_wire.specs.declared.error.ServerFault.{ServerFault}
use Rattle.pg_wire.specs.Frame.{Frame}
use Rattle.pg_wire.specs.Parts.{heard}
use Rattle.pg_wire.specs.Frontend.{FrontendMessage}
use Rattle.pg_stream.specs.Links.{LinkSeen}
use Rattle.pg_stream.specs.Streams.{StreamSeen}
use Rattle.pg_stream.proofs.StreamLemmas.{Tallies-none}
use Rattle.pg_call.specs.declared.request.Request.{Request}
use Rattle.pg_call.specs.declared.request.Request.TheVariants as requests
use Rattle.pg_call.specs.declared.calling.Call.{Call}
use Rattle.pg_call.specs.declared.calling.Call.TheVariants as calls
use Rattle.pg_call.specs.Requests.{copy_fail, spelled, kind_of, change_of, keeping_of, main_kind, goal_kind, after_kind, raw}
use Rattle.pg_call.specs.Calls.{CallIs}
use Rattle.pg_conn.specs.Connections.{ConnSeen, idle, begins_copy, copies, owned, with_copy_fail, ends_copy, unfed, runs, ended, cleaned, left, may_open, has_room_for, with_group, queued_group, rollback, ConnOf, seen_by, rolled, rolled_back, counted_anew, with_depth, resolved, resolved_by}
use Rattle.pg_conn.specs.Turns.{behind}
use Rattle.pg_report.specs.declared.outcome.Item.{Item}
use Rattle.pg_report.specs.declared.outcome.End.{End}
use Rattle.pg_report.specs.declared.outcome.End.TheVariants as ends
use Rattle.pg_report.specs.declared.outcome.Outcome.{Outcome}
use Rattle.pg_script.specs.declared.step.Parting.{Parting}
use Rattle.pg_script.specs.declared.step.Parting.TheVariants as partings
use Rattle.pg_play.specs.Shown.{IsWanted}
use Rattle.pg_startup.proofs.FlowLaws.{Flows-none}
use Rattle.pg_play.proofs.WaitLaws.{waits_none}
use Rattle.pg_play.specs.Calls.{Bounds, failed_by, change_fed, change_for, copy_behind, InPlay, IsPlayingOn, IsPlaying, IsDroppedAs, EndsAtOnce, EndsOn, HasEnded, PlaysOne, outcome_of, StopsBy, behind_end}
use Rattle.pg_conn.proofs.ViewLaws.{seen_left}
use Rattle.pg_conn.proofs.TurnLaws.{cleaned_call, kept}
use Rattle.pg_play.proofs.CallLaws.{waited_none}

-- ---- the first poll

-- what stands as an exchange runs where it did
resolved_runs : (b : ConnSeen) → runs (resolved b).call ≡ true → runs b.call ≡ true
resolved_runs b h = by b.call refl h
  where
    by : (call : Call) → b.call ≡ call → runs (resolved_by call b).call ≡ true → runs call ≡ true
    by (calls.Asked r) e h = refl
    by calls.Idle e h = ap runs (sym e) ∙ h
    by (calls.Waiting w) e h = refl
    by (calls.Own reply) e h = refl
    by calls.Closing e h = refl

pub playing_one : (most : ℕ) (first : StreamSeen) (a b : ConnSeen) (r : Request) (waits : ℕ) (shown : List Item) → IsPlaying most first a b r waits shown → runs b.call ≡ true
playing_one most first a b r waits shown i = by a.broken i
  where
    by : (o : Option ServerFault) → IsPlayingOn o most first a b r waits shown → runs b.call ≡ true
    by None i = resolved_runs b (runs_on a.ledger r i.1 (heard i.2) i.0 (resolved b).ledger (resolved b).call i.5.call)
    by (Some fault) i = i.5

-- an exchange that was not polled yet
pub fresh_play : (a : ConnSeen) (r : Request) → a.broken ≡ None → a.call ≡ calls.Asked r → a.change ≡ change_for r → InPlay a.stream a a r 0 [] [] []
fresh_play a r e k c = record {
  went = record {
    flows = Flows-none a.stream a.stream refl refl refl refl;
    tallies = Tallies-none a.stream a.stream refl refl refl;
    waits = waits_none a.stream;
    groups = (omega arith, omega arith, omega arith);
    heard = (omega arith, omega arith, omega arith);
    started = (refl, refl, refl, refl);
    learns = ([], tt, refl);
  };
  broken = e;
  call = subst (λ (c : Call). CallIs a.ledger r [] [] [] a.ledger c) (sym k) (refl, refl, refl, refl, refl);
  asked = c;
  room = λ h. h;
  waited = waited_none a.stream a.stream refl;
  calls = omega arith;
  unsaid = λ u. (refl, k, refl);
  unflushed = λ f. (refl, k, refl);
}

named_stays : (rule : Rule) (b : Bool) → unmoved (cond b keepings.Stays keepings.Draws) rule ≡ rule
named_stays rule true = refl
named_stays rule false = refl

query_stays : (rule : Rule) (how : How) (query : QueryText) (o : Option ArgumentsSeen) → unmoved (keeping_of (query_by rule how query o (raw how query))) rule ≡ rule
query_stays rule hows.Execute query None = refl
query_stays rule hows.ExecuteMany query None = refl
query_stays rule hows.Fetch query None = refl
query_stays rule hows.FetchMany query None = refl
query_stays rule hows.FetchAll query None = refl
query_stays rule hows.FetchOptional query None = refl
query_stays rule hows.FetchOne query None = refl
query_stays rule how query (Some arguments) = by (entry_at query.sql rule.cache.entries)
  where
    by : (o : Option Entry) → unmoved (keeping_of (run_or_describe rule how query.sql arguments query.persistent o)) rule ≡ rule
    by (Some e) = refl
    by None = named_stays rule (nat_eq (number_for query.persistent rule) 0)

-- what a call asks first opens and closes what the call does
main_changes : (r : Request) → change_of (kind_of r) ≡ change_of (main_kind r)
main_changes (requests.Describe x) = by x.goal
  where
    by : (goal : Goal) → changes.Stays ≡ change_of (goal_kind goal)
    by (goals.Run how) = refl
    by goals.Prepare = refl
main_changes (requests.Evict eviction) = by eviction.after
  where
    by : (after : After) → changes.Stays ≡ change_of (after_kind after)
    by (afters.Run bound) = refl
    by (afters.Fill filling) = refl
    by (afters.Prepare prepared) = refl
main_changes (requests.Look lookup) = by lookup.extended.goal
  where
    by : (goal : Goal) → changes.Stays ≡ change_of (goal_kind goal)
    by (goals.Run how) = refl
    by goals.Prepare = refl
main_changes _ = refl

pub asked_changes : (rule : Rule) (r : Request) → change_of (kind_of (asked_by rule r)) ≡ change_of (main_kind r)
asked_changes rule r = main_changes (asked_by rule r) ∙ ap change_of (asked_main rule r)

pub begun_changes : (rule : Rule) (r : Request) → IsWanted r → change_of (main_kind (begun_as rule r)) ≡ change_of (kind_of r)
begun_changes rule (requests.Describe x) w = absurd w
begun_changes rule (requests.Run bound) w = absurd w
begun_changes rule (requests.Evict eviction) w = absurd w
begun_changes rule (requests.Look lookup) w = absurd w
begun_changes rule (requests.Fill filling) w = absurd w
begun_changes rule (requests.Clear statements) w = by (nat_eq (length rule.cache.entries) 0)
  where
    by : (b : Bool) → change_of (main_kind (cond b requests.Flush (requests.Clear statements))) ≡ changes.Stays
    by true = refl
    by false = refl
begun_changes rule _ w = refl

-- what is no copy from the client is fed nothing
pub not_fed : (r : Request) → (main_kind r ≡ kinds.CopyIn → ⊥) → change_for r ≡ change_of (kind_of r)
not_fed (requests.CopyIn feed) n = absurd (n refl)
not_fed _ n = refl

-- and begins as it was fed
pub first_changes : (rule : Rule) (r : Request) → IsWanted r → change_fed r (change_of (kind_of r)) ≡ change_for (asked_by rule (begun_as rule r))
first_changes rule r w = by r w (asked_main rule (begun_as rule r)) (asked_changes rule (begun_as rule r) ∙ begun_changes rule r w)
  where
    other : (r : Request) (kind : Kind) → main_kind (begun_as rule r) ≡ kind → (kind ≡ kinds.CopyIn → ⊥) → main_kind (asked_by rule (begun_as rule r)) ≡ main_kind (begun_as rule r) → change_of (kind_of (asked_by rule (begun_as rule r))) ≡ change_of (kind_of r) → change_of (kind_of r) ≡ change_for (asked_by rule (begun_as rule r))
    other r kind k n main same = sym (not_fed (asked_by rule (begun_as rule r)) (λ e. n (sym k ∙ sym main ∙ e)) ∙ same)

    clears : (b : Bool) (statements : List ℕ) → main_kind (cond b requests.Flush (requests.Clear statements)) ≡ kinds.CopyIn → ⊥
    clears true statements e = cc
    clears false statements e = cc

    by : (r : Request) → IsWanted r → main_kind (asked_by rule (begun_as rule r)) ≡ main_kind (begun_as rule r) → change_of (kind_of (asked_by rule (begun_as rule r))) ≡ change_of (kind_of r) → change_fed r (change_of (kind_of r)) ≡ change_for (asked_by rule (begun_as rule r))
    by (requests.CopyIn feed) w main same = refl
    by (requests.Describe x) w main same = absurd w
    by (requests.Run bound) w main same = absurd w
    by (requests.Evict eviction) w main same = absurd w
    by (requests.Look lookup) w main same = absurd w
    by (requests.Fill filling) w main same = absurd w
    by (requests.Clear statements) w main same = other (requests.Clear statements) (main_kind (begun_as rule (requests.Clear statements))) refl (clears (nat_eq (length rule.cache.entries) 0) statements) main same
    by (requests.Execute query) w main same = other (requests.Execute query) (kinds.Run hows.Execute) refl (λ e. cc) main same
    by (requests.ExecuteMany query) w main same = other (requests.ExecuteMany query) (kinds.Run hows.ExecuteMany) refl (λ e. cc) main same
    by (requests.Fetch query) w main same = other (requests.Fetch query) (kinds.Run hows.Fetch) refl (λ e. cc) main same
    by (requests.FetchMany query) w main same = other (requests.FetchMany query) (kinds.Run hows.FetchMany) refl (λ e. cc) main same
    by (requests.FetchAll query) w main same = other (requests.FetchAll query) (kinds.Run hows.FetchAll) refl (λ e. cc) main same
    by (requests.FetchOptional query) w main same = other (requests.FetchOptional query) (kinds.Run hows.FetchOptional) refl (λ e. cc) main same
    by (requests.FetchOne query) w main same = other (requests.FetchOne query) (kinds.Run hows.FetchOne) refl (λ e. cc) main same
    by (requests.Begin depth) w main same = refl
    by (requests.BeginWith query) w main same = refl
    by (requests.Commit left) w main same = refl
    by (requests.Rollback left) w main same = refl
    by (requests.Prepare prepared) w main same = other (requests.Prepare prepared) kinds.Prepare refl (λ e. cc) main same
    by requests.Ping w main same = refl
    by requests.Flush w main same = refl
    by requests.Close w main same = refl
    by (requests.CopyOut query) w main same = refl

-- nothing that a step asks is held
pub wanted_held : (rule : Rule) (r : Request) → IsWanted r → held_by rule (begun_as rule r) ≡ rule
wanted_held rule (requests.Describe x) w = absurd w
wanted_held rule (requests.Run bound) w = absurd w
wanted_held rule (requests.Evict eviction) w = absurd w
wanted_held rule (requests.Look lookup) w = absurd w
wanted_held rule (requests.Fill filling) w = absurd w
wanted_held rule (requests.Clear statements) w = by (nat_eq (length rule.cache.entries) 0)
  where
    by : (b : Bool) → held_by rule (cond b requests.Flush (requests.Clear statements)) ≡ rule
    by true = refl
    by false = refl
wanted_held rule _ w = refl

-- nor anything of it, and what was not asked has used nothing
pub wanted_stays : (rule : Rule) (r : Request) → IsWanted r → unmoved (keeping_of (asked_by rule (begun_as rule r))) (held_by rule (begun_as rule r)) ≡ rule
wanted_stays rule (requests.Describe x) w = absurd w
wanted_stays rule (requests.Run bound) w = absurd w
wanted_stays rule (requests.Evict eviction) w = absurd w
wanted_stays rule (requests.Look lookup) w = absurd w
wanted_stays rule (requests.Fill filling) w = absurd w
wanted_stays rule (requests.Prepare prepared) w = ap (λ (o : Option (List PgColumn)). unmoved (keeping_of (prepare_by rule prepared o)) rule) w ∙ by (entry_at prepared.sql rule.cache.entries)
  where
    by : (o : Option Entry) → unmoved (keeping_of (tell_or_describe rule prepared o)) rule ≡ rule
    by (Some e) = refl
    by None = named_stays rule (nat_eq (number_for true rule) 0)
wanted_stays rule (requests.Clear statements) w = by (nat_eq (length rule.cache.entries) 0)
  where
    by : (b : Bool) → unmoved (keeping_of (asked_by rule (cond b requests.Flush (requests.Clear statements)))) (held_by rule (cond b requests.Flush (requests.Clear statements))) ≡ rule
    by true = refl
    by false = refl
wanted_stays rule (requests.Execute query) w = query_stays rule hows.Execute query query.arguments
wanted_stays rule (requests.ExecuteMany query) w = query_stays rule hows.ExecuteMany query query.arguments
wanted_stays rule (requests.Fetch query) w = query_stays rule hows.Fetch query query.arguments
wanted_stays rule (requests.FetchMany query) w = query_stays rule hows.FetchMany query query.arguments
wanted_stays rule (requests.FetchAll query) w = query_stays rule hows.FetchAll query query.arguments
wanted_stays rule (requests.FetchOptional query) w = query_stays rule hows.FetchOptional query query.arguments
wanted_stays rule (requests.FetchOne query) w = query_stays rule hows.FetchOne query query.arguments
wanted_stays rule _ w = refl

-- ---- the end

ends_idle : (o : Option ServerFault) (limits : Bounds) (first : StreamSeen) (a c : ConnSeen) (r : Request) (said : List FrontendMessage) (hs : List Frame) (shown : List Item) (end : End) → EndsOn o limits first a c r said hs shown end → EndsOn o limits first a (idle c) r said hs shown end
ends_idle None limits first a c r said hs shown (ends.Ok told) h = h
ends_idle None limits first a c r said hs shown (ends.Err e) h = h
ends_idle None limits first a c r said hs shown ends.Dropped h = (h.0, h.1, h.2, h.3, by limits.parting h.4, h.5)
  where
    by : (parting : Parting) → IsDroppedAs parting limits first a c h.2.own h.2.reply shown → IsDroppedAs parting limits first a (idle c) h.2.own h.2.reply shown
    by partings.None d = d
    by partings.Left d = d
    by partings.Unsaid d = d
    by (partings.Failed message) d = d
ends_idle (Some fault) limits first a c r said hs shown end h = h

once_idle : (a c : ConnSeen) (r : Request) (shown : List Item) (end : End) (fs : List Frame) → EndsAtOnce a c r shown end fs → EndsAtOnce a (idle c) r shown end fs
once_idle a c r shown end fs h = record {
  refused = λ u. let x = h.refused u in (x.0, x.1, x.2, (x.3.0, x.3.1, ap idle x.3.2));
  flushed = λ f. let x = h.flushed f in (x.0, (x.1.0, x.1.1, ap idle x.1.2));
}

-- the call is given up, or was over
pub given_up : (limits : Bounds) (first : StreamSeen) (a c : ConnSeen) (r : Request) (shown : List Item) (end : End) → HasEnded limits first a c r shown end → HasEnded limits first a (idle c) r shown end
given_up limits first a c r shown end h =
    let w = h.2.went in
    (h.0, h.1, record { went = record { flows = w.flows; tallies = w.tallies; waits = w.waits; learns = w.learns; groups = w.groups; heard = w.heard; started = w.started }; broken = h.2.broken; kept = h.2.kept; few = h.2.few; room = λ x. let y = h.2.room x in omega (arith, y); calls = h.2.calls; at_once = λ o. once_idle a c r shown end h.1 (h.2.at_once o); ends = ends_idle a.broken limits first a c r h.0 (heard h.1) shown end h.2.ends }, h.3)

-- a call that has ended is not given up once more
pub left_idle : (c : ConnSeen) → c.call ≡ calls.Idle → left c ≡ c
left_idle c e = rw e refl

behind_idle : (end : End) (c : ConnSeen) → (behind_end end c).call ≡ c.call
behind_idle (ends.Ok answer) c = refl
behind_idle (ends.Err e) c = cleaned_call c
behind_idle ends.Dropped c = cleaned_call c

-- and one that runs is cleaned up behind
idle_cleaned : (c : ConnSeen) → idle (cleaned c) ≡ cleaned (idle c)
idle_cleaned c = by (nat_eq c.groups 0) (may_open c.change c.groups c.rule.depth)
  where
    queued : (d : ConnSeen) → idle (ended (queued_group (spelled (rollback 0)) d)) ≡ ended (queued_group (spelled (rollback 0)) (idle d))
    queued d = by (has_room_for (spelled (rollback 0)) d)
      where
        by : (h : Bool) → idle (ended (cond h (with_group (spelled (rollback 0)) d) d)) ≡ ended (cond h (with_group (spelled (rollback 0)) (idle d)) (idle d))
        by true = refl
        by false = refl

    by : (n b : Bool) → idle (ended (cond b (queued_group (spelled (rollback 0)) (kept n c)) (kept n c))) ≡ ended (cond b (queued_group (spelled (rollback 0)) (kept n (idle c))) (kept n (idle c)))
    by true true = queued (kept true c)
    by false true = queued (kept false c)
    by true false = refl
    by false false = refl

-- and what is left of a copy from the client
idle_unfed : (over : Bool) (c : ConnSeen) → idle (unfed over c) ≡ unfed over (idle c)
idle_unfed over c = by (copies c.change c.groups && (not over && leb (length (spelled (copy_fail ∷ []))) c.stream.spare))
  where
    by : (b : Bool) → idle (cond b (with_copy_fail c) (owned c)) ≡ cond b (with_copy_fail (idle c)) (owned (idle c))
    by true = refl
    by false = refl

idle_left : (over : Bool) (c : ConnSeen) → idle (cleaned (unfed over c)) ≡ cleaned (unfed over (idle c))
idle_left over c = idle_cleaned (unfed over c) ∙ ap (λ (x : ConnSeen). cleaned x) (idle_unfed over c)

left_running : (c : ConnSeen) → runs c.call ≡ true → left c ≡ cleaned (unfed false (idle c))
left_running c e = ap (λ (b : Bool). cond b (idle (cleaned (unfed false c))) c) e ∙ idle_left false c

behind_other : (end : End) (c : ConnSeen) → behind_end end (copy_behind partings.None end c) ≡ cleaned (unfed false c) → behind_end end (copy_behind partings.None end (idle c)) ≡ cleaned (unfed false (idle c))
behind_other (ends.Err e) c h = sym (idle_left (ends_copy e) c) ∙ ap idle h ∙ idle_left false c
behind_other ends.Dropped c h = refl
behind_other (ends.Ok answer) c h = ap idle h ∙ idle_left false c

unfed_call : (over : Bool) (c : ConnSeen) → (unfed over c).call ≡ c.call
unfed_call over c = by (copies c.change c.groups && (not over && leb (length (spelled (copy_fail ∷ []))) c.stream.spare))
  where
    by : (b : Bool) → (cond b (with_copy_fail c) (owned c)).call ≡ c.call
    by true = refl
    by false = refl

-- what is learnt stays
unfed_learnt : (over : Bool) (c : ConnSeen) → (unfed over c).learnt ≡ c.learnt
unfed_learnt over c = by (copies c.change c.groups && (not over && leb (length (spelled (copy_fail ∷ []))) c.stream.spare))
  where
    by : (b : Bool) → (cond b (with_copy_fail c) (owned c)).learnt ≡ c.learnt
    by true = refl
    by false = refl

pub copy_learnt : (parting : Parting) (end : End) (c : ConnSeen) → (copy_behind parting end c).learnt ≡ c.learnt
copy_learnt parting (ends.Ok answer) c = refl
copy_learnt parting (ends.Err e) c = unfed_learnt (ends_copy e) c
copy_learnt partings.None ends.Dropped c = unfed_learnt false c
copy_learnt partings.Left ends.Dropped c = unfed_learnt false c
copy_learnt partings.Unsaid ends.Dropped c = unfed_learnt false c
copy_learnt (partings.Failed message) ends.Dropped c = by (begins_copy c.change)
  where
    by : (b : Bool) → (cond b (failed_by message c) (unfed false c)).learnt ≡ c.learnt
    by true = refl
    by false = unfed_learnt false c

copy_call : (parting : Parting) (end : End) (c : ConnSeen) → (copy_behind parting end c).call ≡ c.call
copy_call parting (ends.Ok answer) c = refl
copy_call parting (ends.Err e) c = unfed_call (ends_copy e) c
copy_call partings.None ends.Dropped c = unfed_call false c
copy_call partings.Left ends.Dropped c = unfed_call false c
copy_call partings.Unsaid ends.Dropped c = unfed_call false c
copy_call (partings.Failed message) ends.Dropped c = by (begins_copy c.change)
  where
    by : (b : Bool) → (cond b (failed_by message c) (unfed false c)).call ≡ c.call
    by true = refl
    by false = unfed_call false c

pub plays_one : (limits : Bounds) (first : StreamSeen) (a c d : ConnSeen) (r : Request) (shown : List Item) (end : End) (out : Outcome) → StopsBy limits first a c r shown end → d ≡ left c → out ≡ outcome_of d shown end → PlaysOne limits first a d r out
plays_one limits first a c d r shown end out g k e = rw e (by g.2)
  where
    by : ((g.0.call ≡ calls.Idle) × (c ≡ behind_end end (copy_behind limits.parting end g.0))) ⊎ ((runs g.0.call ≡ true) × (c ≡ g.0) × ((x : ConnSeen) → copy_behind limits.parting end x ≡ copy_behind partings.None end x) × (behind_end end (copy_behind partings.None end g.0) ≡ cleaned (unfed false g.0))) → PlaysOne limits first a d r (outcome_of d shown end)
    by (inl (over, is)) =
        let rests : c.call ≡ calls.Idle = ap (λ (x : ConnSeen). x.call) is ∙ behind_idle end (copy_behind limits.parting end g.0) ∙ copy_call limits.parting end g.0 ∙ over in
        (g.0, g.1, over, k ∙ left_idle c rests ∙ is, refl)
    by (inr (running, is, same, other)) =
        (idle g.0, given_up limits first a g.0 r shown end g.1, refl, k ∙ ap left is ∙ left_running g.0 running ∙ sym (behind_other end g.0 other) ∙ ap (λ (x : ConnSeen). behind_end end x) (sym (same (idle g.0))), refl)

-- ---- over a link

seen_rolled_one : {A : Type 0} (seen : A → LinkSeen) (c : ConnOf A) → seen_by seen (rolled (ended (counted_anew c))) ≡ rolled (ended (counted_anew (seen_by seen c)))
seen_rolled_one {A} seen c = by (nat_eq c.rule.depth 0) (has_room_for (spelled (rollback (c.rule.depth - 1))) (record (ended (counted_anew c)) { rule = with_depth (c.rule.depth - 1) c.rule }))
  where
    by : (z h : Bool) → seen_by seen (cond z (ended (counted_anew c)) (cond h (with_group (spelled (rollback (c.rule.depth - 1))) (record (ended (counted_anew c)) { rule = with_depth (c.rule.depth - 1) c.rule })) (record (ended (counted_anew c)) { rule = with_depth (c.rule.depth - 1) c.rule })))
        ≡ cond z (ended (counted_anew (seen_by seen c))) (cond h (with_group (spelled (rollback (c.rule.depth - 1))) (record (ended (counted_anew (seen_by seen c))) { rule = with_depth (c.rule.depth - 1) c.rule })) (record (ended (counted_anew (seen_by seen c))) { rule = with_depth (c.rule.depth - 1) c.rule }))
    by true h = refl
    by false true = refl
    by false false = refl

pub seen_rolled : {A : Type 0} (seen : A → LinkSeen) (c : ConnOf A) → seen_by seen (rolled_back c) ≡ rolled_back (seen_by seen c)
seen_rolled {A} seen c = seen_rolled_one seen (left c) ∙ ap (λ (x : ConnSeen). rolled (ended (counted_anew x))) (seen_left seen c)
