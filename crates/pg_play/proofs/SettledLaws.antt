-- Where the connection stands once it has settled the end of a step's call.
use Rattle.std.proofs.Common.{◌≡◌, ◌≢◌, ℕ, zero, suc, ◌+◌, ◌-◌, ◌^◌, ◌<◌, ◌≤◌, Bool, true, false, not, ◌&&◌, ◌||◌, cond, Option, Some, None, nat_eq, ltb, List, [], ◌∷◌, ◌++◌, length, refl, sym, ap, ◌∙◌, subst, arith, append-nil, length-append, inl, ne_eqb, ap₂}
use Rattle.std.specs.List.{count_by}
use Rattle.std.proofs.lemmas.Bool.{ltb-true}
use Rattle.std.proofs.lemmas.List.Concat.{flat_map-append}
use Rattle.pg_rule.specs.declared.rule.Rule.{Rule}
use Rattle.pg_request.specs.declared.progress.CacheStep.{CacheStep}
use Rattle.pg_request.specs.declared.progress.CacheStep.TheVariants as cache
use Rattle.pg_wire.specs.Backend.{BackendMessage}
use Rattle.pg_call.specs.declared.request.Request.{Request}
use Rattle.pg_wire.proofs.Each.{each_join}
use Rattle.pg_wire.specs.Frame.{Frame}
use Rattle.pg_wire.specs.Frontend.{FrontendMessage, HasFrontendFrame, Query}
use Rattle.pg_stream.specs.Streams.{StreamSeen}
use Rattle.pg_startup.specs.Flows.{Flows}
use Rattle.pg_startup.proofs.FlowLaws.{Flows-then}
use Rattle.pg_request.specs.Texts.{rollback_text}
use Rattle.pg_request.proofs.TextLaws.{rollback_said}
use Rattle.pg_call.specs.declared.kind.Change.TheVariants as changes
use Rattle.pg_call.specs.Requests.{Group, said_in, spelled, kind_of, change_of, keeping_of}
use Rattle.pg_conn.specs.Connections.{ConnSeen, opens, depth_behind, settled, cleaned, ended, may_open, has_room_for, with_group, queued_group, restated, rollback, counted_anew, rolled, rolled_back, left, with_depth}
use Rattle.pg_conn.specs.Holding.{release}
use Rattle.pg_conn.specs.Turns.{HasAllRoom, ends_request}
use Rattle.pg_conn.proofs.OwedLaws.{spelled-append, counts-append}
use Rattle.pg_conn.proofs.CleanupLaws.{fits_room, has_room, group_moves, rollback_short, opening, all_settled, all_cleaned, all_rolled}
use Rattle.pg_report.specs.declared.outcome.End.{End}
use Rattle.pg_report.specs.declared.outcome.End.TheVariants as ends
use Rattle.pg_report.specs.declared.outcome.Outcome.{Outcome}
use Rattle.pg_script.specs.declared.step.Call.{Call}
use Rattle.pg_script.specs.declared.step.Call.TheVariants as calls
use Rattle.pg_script.specs.declared.step.Step.{Step}
use Rattle.pg_learning.specs.declared.learnt.Learnt.{Learnt}
use Rattle.pg_play.specs.Shown.{LooksOn, request_of, begins, acts_at_once, handed_by}
use Rattle.pg_play.specs.Places.{Place, IsRequestGroup, ended as ended_place, owed, is_fine, Queues}
use Rattle.pg_call.specs.declared.kind.Keeping.{Keeping}
use Rattle.pg_call.specs.declared.kind.Keeping.TheVariants as keepings
use Rattle.pg_conn.specs.Statements.{moved, unmoved, step_of}
use Rattle.pg_conn.proofs.StatementLaws.{depth_held, depth_moved, depth_unmoved}
use Rattle.pg_play.proofs.StepLaws.{begins_one}
use Rattle.pg_play.proofs.PlaceLaws.{owed_is}
use Rattle.pg_report.specs.declared.outcome.Answer.TheVariants.{Unit as AnswersUnit}
use Rattle.pg_stream.specs.Links.{GrewBy}
use Rattle.pg_play.specs.Settling.{Settles, cleanup_of, depth_after, rollback_at, has_group, has_moved, statements_after, step_after, handed_at, held_after, rule_after}
use Rattle.pg_play.specs.Calls.{behind_end, untouched}
use Rattle.pg_play.specs.Copying.{LeavesCopy}
use Rattle.pg_play.proofs.CopyLaws.{Acts, leaves_none, fails_nothing}
use Rattle.pg_play.specs.Plays.{StandsAt, Plays_call, over}

-- as many are open there as on the connection
pub depth_stands : (start : StreamSeen) (at : Place) (a : ConnSeen) → StandsAt start at a → a.rule.depth ≡ at.rule.depth
depth_stands start at a st = ap (λ (r : Rule). r.depth) st.rule

-- ---- places behind it

-- behind a group of one text, which is queued out of the room that is kept
abbrev pub text_place : Place → ConnSeen → List ℕ → Rule → Place
text_place mid d text rule = record mid { seen = d.stream; said = mid.said ++ release text; groups = mid.groups ++ release text ∷ []; is_copy_failed = not (nat_eq (owed mid) 0) && mid.is_copy_failed; rule = rule }

abbrev pub text_conn : ConnSeen → List ℕ → Rule → CacheStep → ConnSeen
text_conn m text rule now = record (with_group (spelled (release text)) m) { rule = rule; cache = now; change = changes.Stays; keeping = keepings.Stays }

-- such as that of a rollback
abbrev rolled_place : Place → ConnSeen → ℕ → Rule → Place
rolled_place mid d left rule = text_place mid d (rollback_text left) rule

abbrev rolled_conn : ConnSeen → ℕ → Rule → CacheStep → ConnSeen
rolled_conn m left rule now = text_conn m (rollback_text left) rule now

-- the connection where this is known of the session
abbrev with_rule_only : Rule → CacheStep → ConnSeen → ConnSeen
with_rule_only rule now m = record m { rule = rule; cache = now }

-- and no end of a call is awaited
abbrev with_rule : Rule → Learnt → CacheStep → ConnSeen → ConnSeen
with_rule rule learnt now m = record m { rule = rule; learnt = learnt; cache = now; change = changes.Stays; keeping = keepings.Stays }

flows_group : (start : StreamSeen) (mid : Place) (m : ConnSeen) (text : List ℕ) (rule : Rule) (now : CacheStep) → StandsAt start mid m → has_room_for (spelled (release text)) m ≡ true
    → Flows start (text_conn m text rule now).stream (spelled (mid.said ++ release text)) mid.frames
flows_group start mid m text rule now st r =
    let moves = group_moves (spelled (release text)) m (fits_room (spelled (release text)) m r).0 in
    let one : Flows m.stream (text_conn m text rule now).stream (spelled (release text)) [] = record { counts = moves.counts; secured = moves.secured; sent = moves.sent; read = moves.read } in
    let all = Flows-then start m.stream (text_conn m text rule now).stream (spelled mid.said) (spelled (release text)) mid.frames [] st.flows one in
    subst (λ (q : List ℕ). Flows start (text_conn m text rule now).stream q mid.frames) (sym (spelled-append mid.said (release text)))
    (subst (λ (f : List Frame). Flows start (text_conn m text rule now).stream (spelled mid.said ++ spelled (release text)) f) (append-nil mid.frames) all)

failed_group : (n : ℕ) (x y : Bool) → (0 < n → x ≡ y) → not (nat_eq n 0) && x ≡ not (nat_eq n 0) && y
failed_group n x y f = by (nat_eq n 0) refl
  where
    some : (n : ℕ) → nat_eq n 0 ≡ false → 0 < n
    some zero e = absurd cc
    some (suc n) e = omega arith

    by : (b : Bool) → nat_eq n 0 ≡ b → not b && x ≡ not b && y
    by true e = refl
    by false e = f (some n e)

pub stands_group : (start : StreamSeen) (mid : Place) (m : ConnSeen) (text : List ℕ) (rule : Rule) (now : CacheStep) → StandsAt start mid m → HasFrontendFrame (Query text) → has_room_for (spelled (release text)) m ≡ true → HasAllRoom (text_conn m text rule now)
    → StandsAt start (text_place mid (text_conn m text rule now) text rule) (text_conn m text rule now)
stands_group start mid m text rule now st l r room =
    let owes = owed_is start mid m st in
    let one : count_by ends_request (release text) ≡ 1 = refl in
    record {
      flows = flows_group start mid m text rule now st r;
      ledger = omega (arith, st.ledger, length-append mid.groups (release text ∷ []));
      failed = λ o. failed_group m.ledger.owed m.ledger.is_copy_failed mid.is_copy_failed st.failed ∙ ap (λ (n : ℕ). not (nat_eq n 0) && mid.is_copy_failed) (sym owes);
      broken = st.broken;
      seen = refl;
      rule = refl;
      learnt = st.learnt;
      room = room;
      idle = st.idle;
      sayable = each_join HasFrontendFrame mid.said (release text) st.sayable (l, tt);
      are_groups = each_join IsRequestGroup mid.groups (release text ∷ []) st.are_groups (inl (inl (text, refl)), tt);
      between = λ z. absurd (omega (arith, z));
      plain = λ h n. plain_group mid text (st.plain h n);
      requests = omega (arith, st.requests, one, counts-append mid.said (release text), length-append mid.groups (release text ∷ []));
    }
  where
    plain_group : (mid : Place) (text : List ℕ) → mid.said ≡ said_in mid.groups → mid.said ++ release text ≡ said_in (mid.groups ++ release text ∷ [])
    plain_group mid text e = ap (λ (x : List FrontendMessage). x ++ release text) e ∙ sym (flat_map-append (λ g. g) mid.groups (release text ∷ []))

pub stands_rule : (start : StreamSeen) (mid : Place) (m : ConnSeen) (rule : Rule) (learnt : Learnt) (now : CacheStep) → StandsAt start mid m → HasAllRoom (with_rule rule learnt now m) → StandsAt start (record mid { rule = rule; learnt = learnt }) (with_rule rule learnt now m)
stands_rule start mid m rule learnt now st room = record {
  flows = st.flows;
  ledger = st.ledger;
  failed = st.failed;
  broken = st.broken;
  seen = st.seen;
  rule = refl;
  learnt = refl;
  room = room;
  idle = st.idle;
  sayable = st.sayable;
  are_groups = st.are_groups;
  between = st.between;
  plain = st.plain;
  requests = st.requests;
}

-- ---- what a call makes of the depth

opens_begins : (d : ℕ) (call : Call) → opens (change_of (kind_of (request_of d call))) ≡ begins call
opens_begins d (calls.Execute query) = refl
opens_begins d (calls.ExecuteMany query) = refl
opens_begins d (calls.Fetch query) = refl
opens_begins d (calls.FetchMany query) = refl
opens_begins d (calls.FetchAll query) = refl
opens_begins d (calls.FetchOptional query) = refl
opens_begins d (calls.FetchOne query) = refl
opens_begins d calls.Ping = refl
opens_begins d (calls.CopyOut query) = refl
opens_begins d (calls.Feed fed) = refl
opens_begins d calls.Flush = refl
opens_begins d (calls.Chain chain) = refl
opens_begins d calls.Begin = refl
opens_begins d (calls.BeginWith query) = refl
opens_begins zero calls.Commit = refl
opens_begins (suc left) calls.Commit = refl
opens_begins zero calls.Rollback = refl
opens_begins (suc left) calls.Rollback = refl
opens_begins d calls.StartRollback = refl
opens_begins d (calls.Release text) = refl
opens_begins d (calls.Describe extended) = refl
opens_begins d (calls.Run bound) = refl
opens_begins d (calls.Prepare preparation) = refl
opens_begins d calls.Clear = refl
opens_begins d (calls.Evict eviction) = refl
opens_begins d (calls.Look lookup) = refl
opens_begins d (calls.Fill filling) = refl
opens_begins d (calls.Tell prepared) = refl
opens_begins d (calls.CloseAll statements) = refl

depth_ok : (d : ℕ) (call : Call) (groups : ℕ) (end : End) → is_fine end ≡ true → acts_at_once call ≡ false → (begins call ≡ true → nat_eq groups 0 ≡ false) → depth_behind (change_of (kind_of (request_of d call))) groups d ≡ depth_after d call end
depth_ok d (calls.Execute query) groups end f a b = refl
depth_ok d (calls.ExecuteMany query) groups end f a b = refl
depth_ok d (calls.Fetch query) groups end f a b = refl
depth_ok d (calls.FetchMany query) groups end f a b = refl
depth_ok d (calls.FetchAll query) groups end f a b = refl
depth_ok d (calls.FetchOptional query) groups end f a b = refl
depth_ok d (calls.FetchOne query) groups end f a b = refl
depth_ok d calls.Ping groups end f a b = refl
depth_ok d (calls.CopyOut query) groups end f a b = refl
depth_ok d (calls.Feed fed) groups end f a b = refl
depth_ok d calls.Flush groups end f a b = refl
depth_ok d (calls.Chain chain) groups end f a b = refl
depth_ok d calls.Begin groups end f a b = let some = b refl in rw (f, some) refl
depth_ok d (calls.BeginWith query) groups end f a b = let some = b refl in rw (f, some) refl
depth_ok zero calls.Commit groups end f a b = rw f refl
depth_ok (suc left) calls.Commit groups end f a b = rw f refl
depth_ok zero calls.Rollback groups end f a b = rw f refl
depth_ok (suc left) calls.Rollback groups end f a b = rw f refl
depth_ok d calls.StartRollback groups end f a b = absurd cc
depth_ok d (calls.Release text) groups end f a b = absurd cc
depth_ok d (calls.Describe extended) groups end f a b = refl
depth_ok d (calls.Run bound) groups end f a b = refl
depth_ok d (calls.Prepare preparation) groups end f a b = refl
depth_ok d calls.Clear groups end f a b = refl
depth_ok d (calls.Evict eviction) groups end f a b = refl
depth_ok d (calls.Look lookup) groups end f a b = refl
depth_ok d (calls.Fill filling) groups end f a b = refl
depth_ok d (calls.Tell prepared) groups end f a b = refl
depth_ok d (calls.CloseAll statements) groups end f a b = refl

pub depth_other : (d : ℕ) (call : Call) (end : End) → is_fine end ≡ false → acts_at_once call ≡ false → depth_after d call end ≡ d
depth_other d (calls.Execute query) end f a = refl
depth_other d (calls.ExecuteMany query) end f a = refl
depth_other d (calls.Fetch query) end f a = refl
depth_other d (calls.FetchMany query) end f a = refl
depth_other d (calls.FetchAll query) end f a = refl
depth_other d (calls.FetchOptional query) end f a = refl
depth_other d (calls.FetchOne query) end f a = refl
depth_other d calls.Ping end f a = refl
depth_other d (calls.CopyOut query) end f a = refl
depth_other d (calls.Feed fed) end f a = refl
depth_other d calls.Flush end f a = refl
depth_other d (calls.Chain chain) end f a = refl
depth_other d calls.Begin end f a = rw f refl
depth_other d (calls.BeginWith query) end f a = rw f refl
depth_other d calls.Commit end f a = rw f refl
depth_other d calls.Rollback end f a = rw f refl
depth_other d calls.StartRollback end f a = absurd cc
depth_other d (calls.Release text) end f a = absurd cc
depth_other d (calls.Describe extended) end f a = refl
depth_other d (calls.Run bound) end f a = refl
depth_other d (calls.Prepare preparation) end f a = refl
depth_other d calls.Clear end f a = refl
depth_other d (calls.Evict eviction) end f a = refl
depth_other d (calls.Look lookup) end f a = refl
depth_other d (calls.Fill filling) end f a = refl
depth_other d (calls.Tell prepared) end f a = refl
depth_other d (calls.CloseAll statements) end f a = refl

-- the cleanup of a call that is polled, by whether its group was queued
abbrev pub cleanup_by : ℕ → Call → Bool → List Group → List Group
cleanup_by d call fine [] = []
cleanup_by d call fine (group ∷ own) = cond (begins call && (nat_eq d 0 && not fine)) (rollback 0 ∷ []) []

pub cleanup_polled : (d : ℕ) (call : Call) (end : End) (own : List Group) (n : ℕ) → acts_at_once call ≡ false → cleanup_of d call end own n ≡ cleanup_by d call (is_fine end) own
cleanup_polled d (calls.Execute query) end [] n a = refl
cleanup_polled d (calls.Execute query) end (g ∷ gs) n a = refl
cleanup_polled d (calls.ExecuteMany query) end [] n a = refl
cleanup_polled d (calls.ExecuteMany query) end (g ∷ gs) n a = refl
cleanup_polled d (calls.Fetch query) end [] n a = refl
cleanup_polled d (calls.Fetch query) end (g ∷ gs) n a = refl
cleanup_polled d (calls.FetchMany query) end [] n a = refl
cleanup_polled d (calls.FetchMany query) end (g ∷ gs) n a = refl
cleanup_polled d (calls.FetchAll query) end [] n a = refl
cleanup_polled d (calls.FetchAll query) end (g ∷ gs) n a = refl
cleanup_polled d (calls.FetchOptional query) end [] n a = refl
cleanup_polled d (calls.FetchOptional query) end (g ∷ gs) n a = refl
cleanup_polled d (calls.FetchOne query) end [] n a = refl
cleanup_polled d (calls.FetchOne query) end (g ∷ gs) n a = refl
cleanup_polled d calls.Ping end [] n a = refl
cleanup_polled d calls.Ping end (g ∷ gs) n a = refl
cleanup_polled d (calls.CopyOut query) end [] n a = refl
cleanup_polled d (calls.CopyOut query) end (g ∷ gs) n a = refl
cleanup_polled d (calls.Feed fed) end [] n a = refl
cleanup_polled d (calls.Feed fed) end (g ∷ gs) n a = refl
cleanup_polled d calls.Flush end [] n a = refl
cleanup_polled d calls.Flush end (g ∷ gs) n a = refl
cleanup_polled d (calls.Chain chain) end [] n a = refl
cleanup_polled d (calls.Chain chain) end (g ∷ gs) n a = refl
cleanup_polled d calls.Begin end [] n a = refl
cleanup_polled d calls.Begin end (g ∷ gs) n a = refl
cleanup_polled d (calls.BeginWith query) end [] n a = refl
cleanup_polled d (calls.BeginWith query) end (g ∷ gs) n a = refl
cleanup_polled d calls.Commit end [] n a = refl
cleanup_polled d calls.Commit end (g ∷ gs) n a = refl
cleanup_polled d calls.Rollback end [] n a = refl
cleanup_polled d calls.Rollback end (g ∷ gs) n a = refl
cleanup_polled d calls.StartRollback end own n a = absurd cc
cleanup_polled d (calls.Release text) end own n a = absurd cc
cleanup_polled d (calls.Describe extended) end [] n a = refl
cleanup_polled d (calls.Describe extended) end (g ∷ gs) n a = refl
cleanup_polled d (calls.Run bound) end [] n a = refl
cleanup_polled d (calls.Run bound) end (g ∷ gs) n a = refl
cleanup_polled d (calls.Prepare preparation) end [] n a = refl
cleanup_polled d (calls.Prepare preparation) end (g ∷ gs) n a = refl
cleanup_polled d calls.Clear end [] n a = refl
cleanup_polled d calls.Clear end (g ∷ gs) n a = refl
cleanup_polled d (calls.Evict eviction) end [] n a = refl
cleanup_polled d (calls.Evict eviction) end (g ∷ gs) n a = refl
cleanup_polled d (calls.Look lookup) end [] n a = refl
cleanup_polled d (calls.Fill filling) end [] n a = refl
cleanup_polled d (calls.Look lookup) end (g ∷ gs) n a = refl
cleanup_polled d (calls.Fill filling) end (g ∷ gs) n a = refl
cleanup_polled d (calls.Tell prepared) end [] n a = refl
cleanup_polled d (calls.Tell prepared) end (g ∷ gs) n a = refl
cleanup_polled d (calls.CloseAll statements) end [] n a = refl
cleanup_polled d (calls.CloseAll statements) end (g ∷ gs) n a = refl

-- ---- what it makes of the statements

-- what is told of one exchange, behind what was told before
pub step_over : (keeping : Keeping) (step : CacheStep) → step_of keeping step ≡ over step (step_of keeping cache.Same)
step_over keepings.Stays step = refl
step_over (keepings.Hits n) step = refl
step_over keepings.Draws step = refl
step_over keepings.Puts step = refl
step_over keepings.Evicts step = refl
step_over keepings.Clears step = refl

moved_fine : (own : List Group) (end : End) → is_fine end ≡ true → has_moved own end ≡ true
moved_fine own end f = ap (λ (b : Bool). b || has_group own) f

pub moved_other : (own : List Group) (end : End) → is_fine end ≡ false → has_moved own end ≡ has_group own
moved_other own end f = ap (λ (b : Bool). b || has_group own) f

pub none_handed : (end : End) (call : Call) (response : List BackendMessage) → is_fine end ≡ false → handed_at end call response ≡ None
none_handed end call response f = ap (λ (b : Bool). cond b (handed_by call response) None) f

depth_held_after : (o : Option Request) (rule : Rule) → (held_after o rule).depth ≡ rule.depth
depth_held_after None rule = refl
depth_held_after (Some next) rule = depth_held rule next

depth_statements : (keeping : Keeping) (b : Bool) (rule : Rule) → (statements_after keeping b rule).depth ≡ rule.depth
depth_statements keeping true rule = depth_moved keeping rule
depth_statements keeping false rule = depth_unmoved keeping rule

-- what becomes of the statements leaves the depth
pub depth_rule : (rule : Rule) (call : Call) (own : List Group) (next : Option Request) (end : End) → (rule_after rule call own next end).depth ≡ depth_after rule.depth call end
depth_rule rule call own next end =
    let open_rule : Rule = with_depth (depth_after rule.depth call end) rule in
    let kept : Keeping = keeping_of (request_of rule.depth call) in
    depth_held_after next (statements_after kept (has_moved own end) open_rule) ∙ depth_statements kept (has_moved own end) open_rule

-- the connection behind an end, where this is asked next
abbrev pub conn_behind : Option Request → Learnt → End → ConnSeen → ConnSeen
conn_behind o learnt end m = record (behind_end end m) { rule = held_after o (behind_end end m).rule; learnt = learnt }

-- ---- the end of a call that was polled

-- The connection stands at the next place, and counts the groups of the cleanup on.
pub record SettlesTo (start : StreamSeen) (at : Place) (step : Step) (told : Outcome) (own : List Group) (response : List BackendMessage) (asks : Option Request) (mid : Place) (m d : ConnSeen) : Type 0 where
  pub left : Place
  pub leaves : LeavesCopy step.call own told.end mid left
  pub next : Place
  pub out : Outcome
  pub settles : Settles at step told out own response left next
  pub asked : settles.asks ≡ asks
  pub stands : StandsAt start next d
  pub groups : GrewBy (length settles.cleanup) m.groups d.groups
  pub others : (d.heard ≡ m.heard) × (d.stream.waits ≡ m.stream.waits) × (d.stream.moves ≡ m.stream.moves) × (d.earlier ≡ m.earlier) × (d.cache ≡ over m.cache out.cache)

-- what is made of it: what is known of the session, and what is told
record Makes (at : Place) (step : Step) (told : Outcome) (own : List Group) (asks : Option Request) (m : ConnSeen) (rule : Rule) (now : CacheStep) : Type 0 where
  knows : rule ≡ rule_after at.rule step.call own asks told.end
  tells : now ≡ over m.cache (step_after (keeping_of (request_of at.rule.depth step.call)) (has_moved own told.end))

-- what hands on nothing has nothing asked
pub asks_none : (end : End) (call : Call) (response : List BackendMessage) (learnt : Learnt) → handed_at end call response ≡ None → LooksOn (handed_at end call response) learnt None learnt
asks_none end call response learnt e = subst (λ (o : Option Request). LooksOn o learnt None learnt) (sym e) (refl, refl)

-- nothing is queued
settles_plain : (start : StreamSeen) (at call mid : Place) (m : ConnSeen) (step : Step) (told : Outcome) (own : List Group) (response : List BackendMessage) (asks : Option Request) (learnt : Learnt) (rule : Rule) (now : CacheStep) → LooksOn (handed_at told.end step.call response) mid.learnt asks learnt → LeavesCopy step.call own told.end call mid → StandsAt start mid m → HasAllRoom (with_rule rule learnt now m) → told.groups ≡ length own
    → [] ≡ cleanup_of at.rule.depth step.call told.end own (owed mid) → Makes at step told own asks m rule now → SettlesTo start at step told own response asks call m (with_rule rule learnt now m)
settles_plain start at call mid m step told own response asks learnt rule now looks leaves st room counts none makes =
    let said : CacheStep = step_after (keeping_of (request_of at.rule.depth step.call)) (has_moved own told.end) in
    record {
      left = mid;
      leaves = leaves;
      next = record mid { rule = rule; learnt = learnt };
      out = record told { cache = said };
      settles = record {
        cleanup = [];
        cleans = none;
        asks = asks;
        looks = looks;
        rule = makes.knows;
        said = sym (append-nil mid.said);
        groups = sym (append-nil mid.groups);
        seen = ap (λ (u : List ℕ). record mid.seen { unsent = u }) (sym (append-nil mid.seen.unsent));
        frames = refl;
        failed = refl;
        broken = refl;
        unfailed = refl;
        outcome = refl;
        cache = refl;
        counted = omega (arith, counts);
      };
      asked = refl;
      stands = stands_rule start mid m rule learnt now st room;
      groups = omega arith;
      others = (refl, refl, refl, refl, makes.tells);
    }

-- a rollback is
settles_rolled : (start : StreamSeen) (at call mid : Place) (m : ConnSeen) (step : Step) (told : Outcome) (own : List Group) (response : List BackendMessage) (rule : Rule) (now : CacheStep) → handed_at told.end step.call response ≡ None → LeavesCopy step.call own told.end call mid → StandsAt start mid m → HasAllRoom (rolled_conn m 0 rule now) → has_room_for (spelled (rollback 0)) m ≡ true → m.groups ≤ 1
    → rollback 0 ∷ [] ≡ cleanup_of at.rule.depth step.call told.end own (owed mid) → Makes at step told own None m rule now → SettlesTo start at step told own response None call m (rolled_conn m 0 rule now)
settles_rolled start at call mid m step told own response rule now hands leaves st room r few cleanup makes =
    let d = rolled_conn m 0 rule now in
    let said : CacheStep = step_after (keeping_of (request_of at.rule.depth step.call)) (has_moved own told.end) in
    record {
      left = mid;
      leaves = leaves;
      next = rolled_place mid d 0 rule;
      out = record told { groups = length own + 1; cache = said };
      settles = record {
        cleanup = rollback 0 ∷ [];
        cleans = cleanup;
        asks = None;
        looks = asks_none told.end step.call response mid.learnt hands;
        rule = makes.knows;
        said = refl;
        groups = refl;
        seen = ap (λ (x : StreamSeen). record x { unsent = x.unsent ++ spelled (rollback 0); spare = d.stream.spare; waits = m.stream.waits; moves = m.stream.moves }) st.seen;
        frames = refl;
        failed = refl;
        broken = refl;
        unfailed = refl;
        outcome = refl;
        cache = refl;
        counted = omega arith;
      };
      asked = refl;
      stands = stands_group start mid m (rollback_text 0) rule now st (rollback_said 0 (omega arith)) r room;
      groups = omega (arith, few);
      others = (refl, refl, refl, refl, makes.tells);
    }

pub ok_cleans_none : (d : ℕ) (call : Call) (own : List Group) → [] ≡ cleanup_by d call true own
ok_cleans_none d call [] = refl
ok_cleans_none d call (g ∷ gs) = by (begins call) (nat_eq d 0)
  where
    by : (b z : Bool) → [] ≡ cond (b && (z && false)) (rollback 0 ∷ []) []
    by true true = refl
    by true false = refl
    by false z = refl

not_nil : (g : Group) (gs : List Group) → g ∷ gs ≢ []
not_nil g gs e = cc

other_cleans_none : (d : ℕ) (call : Call) (own : List Group) (groups : ℕ) → (own ≢ [] → nat_eq groups 0 ≡ false) → not (nat_eq groups 0) && (nat_eq d 0 && begins call) ≡ false → [] ≡ cleanup_by d call false own
other_cleans_none d call [] groups f e = refl
other_cleans_none d call (g ∷ gs) groups f e = by (begins call) (nat_eq d 0) (rw (f (not_nil g gs)) at e)
  where
    by : (b z : Bool) → z && b ≡ false → [] ≡ cond (b && (z && true)) (rollback 0 ∷ []) []
    by true true h = absurd cc
    by true false h = refl
    by false z h = refl

other_cleans : (d : ℕ) (call : Call) (own : List Group) (groups : ℕ) → (own ≡ [] → groups ≡ 0) → not (nat_eq groups 0) && (nat_eq d 0 && begins call) ≡ true → (rollback 0 ∷ [] ≡ cleanup_by d call false own) × (own ≢ [])
other_cleans d call [] groups f e = absurd (none groups (f refl) e)
  where
    none : (groups : ℕ) → groups ≡ 0 → not (nat_eq groups 0) && (nat_eq d 0 && begins call) ≡ true → ⊥
    none zero z h = cc
    none (suc n) z h = cc
other_cleans d call (g ∷ gs) groups f e = (by (nat_eq groups 0) (begins call) (nat_eq d 0) e, not_nil g gs)
  where
    by : (n b z : Bool) → not n && (z && b) ≡ true → rollback 0 ∷ [] ≡ cond (b && (z && true)) (rollback 0 ∷ []) []
    by false true true h = refl
    by false true false h = absurd cc
    by false false true h = absurd cc
    by false false false h = absurd cc
    by true b z h = absurd cc

some_groups : (n g : ℕ) → (n ≡ 0 → ⊥) → g ≡ n → nat_eq g 0 ≡ false
some_groups n g f e = ne_eqb g 0 (λ z. f (sym e ∙ z))

nil_of : (own : List Group) → length own ≡ 0 → own ≡ []
nil_of [] e = refl
nil_of (g ∷ gs) e = absurd (omega (arith, e))

length_some : (own : List Group) → own ≢ [] → length own ≡ 0 → ⊥
length_some own n e = n (nil_of own e)

pub fine_has : (end : End) (whole own : List Group) → is_fine end ≡ true → Queues end whole own → own ≡ whole
fine_has (ends.Ok answer) whole own f q = q
fine_has (ends.Err e) whole own f q = absurd cc
fine_has ends.Dropped whole own f q = absurd cc

behind_fine : (end : End) (m : ConnSeen) → is_fine end ≡ true → behind_end end m ≡ settled m
behind_fine (ends.Ok answer) m f = refl
behind_fine (ends.Err e) m f = absurd cc
behind_fine ends.Dropped m f = absurd cc

behind_unfine : (end : End) (m : ConnSeen) → is_fine end ≡ false → behind_end end m ≡ cleaned m
behind_unfine (ends.Ok answer) m f = absurd cc
behind_unfine (ends.Err e) m f = refl
behind_unfine ends.Dropped m f = refl

-- what is learnt stays
cleaned_learnt : (m : ConnSeen) → (cleaned m).learnt ≡ m.learnt
cleaned_learnt m = by (may_open m.change m.groups m.rule.depth) (has_room_for (spelled (rollback 0)) (restated m))
  where
    restating : (g : Bool) → (cond g (record m { rule = unmoved m.keeping m.rule }) (record m { rule = moved m.keeping m.rule; cache = step_of m.keeping m.cache })).learnt ≡ m.learnt
    restating true = refl
    restating false = refl

    by : (o r : Bool) → (ended (cond o (cond r (with_group (spelled (rollback 0)) (restated m)) (restated m)) (restated m))).learnt ≡ m.learnt
    by true true = restating (nat_eq m.groups 0)
    by true false = restating (nat_eq m.groups 0)
    by false r = restating (nat_eq m.groups 0)

pub behind_learnt : (end : End) (m : ConnSeen) → (behind_end end m).learnt ≡ m.learnt
behind_learnt (ends.Ok answer) m = refl
behind_learnt (ends.Err e) m = cleaned_learnt m
behind_learnt ends.Dropped m = cleaned_learnt m

-- behind an Ok
fine_makes : (at : Place) (m : ConnSeen) (step : Step) (told : Outcome) (own : List Group) (asks : Option Request) → m.rule ≡ at.rule → m.keeping ≡ keeping_of (request_of at.rule.depth step.call) → is_fine told.end ≡ true → depth_behind m.change m.groups m.rule.depth ≡ depth_after at.rule.depth step.call told.end
    → Makes at step told own asks m (held_after asks (moved m.keeping (with_depth (depth_behind m.change m.groups m.rule.depth) m.rule))) (step_of m.keeping m.cache)
fine_makes at m step told own asks same keeping f depth = record {
  knows = ap₂ (λ (k : Keeping) (r : Rule). held_after asks (moved k r)) keeping (ap₂ with_depth depth same)
      ∙ ap (λ (b : Bool). held_after asks (statements_after kept b (with_depth (depth_after at.rule.depth step.call told.end) at.rule))) (sym (moved_fine own told.end f));
  tells = step_over m.keeping m.cache ∙ ap (λ (k : Keeping). over m.cache (step_of k cache.Same)) keeping ∙ ap (λ (b : Bool). over m.cache (step_after kept b)) (sym (moved_fine own told.end f));
}
  where
    kept : Keeping
    kept = keeping_of (request_of at.rule.depth step.call)

-- behind another end, by whether a group was queued
other_makes : (at : Place) (m : ConnSeen) (step : Step) (told : Outcome) (own : List Group) → m.rule ≡ at.rule → m.keeping ≡ keeping_of (request_of at.rule.depth step.call) → is_fine told.end ≡ false → depth_after at.rule.depth step.call told.end ≡ at.rule.depth
    → has_group own ≡ not (nat_eq m.groups 0) → Makes at step told own None m (restated m).rule (restated m).cache
other_makes at m step told own same keeping f depth asked = by (nat_eq m.groups 0) refl
  where
    kept : Keeping
    kept = keeping_of (request_of at.rule.depth step.call)

    old : with_depth (depth_after at.rule.depth step.call told.end) at.rule ≡ m.rule
    old = ap (λ (n : ℕ). with_depth n at.rule) depth ∙ sym same

    is : (b : Bool) → nat_eq m.groups 0 ≡ b → has_moved own told.end ≡ not b
    is b e = moved_other own told.end f ∙ asked ∙ ap not e

    by : (b : Bool) → nat_eq m.groups 0 ≡ b → Makes at step told own None m (cond b (record m { rule = unmoved m.keeping m.rule }) (record m { rule = moved m.keeping m.rule; cache = step_of m.keeping m.cache })).rule (cond b (record m { rule = unmoved m.keeping m.rule }) (record m { rule = moved m.keeping m.rule; cache = step_of m.keeping m.cache })).cache
    by true e = record {
      knows = ap₂ (λ (k : Keeping) (r : Rule). unmoved k r) keeping (sym old)
          ∙ ap (λ (b : Bool). statements_after kept b (with_depth (depth_after at.rule.depth step.call told.end) at.rule)) (sym (is true e));
      tells = ap (λ (b : Bool). over m.cache (step_after kept b)) (sym (is true e));
    }
    by false e = record {
      knows = ap₂ (λ (k : Keeping) (r : Rule). moved k r) keeping (sym old)
          ∙ ap (λ (b : Bool). statements_after kept b (with_depth (depth_after at.rule.depth step.call told.end) at.rule)) (sym (is false e));
      tells = step_over m.keeping m.cache ∙ ap (λ (k : Keeping). over m.cache (step_of k cache.Same)) keeping ∙ ap (λ (b : Bool). over m.cache (step_after kept b)) (sym (is false e));
    }

has_some : (own : List Group) (groups : ℕ) → groups ≡ length own → has_group own ≡ not (nat_eq groups 0)
has_some [] groups e = ap (λ (n : ℕ). not (nat_eq n 0)) (sym e)
has_some (g ∷ gs) groups e = ap not (sym (some_groups (length (g ∷ gs)) groups (λ z. absurd (omega (arith, z))) e))

-- what is held takes no room
room_held : (o : Option Request) (c : ConnSeen) → HasAllRoom c → HasAllRoom (record c { rule = held_after o c.rule })
room_held o c room = omega (arith, room, depth_held_after o c.rule)

-- the statements don't matter to what is queued
restated_stream : (m : ConnSeen) → (restated m ≡ with_rule_only (restated m).rule (restated m).cache m)
restated_stream m = by (nat_eq m.groups 0)
  where
    by : (b : Bool) → cond b (record m { rule = unmoved m.keeping m.rule }) (record m { rule = moved m.keeping m.rule; cache = step_of m.keeping m.cache })
        ≡ with_rule_only (cond b (record m { rule = unmoved m.keeping m.rule }) (record m { rule = moved m.keeping m.rule; cache = step_of m.keeping m.cache })).rule (cond b (record m { rule = unmoved m.keeping m.rule }) (record m { rule = moved m.keeping m.rule; cache = step_of m.keeping m.cache })).cache m
    by true = refl
    by false = refl

pub settles_call : (start : StreamSeen) (at mid left : Place) (m : ConnSeen) (step : Step) (told : Outcome) (one : Plays_call at step told mid) → LeavesCopy step.call one.own told.end mid left → acts_at_once step.call ≡ false → StandsAt start left m → length one.own ≤ 1 → m.groups ≡ length one.own → Acts step.call at.rule.depth m → m.keeping ≡ keeping_of (request_of at.rule.depth step.call)
    → (asks : Option Request) (learnt : Learnt) → LooksOn (handed_at told.end step.call one.told.response) left.learnt asks learnt → SettlesTo start at step told one.own one.told.response asks mid m (conn_behind asks learnt told.end m)
settles_call start at mid left m step told one leaves a st small groups acts keeping asks learnt looks = by (is_fine told.end) refl
  where
    response : List BackendMessage
    response = one.told.response

    same : m.rule ≡ at.rule
    same = st.rule ∙ ap (λ (x : Place). x.rule) leaves ∙ one.queued.rule

    depth_is : m.rule.depth ≡ at.rule.depth
    depth_is = ap (λ (r : Rule). r.depth) same

    counts : told.groups ≡ length one.own
    counts = one.numbers.groups

    opening_is : (b : Bool) → may_open m.change m.groups m.rule.depth ≡ b → not (nat_eq m.groups 0) && (nat_eq at.rule.depth 0 && begins step.call) ≡ b
    opening_is b e =
        ap (λ (o : Bool). not (nat_eq m.groups 0) && (nat_eq at.rule.depth 0 && o)) (sym (opens_begins at.rule.depth step.call))
        ∙ ap (λ (n : ℕ). not (nat_eq m.groups 0) && (nat_eq n 0 && opens (change_of (kind_of (request_of at.rule.depth step.call))))) (sym depth_is)
        ∙ ap (λ (o : Bool). not (nat_eq m.groups 0) && (nat_eq m.rule.depth 0 && o)) (sym acts.opens_so) ∙ e

    fine : is_fine told.end ≡ true → SettlesTo start at step told one.own response asks mid m (record (settled m) { rule = held_after asks (settled m).rule; learnt = learnt })
    fine f =
        settles_plain start at mid left m step told one.own response asks learnt (held_after asks (settled m).rule) (settled m).cache looks leaves st (room_held asks (settled m) (all_settled m st.room)) counts
        (ok_cleans_none at.rule.depth step.call one.own ∙ ap (λ (b : Bool). cleanup_by at.rule.depth step.call b one.own) (sym f) ∙ sym (cleanup_polled at.rule.depth step.call told.end one.own (owed left) a))
        (fine_makes at m step told one.own asks same keeping f (
        acts.depth_so m.rule.depth
        ∙ ap (λ (n : ℕ). depth_behind (change_of (kind_of (request_of at.rule.depth step.call))) m.groups n) depth_is
        ∙ depth_ok at.rule.depth step.call m.groups told.end f a (λ b. some_groups (length one.own) m.groups (length_some one.own (λ n. begins_one at.rule.depth step.call b (sym (fine_has told.end _ one.own f one.queued.asks) ∙ n))) groups)
        ))

    other : is_fine told.end ≡ false → (b : Bool) → may_open m.change m.groups m.rule.depth ≡ b → SettlesTo start at step told one.own response None mid m (cleaned m)
    other f false e =
        let rule : Rule = (restated m).rule in
        let now : CacheStep = (restated m).cache in
        let none = other_cleans_none at.rule.depth step.call one.own m.groups (λ n. some_groups (length one.own) m.groups (length_some one.own n) groups) (opening_is false e) in
        let is : cleaned m ≡ ended (restated m) = rw e refl in
        let so : cleaned m ≡ with_rule rule left.learnt now m =
        is ∙ ap (λ (x : ConnSeen). ended x) (restated_stream m) ∙ ap (λ (x : Learnt). with_rule rule x now m) st.learnt in
        subst (λ (x : ConnSeen). SettlesTo start at step told one.own response None mid m x) (sym so)
        (settles_plain start at mid left m step told one.own response None left.learnt rule now (asks_none told.end step.call response left.learnt (none_handed told.end step.call response f)) leaves st (subst (λ (x : ConnSeen). HasAllRoom x) so (all_cleaned m st.room)) counts
        (none ∙ ap (λ (b : Bool). cleanup_by at.rule.depth step.call b one.own) (sym f) ∙ sym (cleanup_polled at.rule.depth step.call told.end one.own (owed left) a))
        (other_makes at m step told one.own same keeping f (depth_other at.rule.depth step.call told.end f a) (has_some one.own m.groups groups)))
    other f true e =
        let rule : Rule = (restated m).rule in
        let now : CacheStep = (restated m).cache in
        let cleans = other_cleans at.rule.depth step.call one.own m.groups (λ n. groups ∙ ap (λ (g : List Group). length g) n) (opening_is true e) in
        let turn : length left.groups ≤ ended_place left + 1 = subst (λ (p : Place). length p.groups ≤ ended_place p + 1) (sym leaves) (one.queued.in_turn cleans.1) in
        let few : m.ledger.owed ≤ 1 = omega (arith, st.ledger, turn) in
        let short = rollback_short 0 (omega arith) in
        let level = opening m.change m.groups m.rule.depth e in
        let room = st.room in
        let r = has_room (spelled (rollback 0)) m (omega (arith, short, level, room)) (omega (arith, few)) in
        let queued : queued_group (spelled (rollback 0)) (restated m) ≡ with_rule_only (restated m).rule (restated m).cache (with_group (spelled (rollback 0)) m) =
        ap (queued_group (spelled (rollback 0))) (restated_stream m) ∙ rw r refl in
        let is : cleaned m ≡ ended (queued_group (spelled (rollback 0)) (restated m)) = rw e refl in
        let so : cleaned m ≡ rolled_conn m 0 rule now = is ∙ ap (λ (x : ConnSeen). ended x) queued in
        subst (λ (x : ConnSeen). SettlesTo start at step told one.own response None mid m x) (sym so)
        (settles_rolled start at mid left m step told one.own response rule now (none_handed told.end step.call response f) leaves st (subst (λ (x : ConnSeen). HasAllRoom x) so (all_cleaned m st.room)) r (omega (arith, groups, small))
        (cleans.0 ∙ ap (λ (b : Bool). cleanup_by at.rule.depth step.call b one.own) (sym f) ∙ sym (cleanup_polled at.rule.depth step.call told.end one.own (owed left) a))
        (other_makes at m step told one.own same keeping f (depth_other at.rule.depth step.call told.end f a) (has_some one.own m.groups groups)))

    -- nothing is asked behind an end that isn't Ok
    stays : (asks : Option Request) (learnt : Learnt) → LooksOn None left.learnt asks learnt → conn_behind asks learnt told.end m ≡ behind_end told.end m
    stays asks learnt none =
        ap₂ (λ (o : Option Request) (l : Learnt). conn_behind o l told.end m) none.0 (none.1 ∙ sym st.learnt) ∙ ap (λ (l : Learnt). record (behind_end told.end m) { learnt = l }) (sym (behind_learnt told.end m))

    by : (b : Bool) → is_fine told.end ≡ b → SettlesTo start at step told one.own response asks mid m (conn_behind asks learnt told.end m)
    by true f = subst (λ (x : ConnSeen). SettlesTo start at step told one.own response asks mid m (record x { rule = held_after asks x.rule; learnt = learnt })) (sym (behind_fine told.end m f)) (fine f)
    by false f =
        let none : LooksOn None left.learnt asks learnt = subst (λ (o : Option Request). LooksOn o left.learnt asks learnt) (none_handed told.end step.call response f) looks in
        subst (λ (o : Option Request). SettlesTo start at step told one.own response o mid m (conn_behind asks learnt told.end m)) (sym none.0)
        (subst (λ (x : ConnSeen). SettlesTo start at step told one.own response None mid m x) (sym (stays asks learnt none ∙ behind_unfine told.end m f)) (other f (may_open m.change m.groups m.rule.depth) refl))

-- ---- a rollback without waiting

pub stands_anew : (start : StreamSeen) (at : Place) (a : ConnSeen) → StandsAt start at a → StandsAt start (record at { seen = record at.seen { waits = 0; moves = 0 } }) (ended (counted_anew a))
stands_anew start at a st =
    let f = st.flows in
    let room = st.room in
    record {
      flows = record { counts = f.counts; secured = f.secured; sent = f.sent; read = f.read };
      ledger = st.ledger;
      failed = st.failed;
      broken = st.broken;
      seen = ap (λ (x : StreamSeen). record x { waits = 0; moves = 0 }) st.seen;
      rule = st.rule;
      learnt = st.learnt;
      room = omega (arith, room);
      idle = st.idle;
      sayable = st.sayable;
      are_groups = st.are_groups;
      between = st.between;
      plain = st.plain;
      requests = st.requests;
    }

-- what a rollback makes of the session, and what is told of it
rolls_knows : (start : StreamSeen) (at : Place) (a : ConnSeen) (step : Step) (depth : ℕ) → StandsAt start at a → step.call ≡ calls.StartRollback → depth ≡ at.rule.depth - 1 → with_depth depth a.rule ≡ rule_after at.rule step.call [] None (ends.Ok AnswersUnit)
rolls_knows start at a step depth st c after = ap₂ with_depth after st.rule ∙ ap (λ (call : Call). rule_after at.rule call [] None (ends.Ok AnswersUnit)) (sym c)

pub acts_ask_none : (call : Call) (learnt : Learnt) → acts_at_once call ≡ true → LooksOn (handed_at (ends.Ok AnswersUnit) call []) learnt None learnt
acts_ask_none calls.StartRollback learnt a = (refl, refl)
acts_ask_none (calls.Release text) learnt a = (refl, refl)
acts_ask_none _ learnt a = absurd cc

pub acts_tell : (depth : ℕ) (call : Call) → acts_at_once call ≡ true → cache.Same ≡ step_after (keeping_of (request_of depth call)) (has_moved [] (ends.Ok AnswersUnit))
acts_tell depth calls.StartRollback a = refl
acts_tell depth (calls.Release text) a = refl
acts_tell depth _ a = absurd cc

rolls_tells : (at : Place) (step : Step) → step.call ≡ calls.StartRollback → cache.Same ≡ step_after (keeping_of (request_of at.rule.depth step.call)) (has_moved [] (ends.Ok AnswersUnit))
rolls_tells at step c = acts_tell at.rule.depth step.call (ap acts_at_once c)

-- nothing is open, or no reply more can be counted
rolls_none : (start : StreamSeen) (at : Place) (a : ConnSeen) (step : Step) (depth : ℕ) → StandsAt start at a → HasAllRoom (with_rule (with_depth depth a.rule) at.learnt cache.Same (ended (counted_anew a))) → step.call ≡ calls.StartRollback → [] ≡ rollback_at at.rule.depth (owed at) → depth ≡ at.rule.depth - 1
    → SettlesTo start at step (untouched (ends.Ok AnswersUnit)) [] [] None at (ended (counted_anew a)) (with_rule (with_depth depth a.rule) at.learnt cache.Same (ended (counted_anew a)))
rolls_none start at a step depth st room c none after = record {
  left = at;
  leaves = leaves_none step.call [] (ends.Ok AnswersUnit) at (fails_nothing step.call (ends.Ok AnswersUnit)).0 (fails_nothing step.call (ends.Ok AnswersUnit)).1;
  next = record at { seen = record at.seen { waits = 0; moves = 0 }; rule = with_depth depth a.rule };
  out = untouched (ends.Ok AnswersUnit);
  settles = record {
    cleanup = [];
    cleans = rw c none;
    asks = None;
    looks = acts_ask_none step.call at.learnt (ap acts_at_once c);
    rule = rolls_knows start at a step depth st c after;
    said = sym (append-nil at.said);
    groups = sym (append-nil at.groups);
    seen = ap (λ (u : List ℕ). record at.seen { unsent = u; waits = 0; moves = 0 }) (sym (append-nil at.seen.unsent));
    frames = refl;
    failed = refl;
    broken = refl;
    unfailed = refl;
    outcome = refl;
    cache = rolls_tells at step c;
    counted = omega arith;
  };
  asked = refl;
  stands = stands_rule start (record at { seen = record at.seen { waits = 0; moves = 0 } }) (ended (counted_anew a)) (with_depth depth a.rule) at.learnt cache.Same (stands_anew start at a st) room;
  groups = omega arith;
  others = (refl, refl, refl, refl, refl);
}

rolls_one : (start : StreamSeen) (at : Place) (a : ConnSeen) (step : Step) (left : ℕ) → StandsAt start at a → left < 2 ^ 64 → has_room_for (spelled (rollback left)) (ended (counted_anew a)) ≡ true → HasAllRoom (rolled_conn (ended (counted_anew a)) left (with_depth left a.rule) cache.Same) → step.call ≡ calls.StartRollback
    → rollback left ∷ [] ≡ rollback_at at.rule.depth (owed at) → left ≡ at.rule.depth - 1
    → SettlesTo start at step (untouched (ends.Ok AnswersUnit)) [] [] None at (ended (counted_anew a)) (rolled_conn (ended (counted_anew a)) left (with_depth left a.rule) cache.Same)
rolls_one start at a step left st l r room c some after =
    let m : ConnSeen = ended (counted_anew a) in
    let rule : Rule = with_depth left a.rule in
    let d = rolled_conn m left rule cache.Same in
    let mid : Place = record at { seen = record at.seen { waits = 0; moves = 0 } } in
    record {
      left = at;
      leaves = leaves_none step.call [] (ends.Ok AnswersUnit) at (fails_nothing step.call (ends.Ok AnswersUnit)).0 (fails_nothing step.call (ends.Ok AnswersUnit)).1;
      next = rolled_place mid d left rule;
      out = record (untouched (ends.Ok AnswersUnit)) { groups = 1 };
      settles = record {
        cleanup = rollback left ∷ [];
        cleans = rw c some;
        asks = None;
        looks = acts_ask_none step.call at.learnt (ap acts_at_once c);
        rule = rolls_knows start at a step left st c after;
        said = refl;
        groups = refl;
        seen = ap (λ (x : StreamSeen). record x { unsent = x.unsent ++ spelled (rollback left); spare = d.stream.spare; waits = 0; moves = 0 }) st.seen;
        frames = refl;
        failed = refl;
        broken = refl;
        unfailed = refl;
        outcome = refl;
        cache = rolls_tells at step c;
        counted = omega arith;
      };
      asked = refl;
      stands = stands_group start mid m (rollback_text left) rule cache.Same (stands_anew start at a st) (rollback_said left l) r room;
      groups = omega arith;
      others = (refl, refl, refl, refl, refl);
    }

pub and_false : (b : Bool) → b && false ≡ false
and_false true = refl
and_false false = refl

pub one_group : (frame : List ℕ) (c : ConnSeen) → has_room_for frame c ≡ true → queued_group frame c ≡ with_group frame c
one_group frame c r = rw r refl

pub no_group : (frame : List ℕ) (c : ConnSeen) → has_room_for frame c ≡ false → queued_group frame c ≡ c
no_group frame c r = rw r refl

-- one is open no more
rolled_open : (c : ConnSeen) (n : ℕ) → c.rule.depth ≡ n + 1 → rolled c ≡ queued_group (spelled (rollback n)) (record c { rule = with_depth n c.rule })
rolled_open c n e =
    let some : nat_eq c.rule.depth 0 ≡ false = ne_eqb c.rule.depth 0 (λ z. omega (arith, e, z)) in
    let fewer : c.rule.depth - 1 ≡ n = omega (arith, e) in
    rw (some, fewer) refl

rolls_at : (depth n owed : ℕ) → depth ≡ suc n → ltb owed (2 ^ 64 - 1) ≡ true → rollback n ∷ [] ≡ rollback_at depth owed
rolls_at depth n owed e q = subst (λ (d : ℕ). rollback n ∷ [] ≡ rollback_at d owed) (sym e) (rw q refl)

rolls_not_at : (depth n owed : ℕ) → depth ≡ suc n → ltb owed (2 ^ 64 - 1) ≡ false → [] ≡ rollback_at depth owed
rolls_not_at depth n owed e q = subst (λ (d : ℕ). [] ≡ rollback_at d owed) (sym e) (rw q refl)

pub settles_rollback : (start : StreamSeen) (at : Place) (a b : ConnSeen) (step : Step) → StandsAt start at a → a.rule.depth < 2 ^ 64 → step.call ≡ calls.StartRollback → b ≡ rolled_back a → SettlesTo start at step (untouched (ends.Ok AnswersUnit)) [] [] None at (ended (counted_anew a)) b
settles_rollback start at a b step st l c is =
    subst (λ (x : ConnSeen). SettlesTo start at step (untouched (ends.Ok AnswersUnit)) [] [] None at (ended (counted_anew a)) x) (sym (is ∙ ap (λ (x : ConnSeen). rolled (ended (counted_anew x))) idles)) (by a.rule.depth refl)
  where
    idles : left a ≡ a
    idles = rw st.idle refl

    room : HasAllRoom (rolled (ended (counted_anew a)))
    room = let k = st.room in all_rolled (ended (counted_anew a)) l refl (omega (arith, k))

    by : (d : ℕ) → a.rule.depth ≡ d → SettlesTo start at step (untouched (ends.Ok AnswersUnit)) [] [] None at (ended (counted_anew a)) (rolled (ended (counted_anew a)))
    by zero e =
        let none : rolled (ended (counted_anew a)) ≡ with_rule (with_depth 0 a.rule) a.learnt cache.Same (ended (counted_anew a)) = rw e refl in
        let same : rolled (ended (counted_anew a)) ≡ with_rule (with_depth 0 a.rule) at.learnt cache.Same (ended (counted_anew a)) = none ∙ ap (λ (l : Learnt). with_rule (with_depth 0 a.rule) l cache.Same (ended (counted_anew a))) st.learnt in
        subst (λ (x : ConnSeen). SettlesTo start at step (untouched (ends.Ok AnswersUnit)) [] [] None at (ended (counted_anew a)) x) (sym same)
        (rolls_none start at a step 0 st (subst (λ (x : ConnSeen). HasAllRoom x) same room) c (rw (sym (depth_stands start at a st) ∙ e) refl) (omega (arith, depth_stands start at a st, e)))
    by (suc n) e = one (ltb a.ledger.owed (2 ^ 64 - 1)) refl
      where
        owes : ltb (owed at) (2 ^ 64 - 1) ≡ ltb a.ledger.owed (2 ^ 64 - 1)
        owes = ap (λ (o : ℕ). ltb o (2 ^ 64 - 1)) (owed_is start at a st)

        one : (b : Bool) → ltb a.ledger.owed (2 ^ 64 - 1) ≡ b → SettlesTo start at step (untouched (ends.Ok AnswersUnit)) [] [] None at (ended (counted_anew a)) (rolled (ended (counted_anew a)))
        one true q =
            let short = rollback_short n (omega (arith, l, e)) in
            let space = st.room in
            let r = has_room (spelled (rollback n)) (ended (counted_anew a)) (omega (arith, short, space, e)) (ltb-true _ _ q) in
            let same : rolled (ended (counted_anew a)) ≡ rolled_conn (ended (counted_anew a)) n (with_depth n a.rule) cache.Same = rolled_open (ended (counted_anew a)) n (omega (arith, e)) ∙ one_group (spelled (rollback n)) (with_rule (with_depth n a.rule) a.learnt cache.Same (ended (counted_anew a))) r in
            subst (λ (x : ConnSeen). SettlesTo start at step (untouched (ends.Ok AnswersUnit)) [] [] None at (ended (counted_anew a)) x) (sym same)
            (rolls_one start at a step n st (omega (arith, l, e)) r (subst (λ (x : ConnSeen). HasAllRoom x) same room) c (rolls_at at.rule.depth n (owed at) (sym (depth_stands start at a st) ∙ e) (owes ∙ q)) (omega (arith, depth_stands start at a st, e)))
        one false q =
            let none : has_room_for (spelled (rollback n)) (ended (counted_anew a)) ≡ false = rw q (and_false _) in
            let same : rolled (ended (counted_anew a)) ≡ with_rule (with_depth n a.rule) at.learnt cache.Same (ended (counted_anew a)) = rolled_open (ended (counted_anew a)) n (omega (arith, e)) ∙ no_group (spelled (rollback n)) (with_rule (with_depth n a.rule) a.learnt cache.Same (ended (counted_anew a))) none ∙ ap (λ (l : Learnt). with_rule (with_depth n a.rule) l cache.Same (ended (counted_anew a))) st.learnt in
            subst (λ (x : ConnSeen). SettlesTo start at step (untouched (ends.Ok AnswersUnit)) [] [] None at (ended (counted_anew a)) x) (sym same)
            (rolls_none start at a step n st (subst (λ (x : ConnSeen). HasAllRoom x) same room) c (rolls_not_at at.rule.depth n (owed at) (sym (depth_stands start at a st) ∙ e) (owes ∙ q)) (omega (arith, depth_stands start at a st, e)))
