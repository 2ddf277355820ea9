-- What is kept of the statements behind an exchange.
use Rattle.pg_play.proofs.ColumnLaws.{kept_learnt}
use Rattle.pg_conn.specs.Looking.{described_with}
use Rattle.pg_columns.proofs.ToldLaws.{told_columns}
use Rattle.pg_columns.specs.Told.{columns_of, told_by as fields_in}
use Rattle.pg_columns.specs.declared.column.PgColumn.{PgColumn}
use Rattle.pg_call.specs.declared.statement.Bound.{Bound}
use Rattle.std.proofs.Common.{◌≡◌, ◌⊎◌, ◌-◌, ℕ, ◌+◌, ◌<◌, ◌≤◌, ◌^◌, nat_eq, Bool, true, false, cond, ◌||◌, List, [], ◌∷◌, ◌++◌, length, map, option_to_list, subst, refl, sym, ap, ◌∙◌, append_assoc, append-nil, Option, Some, None, is_some, option_map, unwrap_or, inl, inr}
use Rattle.std.specs.List.{AllByRecursion, count_by}
use Rattle.std.proofs.lemmas.Bool.{lt-ltb}
use Rattle.std.proofs.lemmas.Option.{same_Some}
use Rattle.pg_wire.specs.Frame.{Frame}
use Rattle.pg_wire.specs.Parts.{heard, is_ready}
use Rattle.pg_wire.specs.Backend.{BackendMessage, backend_frame, HasBackendFrame}
use Rattle.pg_wire.specs.Groups.{EndsReady}
use Rattle.pg_wire.proofs.Each.{each_join}
use Rattle.pg_stream.specs.Streams.{StreamSeen}
use Rattle.pg_exchanges.specs.Answering.{described, describing, IsNoError}
use Rattle.pg_exchanges.specs.Keeping.{Named, Spares}
use Rattle.pg_rule.specs.declared.cache.Entry.{Entry}
use Rattle.pg_rule.specs.declared.rule.Rule.{Rule}
use Rattle.pg_rule.specs.Rules.{IsOrderly, IsNewest, drawn, holding, kept}
use Rattle.pg_rule.proofs.OrderLaws.{hold_orderly, drawn_newest, new_orderly}
use Rattle.pg_request.specs.Queries.{ArgumentsSeen}
use Rattle.pg_call.specs.declared.kind.Keeping.TheVariants as keepings
use Rattle.pg_call.specs.declared.statement.Extended.{Extended}
use Rattle.pg_call.specs.declared.statement.Described.{Described}
use Rattle.pg_call.specs.declared.after.After.{After}
use Rattle.pg_call.specs.declared.after.After.TheVariants as afters
use Rattle.pg_call.specs.declared.request.Request.{Request}
use Rattle.pg_call.specs.declared.request.Request.TheVariants as requests
use Rattle.pg_call.specs.Requests.{named_keeping, Group, name_of, groups_of, keeping_of, numbered_by as with_oids, request_behind, CanBeSaid, looked_behind}
use Rattle.pg_call.specs.Items.{parameters_after}
use Rattle.pg_call.specs.Drains.{after_readys}
use Rattle.pg_conn.specs.Connections.{with_depth}
use Rattle.pg_learning.specs.declared.learnt.Learnt.{Learnt}
use Rattle.pg_conn.specs.Statements.{entry_of, held_behind, held_by, moved}
use Rattle.pg_report.specs.declared.outcome.End.{End}
use Rattle.pg_report.specs.declared.outcome.End.TheVariants as ends
use Rattle.pg_report.specs.declared.outcome.Outcome.{Outcome}
use Rattle.pg_script.specs.declared.step.Call.{Call}
use Rattle.pg_script.specs.declared.step.Call.TheVariants as calls
use Rattle.pg_script.specs.declared.step.Step.{Step}
use Rattle.pg_play.specs.Shown.{LooksOn, request_of, handed_by}
use Rattle.pg_play.specs.Copying.{LeavesCopy}
use Rattle.pg_play.specs.Places.{Place, first_place, is_fine, owed, Queues}
use Rattle.pg_play.specs.Settling.{Settles, has_group, has_moved, statements_after, handed_at, held_after, rule_after, depth_after}
use Rattle.pg_play.specs.Kept.{IsKeptAt, Keeps, named_of}
use Rattle.pg_play.specs.Plays.{Plays_call}
use Rattle.pg_play.proofs.PlaceLaws.{all_split}
use Rattle.pg_play.proofs.SettleLaws.{left_frames, left_groups}
use Rattle.pg_play.proofs.ExchangeLaws.{IsLooked, LeadsTo, looks_or, told_by, undescribed_held, ready}
use Rattle.pg_play.proofs.KeptLaws.{LeavesKept, all_kept, open_orderly, IsNumbered, IsAfter, IsSought, IsSound, spares_asked, front_each_group, cleanup_spares, kept_further, leaves_statements}

-- ---- a statement that an exchange described

-- the response to the own group, told and whole, behind those of the groups before it
pub record DescribedAt (at next : Place) (x : Extended) (own cleanup : List Group) (slice : List Frame) (response : List BackendMessage) : Type 0 where
  pub queued : own ≡ describing (name_of x.statement) x.sql x.arguments.types ∷ []
  pub answered : after_readys (length at.groups) (heard next.frames) ≡ map backend_frame response
  pub read : length at.groups + 1 ≤ count_by is_ready (heard next.frames)
  pub ends : EndsReady response
  pub has_frames : AllByRecursion HasBackendFrame response
  pub well : AllByRecursion IsNoError response
  pub can : CanBeSaid (requests.Describe x)

new_kept : (at next : Place) (x : Extended) (own cleanup : List Group) (slice : List Frame) (response : List BackendMessage) → DescribedAt at next x own cleanup slice response → ((n : Named) → AllByRecursion (Spares n) cleanup) → next.groups ≡ at.groups ++ (own ++ cleanup)
    → (d : Described) → d.columns ≡ Some (columns_of (described response)) → IsKeptAt next (entry_of (record x { described = Some d }) d)
new_kept at next x own cleanup slice response t cleans groups d columns = record {
  before = at.groups;
  later = cleanup;
  types = x.arguments.types;
  groups = groups ∙ ap (λ (g : List Group). at.groups ++ (g ++ cleanup)) t.queued;
  spared = cleans (named_of (entry_of (record x { described = Some d }) d));
  told = response;
  more = [];
  answered = t.answered ∙ sym (append-nil (map backend_frame response));
  read = t.read;
  ends = t.ends;
  has_frames = t.has_frames;
  well = t.well;
  columns = ap (λ (o : Option (List PgColumn)). fields_in (unwrap_or o [])) columns ∙ told_columns (described response);
}

-- what was described stands at the server where it has a name, and is newer than all that are kept
abbrev pub CanHold : Place → Rule → Extended → Type 0
CanHold at rule x = (d : Described) → x.described ≡ Some d → nat_eq x.statement 0 ≡ false → IsKeptAt at (entry_of x d) × IsNewest (entry_of x d) rule

-- so is what is handed on, where it is a description
abbrev pub CanHoldTold : Place → Rule → Request → Type 0
CanHoldTold at rule (requests.Describe x) = CanHold at rule x
CanHoldTold at rule _ = Unit {0}

-- what is run behind a lookup stands at the server, unless it is prepared once more
abbrev pub RunsAt : Place → Bound → Option (List ℕ) → Type 0
RunsAt at bound (Some sql) = Unit {0}
RunsAt at bound None = (e : Entry) × (bound.statement ≡ e.statement) × (bound.columns ≡ Some e.columns) × (0 < e.statement) × IsKeptAt at e

-- and what something is looked up for
abbrev pub IsHeldFor : Place → Call → Type 0
IsHeldFor at (calls.Look l) = CanHold at at.rule l.extended
IsHeldFor at (calls.Fill f) = RunsAt at f.bound f.bound.again
IsHeldFor at _ = Unit {0}

-- it is so behind the description
described_holds : (at next : Place) (rule : Rule) (x : Extended) (own cleanup : List Group) (slice : List Frame) (response : List BackendMessage) → DescribedAt at next x own cleanup slice response → ((n : Named) → AllByRecursion (Spares n) cleanup) → next.groups ≡ at.groups ++ (own ++ cleanup)
    → IsOrderly rule → IsNumbered rule x → CanHoldTold next (moved (named_keeping x.statement) rule) (told_by x response)
described_holds at next rule x own cleanup slice response t cleans groups o numbered d is e =
    let k = is_new e (numbered t.can.1.1) in
    let same : told ≡ d = same_Some told d is in
    let so : moved (named_keeping x.statement) rule ≡ drawn rule = ap (λ (b : Bool). moved (cond b keepings.Stays keepings.Draws) rule) e ∙ drawn_so k.1 in (
      new_kept at next x own cleanup slice response t cleans groups d (ap (λ (y : Described). y.columns) (sym same)),
      subst (IsNewest (entry_of (record x { described = Some d }) d)) (sym so) (drawn_newest rule (entry_of (record x { described = Some d }) d) o k.0),
    )
  where
    told : Described
    told = record { parameters = parameters_after [] response; columns = Some (columns_of (described response)) }

    is_new : nat_eq x.statement 0 ≡ false → (x.statement ≡ 0) ⊎ ((x.statement ≡ rule.next) × (rule.next < 2 ^ 32)) → (x.statement ≡ rule.next) × (rule.next < 2 ^ 32)
    is_new e (inl z) = let y = sym (ap (λ (n : ℕ). nat_eq n 0) z) ∙ e in absurd cc
    is_new e (inr k) = k

    drawn_so : (k : rule.next < 2 ^ 32) → moved keepings.Draws rule ≡ drawn rule
    drawn_so k = ap (λ (b : Bool). cond (is_some (cond b (Some rule.next) None)) (drawn rule) rule) (lt-ltb rule.next 4294967296 k)

-- it is held where it has a name
holds_told : (at next : Place) (rule : Rule) (x : Extended) → CanHold next rule x → LeavesKept at next rule → LeavesKept at next (held_by rule (requests.Describe x))
holds_told at next rule x h l = by x.described refl
  where
    named : (d : Described) → x.described ≡ Some d → (b : Bool) → nat_eq x.statement 0 ≡ b → LeavesKept at next (cond b rule (holding (entry_of x d) rule))
    named d is true e = l
    named d is false e =
        let k = h d is e in
        record {
          orderly = hold_orderly rule (entry_of x d) l.orderly k.1;
          kept = (k.0, (all_split (IsKeptAt next) (option_to_list rule.cache.held) rule.cache.entries l.kept).1);
        }

    by : (o : Option Described) → x.described ≡ o → LeavesKept at next (held_behind rule x o)
    by None is = l
    by (Some d) is = named d is (nat_eq x.statement 0) refl

leaves_told : (at next : Place) (rule : Rule) (told : Request) → CanHoldTold next rule told → LeavesKept at next rule → LeavesKept at next (held_by rule told)
leaves_told at next rule (requests.Describe x) h l = holds_told at next rule x h l
leaves_told at next rule _ h l = l

-- whatever its columns tell
ready_holds : (at : Place) (rule : Rule) (a : Learnt) (arguments : ArgumentsSeen) (filling : Option (List ℕ)) (x : Extended) (d : Described) → x.described ≡ Some d → CanHold at rule x → CanHold at rule (ready a arguments filling x)
ready_holds at rule a arguments filling x d told h t is e =
    let same : described_with a d ≡ t = same_Some (described_with a d) t (sym (ap (option_map (described_with a)) told) ∙ is) in
    let k = h d told e in
    subst (λ (u : Described). IsKeptAt at (entry_of x u) × IsNewest (entry_of x u) rule) same (kept_learnt at x d a k.0, k.1)

-- what is asked next, by what was handed on
leaves_asked : (at next : Place) (rule : Rule) (told asked : Request) → LeadsTo told asked → CanHoldTold next rule told → LeavesKept at next rule → LeavesKept at next (held_by rule asked)
leaves_asked at next rule told asked (inl same) h l = subst (λ (r : Request). LeavesKept at next (held_by rule r)) (sym same) (leaves_told at next rule told h l)
leaves_asked at next rule told asked (inr (inl k)) h l = subst (λ (r : Request). LeavesKept at next (held_by rule r)) (sym k.asks) l
leaves_asked at next rule told asked (inr (inr (inr (inl r)))) h l =
    let holds : CanHold next rule r.extended = subst (CanHoldTold next rule) r.tells h in
    subst (λ (q : Request). LeavesKept at next (held_by rule q)) (sym r.asks) (holds_told at next rule (ready r.learnt r.arguments r.filling r.extended) (ready_holds next rule r.learnt r.arguments r.filling r.extended r.description r.described holds) l)
leaves_asked at next rule told asked (inr (inr (inr (inr (inl f))))) h l = subst (λ (r : Request). LeavesKept at next (held_by rule r)) (sym f.asks) l
leaves_asked at next rule told asked (inr (inr (inr (inr (inr f))))) h l = subst (λ (r : Request). LeavesKept at next (held_by rule r)) (sym f.asks) l
leaves_asked at next rule told asked (inr (inr (inl f))) h l =
    subst (λ (r : Request). LeavesKept at next (held_by rule r)) (sym f.asks) (subst (λ (r : Rule). LeavesKept at next r) (sym (undescribed_held rule (with_oids f.oids f.extended) f.undescribed)) l)

-- a lookup changes nothing of that
pub looked_holds : (at next : Place) (x : Extended) (own : List Group) (slice : List Frame) → CanHold at at.rule x → ((n : Named) → AllByRecursion (Spares n) own) → next.groups ≡ at.groups ++ own → heard next.frames ≡ heard at.frames ++ slice → CanHold next at.rule x
looked_holds at next x own slice h spared groups frames d is e =
    let k = h d is e in
    (kept_further at next (entry_of x d) own slice k.0 (spared (named_of (entry_of x d))) groups frames, k.1)

pub runs_holds : (at next : Place) (bound : Bound) (o : Option (List ℕ)) (own : List Group) (slice : List Frame) → RunsAt at bound o → ((n : Named) → AllByRecursion (Spares n) own) → next.groups ≡ at.groups ++ own → heard next.frames ≡ heard at.frames ++ slice → RunsAt next bound o
runs_holds at next bound (Some sql) own slice h spared groups frames = tt
runs_holds at next bound None own slice (e, same, columns, positive, kept) spared groups frames = (e, same, columns, positive, kept_further at next e own slice kept (spared (named_of e)) groups frames)

-- ---- behind an exchange

to_keeps : (at next : Place) (rule : Rule) → LeavesKept at next rule → next.rule ≡ rule → Keeps next
to_keeps at next rule l e = record {
  orderly = subst (λ (r : Rule). IsOrderly r) (sym e) l.orderly;
  kept = subst (λ (r : Rule). AllByRecursion (IsKeptAt next) (all_kept r)) (sym e) l.kept;
}

after_open : (depth : ℕ) (rule : Rule) (a : After) → IsAfter (kept rule) a → IsAfter (kept (with_depth depth rule)) a
after_open depth rule (afters.Run bound) h = h
after_open depth rule (afters.Fill filling) h = h
after_open depth rule (afters.Prepare prepared) h = h

sought_open : (depth : ℕ) (rule : Rule) (x : Extended) (o : Option Described) → IsSought rule x o → IsSought (with_depth depth rule) x o
sought_open depth rule x None s = s
sought_open depth rule x (Some d) s = s

sound_open : (depth : ℕ) (rule : Rule) (call : Call) → IsSound rule call → IsSound (with_depth depth rule) call
sound_open depth rule (calls.Describe x) s = s
sound_open depth rule (calls.Evict v) s = record { gone = s.gone; after = after_open depth rule v.after s.after }
sound_open depth rule (calls.Look l) s = sought_open depth rule l.extended l.extended.described s
sound_open depth rule _ s = tt

pub held_after_close : (rule : Rule) (a : After) → held_by rule (request_behind a) ≡ rule
held_after_close rule (afters.Run bound) = refl
held_after_close rule (afters.Fill filling) = refl
held_after_close rule (afters.Prepare prepared) = refl

fine_handed : (end : End) (call : Call) (response : List BackendMessage) → is_fine end ≡ true → handed_at end call response ≡ handed_by call response
fine_handed end call response f = ap (λ (b : Bool). cond b (handed_by call response) None) f

handed_fine : (end : End) (call : Call) (response : List BackendMessage) (told : Request) → handed_at end call response ≡ Some told → is_fine end ≡ true
handed_fine (ends.Ok answer) call response told e = refl
handed_fine (ends.Err x) call response told e = absurd cc
handed_fine ends.Dropped call response told e = absurd cc

after_holds : (at : Place) (rule : Rule) (a : After) → CanHoldTold at rule (request_behind a)
after_holds at rule (afters.Run bound) = tt
after_holds at rule (afters.Fill filling) = tt
after_holds at rule (afters.Prepare prepared) = tt

-- each statement that is kept is kept still, or was closed, or another one was put in its place
pub keeps_by : (at next : Place) (call : Call) (end : End) (own cleanup : List Group) (slice : List Frame) (response : List BackendMessage) (asks : Option Request) (learnt : Learnt) → Keeps at → IsSound at.rule call → IsHeldFor at call → Queues end (groups_of (request_of at.rule.depth call)) own → ((n : Named) → AllByRecursion (Spares n) cleanup)
    → next.groups ≡ at.groups ++ (own ++ cleanup) → heard next.frames ≡ heard at.frames ++ slice → LooksOn (handed_at end call response) learnt asks next.learnt → next.rule ≡ rule_after at.rule call own asks end
    → ((x : Extended) → call ≡ calls.Describe x → is_fine end ≡ true → DescribedAt at next x own cleanup slice response) → Keeps next × ((told asked : Request) → is_fine end ≡ true → handed_by call response ≡ Some told → asks ≡ Some asked → IsLooked told asked → CanHoldTold next next.rule told)
keeps_by at next call end own cleanup slice response asks learnt k sound held q cleans groups frames looks rule described = (
  by (handed_at end call response) refl looks,
  λ told asked f handed a looked. subst (λ (r : Rule). CanHoldTold next r told) (sym (rule ∙ ap (λ (o : Option Request). held_after o (S call)) (a ∙ ap (λ (r : Request). Some r) looked.asks))) (fine f call sound held q (λ x is. described x is f) told handed),
)
  where
    S : Call → Rule
    S c = statements_after (keeping_of (request_of at.rule.depth c)) (has_moved own end) (with_depth (depth_after at.rule.depth c end) at.rule)

    base : LeavesKept at next (S call)
    base = leaves_statements at next call end own cleanup slice (with_depth (depth_after at.rule.depth call end) at.rule) q cleans (sound_open (depth_after at.rule.depth call end) at.rule call sound) groups frames (open_orderly (depth_after at.rule.depth call end) at.rule k.orderly) k.kept

    looked : (b : Bool) → statements_after keepings.Stays b at.rule ≡ at.rule
    looked true = refl
    looked false = refl

    -- what is handed on may be held
    fine : is_fine end ≡ true → (c : Call) → IsSound at.rule c → IsHeldFor at c → Queues end (groups_of (request_of at.rule.depth c)) own → ((x : Extended) → c ≡ calls.Describe x → DescribedAt at next x own cleanup slice response) → (told : Request) → handed_by c response ≡ Some told → CanHoldTold next (S c) told
    fine f (calls.Describe x) s h q d told e =
        let moved_so : S (calls.Describe x) ≡ moved (named_keeping x.statement) at.rule = ap (λ (b : Bool). statements_after (named_keeping x.statement) (b || has_group own) at.rule) f in
        subst (λ (r : Rule). CanHoldTold next r told) (sym moved_so) (subst (CanHoldTold next (moved (named_keeping x.statement) at.rule)) (same_Some (told_by x response) told e) (described_holds at next at.rule x own cleanup slice response (d x refl) cleans groups k.orderly s))
    fine f (calls.Evict v) s h q d told e = subst (CanHoldTold next (S (calls.Evict v))) (same_Some (request_behind v.after) told e) (after_holds next (S (calls.Evict v)) v.after)
    fine f (calls.Look l) s h q d told e =
        subst (λ (r : Rule). CanHoldTold next r told) (sym (looked (has_moved own end)))
        (subst (CanHoldTold next at.rule) (same_Some (requests.Describe l.extended) told e)
        (looked_holds at next l.extended (own ++ cleanup) slice h (λ n. each_join (Spares n) own cleanup (front_each_group (Spares n) end (groups_of (requests.Look l)) own q (spares_asked n at.rule.depth (calls.Look l) (λ z. z))) (cleans n)) groups frames))
    fine f (calls.Fill v) s h q d told e = subst (CanHoldTold next (S (calls.Fill v))) (same_Some (requests.Run (looked_behind v.bound)) told e) tt
    fine f _ s h q d told e = absurd cc

    by : (o : Option Request) → handed_at end call response ≡ o → LooksOn o learnt asks next.learnt → Keeps next
    by None e none = to_keeps at next (S call) base (rule ∙ ap (λ (o : Option Request). held_after o (S call)) none.0)
    by (Some told) e (asked, is, up) =
        let f = handed_fine end call response told e in
        let holds = fine f call sound held q (λ x c. described x c f) told (sym (fine_handed end call response f) ∙ e) in
        to_keeps at next (held_by (S call) asked) (leaves_asked at next (S call) told asked (looks_or told asked learnt next.learnt up) holds base) (rule ∙ ap (λ (o : Option Request). held_after o (S call)) is)

-- the same of an exchange that is told
pub keeps_next : (at mid left next : Place) (step : Step) (told out : Outcome) (one : Plays_call at step told mid) → LeavesCopy step.call one.own told.end mid left → (s : Settles at step told out one.own one.told.response left next) → Keeps at → IsSound at.rule step.call → IsHeldFor at step.call
    → ((x : Extended) → step.call ≡ calls.Describe x → is_fine told.end ≡ true → DescribedAt at next x one.own s.cleanup one.slice one.told.response)
    → Keeps next × ((handed asked : Request) → is_fine told.end ≡ true → handed_by step.call one.told.response ≡ Some handed → s.asks ≡ Some asked → IsLooked handed asked → CanHoldTold next next.rule handed)
keeps_next at mid left next step told out one leaves s k sound held described =
    keeps_by at next step.call told.end one.own s.cleanup one.slice one.told.response s.asks left.learnt k sound held one.queued.asks
    (λ n. subst (AllByRecursion (Spares n)) (sym s.cleans) (cleanup_spares n at.rule.depth step.call told.end one.own (owed left)))
    (s.groups ∙ ap (λ (g : List Group). g ++ s.cleanup) (left_groups step.call one.own told.end mid left leaves ∙ one.queued.groups) ∙ append_assoc at.groups one.own s.cleanup) (ap heard (s.frames ∙ left_frames step.call one.own told.end mid left leaves) ∙ one.queued.taken) s.looks s.rule described

-- ---- at first

pub keeps_first : (capacity : ℕ) (seen : StreamSeen) → Keeps (first_place capacity seen)
keeps_first capacity seen = record { orderly = new_orderly capacity; kept = tt }
