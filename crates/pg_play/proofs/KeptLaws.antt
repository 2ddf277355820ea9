-- Which statements the server keeps, from one exchange of a play to the next.
use Rattle.pg_play.proofs.ColumnLaws.{learnt_some}
use Rattle.pg_conn.specs.Looking.{described_with}
use Rattle.pg_columns.specs.Told.{columns_of}
use Rattle.pg_columns.specs.declared.column.PgColumn.{PgColumn}
use Rattle.pg_call.specs.declared.statement.Bound.{Bound}
use Rattle.std.proofs.Common.{◌≡◌, ◌≢◌, ◌⊎◌, ◌-◌, ℕ, zero, suc, ◌+◌, ◌<◌, ◌^◌, nat_eq, ltb, leb, Bool, true, false, not, cond, ◌&&◌, ◌||◌, List, [], ◌∷◌, ◌++◌, length, map, option_to_list, find, subst, refl, sym, ap, ◌∙◌, arith, append_assoc, Option, Some, None, is_some, option_map, unwrap_or, inl, inr, IfSome, bytes_eq}
use Rattle.std.specs.List.{AllByRecursion, count_by, last_or}
use Rattle.std.proofs.lemmas.Bool.{leb-true, ltb-true}
use Rattle.std.proofs.lemmas.Slice.Eq.{bytes_eq-Decides}
use Rattle.std.proofs.lemmas.Option.{same_Some}
use Rattle.pg_wire.specs.Frame.{Frame}
use Rattle.pg_wire.specs.Parts.{heard, is_ready}
use Rattle.pg_wire.specs.Frontend.{FrontendMessage, Bind, ClosePortal, CopyData, CopyDone, CloseStatement, DescribeStatement, Execute, Parse, Query, Sync, statement_name}
use Rattle.pg_wire.specs.Backend.{BackendMessage, backend_frame}
use Rattle.pg_wire.proofs.Each.{each_join}
use Rattle.pg_exchanges.specs.Expecting.{AreDistinct}
use Rattle.pg_exchanges.specs.Answering.{described, describing, closing, running, IsClosedBy}
use Rattle.pg_exchanges.specs.Keeping.{Named, Spares}
use Rattle.pg_rule.specs.declared.cache.Entry.{Entry}
use Rattle.pg_rule.specs.declared.rule.Rule.{Rule}
use Rattle.pg_rule.specs.Caches.{Statements, entry_at, has_number, used, widths_in}
use Rattle.pg_rule.specs.Rules.{IsOrderly, IsNewest, IsFull, drawn, number_left, holding, kept, forgotten}
use Rattle.pg_rule.proofs.OrderLaws.{first_of, each_by, front_each, used_is, draw_orderly, touch_orderly, put_orderly, forget_orderly, clear_orderly, names_apart, put_full}
use Rattle.pg_request.specs.Queries.{QueryText, ArgumentsSeen}
use Rattle.pg_request.specs.declared.preparation.Preparation.{Preparation}
use Rattle.pg_call.specs.declared.kind.How.{How}
use Rattle.pg_call.specs.declared.kind.How.TheVariants as hows
use Rattle.pg_call.specs.declared.kind.Keeping.{Keeping}
use Rattle.pg_call.specs.declared.kind.Keeping.TheVariants as keepings
use Rattle.pg_call.specs.declared.statement.Extended.{Extended}
use Rattle.pg_call.specs.declared.statement.Described.{Described}
use Rattle.pg_call.specs.declared.after.Eviction.{Eviction}
use Rattle.pg_call.specs.declared.after.After.{After}
use Rattle.pg_call.specs.declared.after.After.TheVariants as afters
use Rattle.pg_call.specs.declared.statement.Goal.{Goal}
use Rattle.pg_call.specs.declared.statement.Goal.TheVariants as goals
use Rattle.pg_call.specs.declared.request.Request.{Request}
use Rattle.pg_call.specs.declared.request.Request.TheVariants as requests
use Rattle.pg_request.specs.Texts.{begin_text, commit_text, rollback_text}
use Rattle.pg_call.specs.Requests.{ended_by, parsing_by, Group, name_of, groups_of, keeping_of, behind_goal, numbered_by as with_oids, request_behind, bound_by, bound_for, looked_behind}
use Rattle.pg_call.specs.Items.{parameters_after}
use Rattle.pg_call.specs.Drains.{after_readys}
use Rattle.pg_conn.specs.Connections.{rollback, with_depth}
use Rattle.pg_conn.specs.Holding.{release}
use Rattle.pg_learning.specs.declared.learnt.Learnt.{Learnt}
use Rattle.pg_conn.specs.Statements.{asked_by, begun_as, behind_description, by_leaving, entry_of, held_behind, held_by, is_named, is_numbered, number_for, leaving, moved, unmoved, prepare_by, run_or_describe, tell_or_describe}
use Rattle.pg_conn.specs.States.{to_prepare}
use Rattle.pg_report.specs.declared.outcome.End.{End}
use Rattle.pg_report.specs.declared.outcome.End.TheVariants as ends
use Rattle.pg_script.specs.declared.step.Call.{Call}
use Rattle.pg_script.specs.declared.step.Call.TheVariants as calls
use Rattle.pg_play.specs.Shown.{begins, request_of, first_as, first_call, handed_by, exchange_for, acts_at_once}
use Rattle.pg_play.specs.Places.{Place, is_fine, owed, Queues}
use Rattle.pg_play.specs.Settling.{cleanup_of, has_group, has_moved, statements_after, rollback_at, release_at}
use Rattle.pg_play.specs.Kept.{IsKeptAt, named_of}
use Rattle.pg_play.proofs.PlaceLaws.{all_split, readies-append}
use Rattle.pg_play.proofs.SettledLaws.{cleanup_by, cleanup_polled}
use Rattle.pg_play.proofs.ExchangeLaws.{IsLooked, LeadsTo, told_by, ready}
use Rattle.pg_play.proofs.NameLaws.{apart_last, each_two, named_some}
use Rattle.pg_play.proofs.NextLaws.{after_further}

-- ---- what becomes of the statements

-- the one that is held, and those that are kept
abbrev pub all_kept : Rule → List Entry
all_kept rule = option_to_list rule.cache.held ++ rule.cache.entries

used_each : (P : Entry → Type 0) (number : ℕ) (es : List Entry) → AllByRecursion P es → AllByRecursion P (used number es)
used_each P number es h = subst (AllByRecursion P) (sym (used_is number es)) (front_each P (has_number number) es (find (has_number number) es) refl h)

-- what holds of all of them holds of all that an exchange makes of them
moved_each : (P : Entry → Type 0) (keeping : Keeping) (rule : Rule) → AllByRecursion P (all_kept rule) → AllByRecursion P (all_kept (moved keeping rule))
moved_each P keepings.Stays rule h = h
moved_each P (keepings.Hits n) rule h =
    let s = all_split P (option_to_list rule.cache.held) rule.cache.entries h in
    each_join P (option_to_list rule.cache.held) (used n rule.cache.entries) s.0 (used_each P n rule.cache.entries s.1)
moved_each P keepings.Draws rule h = by (is_some (number_left rule))
  where
    by : (b : Bool) → AllByRecursion P (all_kept (cond b (drawn rule) rule))
    by true = h
    by false = h
moved_each P keepings.Puts rule h = first_of P rule.capacity (all_kept rule) h
moved_each P keepings.Evicts rule h = first_of P rule.capacity (all_kept rule) h
moved_each P keepings.Clears rule h = tt

unmoved_each : (P : Entry → Type 0) (keeping : Keeping) (rule : Rule) → AllByRecursion P (all_kept rule) → AllByRecursion P (all_kept (unmoved keeping rule))
unmoved_each P keepings.Stays rule h = h
unmoved_each P (keepings.Hits n) rule h = h
unmoved_each P keepings.Draws rule h = h
unmoved_each P keepings.Puts rule h = (all_split P (option_to_list rule.cache.held) rule.cache.entries h).1
unmoved_each P keepings.Evicts rule h = (all_split P (option_to_list rule.cache.held) rule.cache.entries h).1
unmoved_each P keepings.Clears rule h = h

statements_each : (P : Entry → Type 0) (keeping : Keeping) (b : Bool) (rule : Rule) → AllByRecursion P (all_kept rule) → AllByRecursion P (all_kept (statements_after keeping b rule))
statements_each P keeping true rule h = moved_each P keeping rule h
statements_each P keeping false rule h = unmoved_each P keeping rule h

-- ---- and of their order

drawn_orderly : (rule : Rule) → IsOrderly rule → IsOrderly (cond (is_some (number_left rule)) (drawn rule) rule)
drawn_orderly rule o = by (ltb rule.next 4294967296) refl
  where
    by : (b : Bool) → ltb rule.next 4294967296 ≡ b → IsOrderly (cond (is_some (cond b (Some rule.next) None)) (drawn rule) rule)
    by true e = draw_orderly rule (ltb-true rule.next 4294967296 e) o
    by false e = o

moved_orderly : (keeping : Keeping) (rule : Rule) → IsOrderly rule → IsOrderly (moved keeping rule)
moved_orderly keepings.Stays rule o = o
moved_orderly (keepings.Hits n) rule o = touch_orderly rule n o
moved_orderly keepings.Draws rule o = drawn_orderly rule o
moved_orderly keepings.Puts rule o = put_orderly rule o
moved_orderly keepings.Evicts rule o = put_orderly rule o
moved_orderly keepings.Clears rule o = clear_orderly rule o

unmoved_orderly : (keeping : Keeping) (rule : Rule) → IsOrderly rule → IsOrderly (unmoved keeping rule)
unmoved_orderly keepings.Stays rule o = o
unmoved_orderly (keepings.Hits n) rule o = o
unmoved_orderly keepings.Draws rule o = o
unmoved_orderly keepings.Puts rule o = forget_orderly rule o
unmoved_orderly keepings.Evicts rule o = forget_orderly rule o
unmoved_orderly keepings.Clears rule o = o

statements_orderly : (keeping : Keeping) (b : Bool) (rule : Rule) → IsOrderly rule → IsOrderly (statements_after keeping b rule)
statements_orderly keeping true rule o = moved_orderly keeping rule o
statements_orderly keeping false rule o = unmoved_orderly keeping rule o

pub open_orderly : (depth : ℕ) (rule : Rule) → IsOrderly rule → IsOrderly (with_depth depth rule)
open_orderly depth rule o = record { starts = o.starts; ends = o.ends; bounded = o.bounded; fits = o.fits; numbered = o.numbered; distinct = o.distinct; newest = o.newest }

-- ---- what is so of an exchange by what is known of the session

-- a statement that is to be kept has the next number
abbrev pub IsNumbered : Rule → Extended → Type 0
IsNumbered rule x = x.is_numbered ≡ true → (x.statement ≡ 0) ⊎ ((x.statement ≡ rule.next) × (rule.next < 2 ^ 32))

-- what comes behind a close is of a statement that is kept then
abbrev pub IsKeptFirst : Rule → Bound → Type 0
IsKeptFirst rule bound = (e : Entry) × (others : List Entry) × (rule.cache.entries ≡ e ∷ others) × (bound.statement ≡ e.statement) × (bound.columns ≡ Some e.columns)

abbrev pub IsAfter : Rule → After → Type 0
IsAfter rule (afters.Run bound) = IsKeptFirst rule bound
IsAfter rule (afters.Fill filling) = IsKeptFirst rule filling.bound
IsAfter rule (afters.Prepare prepared) = Unit {0}

-- a close is of none that is kept behind it
pub record ClosesNone (rule : Rule) (v : Eviction) : Type 0 where
  pub gone : AllByRecursion (λ e. name_of e.statement ≢ name_of v.statement) (kept rule).cache.entries
  pub after : IsAfter (kept rule) v.after

-- a statement that was described
pub record WasDescribed (x : Extended) : Type 0 where
  pub description : Described
  pub is : x.described ≡ Some description
  pub columns : description.columns ≡ Some (unwrap_or description.columns [])

-- it is so whatever its columns tell
pub was_ready : (a : Learnt) (arguments : ArgumentsSeen) (filling : Option (List ℕ)) (x : Extended) → WasDescribed x → WasDescribed (ready a arguments filling x)
was_ready a arguments filling x w = record { description = described_with a w.description; is = ap (option_map (described_with a)) w.is; columns = learnt_some a w.description.columns w.columns }

-- something is looked up for it
pub record IsLooking (x : Extended) : Type 0 where
  pub was : WasDescribed x
  pub looked : x.is_looked_up ≡ true

-- or for one that isn't described yet, whose number is still the next one
abbrev pub IsSought : Rule → Extended → Option Described → Type 0
IsSought rule x None = IsNumbered rule x
IsSought rule x (Some d) = IsLooking x

abbrev pub IsSound : Rule → Call → Type 0
IsSound rule (calls.Describe x) = IsNumbered rule x
IsSound rule (calls.Evict v) = ClosesNone rule v
IsSound rule (calls.Look l) = IsSought rule l.extended l.extended.described
IsSound rule call = Unit {0}

numbered_by : (persistent : Bool) (rule : Rule) → is_numbered persistent rule ≡ true → (number_for persistent rule ≡ 0) ⊎ ((number_for persistent rule ≡ rule.next) × (rule.next < 2 ^ 32))
numbered_by persistent rule e = by (is_named persistent rule) (ltb rule.next 4294967296) refl e
  where
    by : (b c : Bool) → ltb rule.next 4294967296 ≡ c → not b || is_some (cond c (Some rule.next) None) ≡ true
        → (cond b (unwrap_or (cond c (Some rule.next) None) 4294967295) 0 ≡ 0) ⊎ ((cond b (unwrap_or (cond c (Some rule.next) None) 4294967295) 0 ≡ rule.next) × (rule.next < 2 ^ 32))
    by false c k h = inl refl
    by true true k h = inr (refl, ltb-true rule.next 4294967296 k)
    by true false k h = absurd cc

run_sound : (rule : Rule) (how : How) (sql : List ℕ) (arguments : ArgumentsSeen) (persistent : Bool) (o : Option Entry) → IsSound rule (exchange_for (run_or_describe rule how sql arguments persistent o))
run_sound rule how sql arguments persistent (Some e) = tt
run_sound rule how sql arguments persistent None = λ h. numbered_by persistent rule h

as_sound : (rule : Rule) (how : How) (query : QueryText) (o : Option ArgumentsSeen) (call : Call) → IsSound rule call → IsSound rule (first_as rule how query o call)
as_sound rule how query None call s = s
as_sound rule how query (Some arguments) call s = run_sound rule how query.sql arguments query.persistent (entry_at query.sql rule.cache.entries)

prepare_sound : (rule : Rule) (p : Preparation) → IsSound rule (exchange_for (asked_by rule (to_prepare p)))
prepare_sound rule p = by (entry_at p.sql rule.cache.entries)
  where
    by : (o : Option Entry) → IsSound rule (exchange_for (tell_or_describe rule (record { sql = p.sql; parameters = []; columns = None; keeping = keepings.Stays; declared = Some p.types }) o))
    by (Some e) = tt
    by None = λ h. numbered_by true rule h

clear_sound : (rule : Rule) → IsSound rule (exchange_for (asked_by rule (begun_as rule (requests.Clear []))))
clear_sound rule = by (nat_eq (length rule.cache.entries) 0)
  where
    by : (b : Bool) → IsSound rule (exchange_for (asked_by rule (cond b requests.Flush (requests.Clear []))))
    by true = tt
    by false = tt

pub first_sound : (rule : Rule) (call : Call) → IsSound rule (first_call rule call)
first_sound rule (calls.Execute query) = as_sound rule hows.Execute query query.arguments (calls.Execute query) tt
first_sound rule (calls.ExecuteMany query) = as_sound rule hows.ExecuteMany query query.arguments (calls.ExecuteMany query) tt
first_sound rule (calls.Fetch query) = as_sound rule hows.Fetch query query.arguments (calls.Fetch query) tt
first_sound rule (calls.FetchMany query) = as_sound rule hows.FetchMany query query.arguments (calls.FetchMany query) tt
first_sound rule (calls.FetchAll query) = as_sound rule hows.FetchAll query query.arguments (calls.FetchAll query) tt
first_sound rule (calls.FetchOptional query) = as_sound rule hows.FetchOptional query query.arguments (calls.FetchOptional query) tt
first_sound rule (calls.FetchOne query) = as_sound rule hows.FetchOne query query.arguments (calls.FetchOne query) tt
first_sound rule (calls.Prepare p) = prepare_sound rule p
first_sound rule calls.Clear = clear_sound rule
first_sound rule _ = tt

-- ---- the exchange behind a description

-- where as many are kept as may be, the last of them is closed for the one that is held
closes_last : (rule : Rule) (new last : Entry) (a : After) → IsOrderly rule → IsFull rule → rule.cache.held ≡ Some new → last_or None rule.cache.entries ≡ Some last
    → ((others : List Entry) → IsAfter (record rule { cache = record { entries = new ∷ others; held = None } }) a) → ClosesNone rule (record { statement = last.statement; after = a })
closes_last rule new last a o full held is after =
    let p = put_full rule new last o full held is in
    let ends : IsOrderly (kept rule) = put_orderly rule o in
    let apart = apart_last p.0 last (subst (λ (es : List Entry). AreDistinct (widths_in es)) p.1 o.distinct) in
    let newest = subst (λ (h : Option Entry). IfSome h (λ e. IsNewest e rule)) held o.newest in
    let numbers = all_split (λ e. (0 < e.statement) × (e.statement < rule.next)) p.0 (last ∷ []) (subst (AllByRecursion (λ e. (0 < e.statement) × (e.statement < rule.next))) p.1 o.numbered) in
    let below = all_split (λ f. f.statement < new.statement) p.0 (last ∷ []) (subst (AllByRecursion (λ f. f.statement < new.statement)) p.1 newest.2) in
    let kept_are : (kept rule).cache ≡ record { entries = new ∷ p.0; held = None } = ap (λ (es : List Entry). record { entries = es; held = None }) p.2 in
    record {
      gone = subst (AllByRecursion (λ e. name_of e.statement ≢ name_of last.statement)) (sym p.2) (
        new_name newest.0 numbers.1.0 below.1.0,
        each_by (λ e. ((0 < e.statement) × (e.statement < rule.next)) × (statement_name e.statement ≢ statement_name last.statement)) (λ e. name_of e.statement ≢ name_of last.statement)
            (λ e h same. h.1 (sym (named_some e.statement h.0.0) ∙ same ∙ named_some last.statement numbers.1.0.0)) p.0
            (each_two (λ e. (0 < e.statement) × (e.statement < rule.next)) (λ e. statement_name e.statement ≢ statement_name last.statement) p.0 numbers.0 apart),
      );
      after = subst (λ (c : Statements). IsAfter (record rule { cache = c }) a) (sym kept_are) (after p.0);
    }
  where
    new_name : 0 < new.statement → (0 < last.statement) × (last.statement < rule.next) → last.statement < new.statement → name_of new.statement ≢ name_of last.statement
    new_name n l b same =
        let x : statement_name new.statement ≡ statement_name last.statement = sym (named_some new.statement n) ∙ same ∙ named_some last.statement l.0 in
        let apart : bytes_eq (statement_name last.statement) (statement_name new.statement) ≡ false = names_apart last.statement new.statement b (omega (arith, o.ends, newest_below)) in
        let yes : bytes_eq (statement_name last.statement) (statement_name new.statement) ≡ true = (bytes_eq-Decides (statement_name last.statement) (statement_name new.statement)).1 (sym x) in
        absurd cc
      where
        newest_below : new.statement < rule.next
        newest_below = (subst (λ (h : Option Entry). IfSome h (λ e. IsNewest e rule)) held o.newest).1

-- what is run, or looked up before that
bound_sound : (filling : Option (List ℕ)) (bound : Bound) (rule : Rule) → IsSound rule (exchange_for (request_behind (bound_by filling bound)))
bound_sound None bound rule = tt
bound_sound (Some text) bound rule = tt

bound_after : (filling : Option (List ℕ)) (bound : Bound) (rule : Rule) → IsKeptFirst rule bound → IsAfter rule (bound_by filling bound)
bound_after None bound rule h = h
bound_after (Some text) bound rule h = h

-- what is asked behind a description
told_sound : (rule : Rule) (x : Extended) (d : Described) → d.columns ≡ Some (unwrap_or d.columns []) → IsOrderly (held_by rule (requests.Describe (record x { described = Some d })))
    → IsSound (held_by rule (requests.Describe (record x { described = Some d }))) (exchange_for (asked_by rule (requests.Describe (record x { described = Some d }))))
told_sound rule x d columns o = by (nat_eq x.statement 0) o
  where
    x' : Extended
    x' = record x { described = Some d }

    new : Entry
    new = entry_of x' d

    runs : (goal : Goal) (keeping : Keeping) (r : Rule) → IsSound r (exchange_for (request_behind (behind_goal goal x' d keeping)))
    runs (goals.Run how) keeping r = bound_sound x.filling (bound_for how x' d keeping) r
    runs goals.Prepare keeping r = tt

    after : (goal : Goal) (others : List Entry) → IsAfter (record (holding new rule) { cache = record { entries = new ∷ others; held = None } }) (behind_goal goal x' d keepings.Stays)
    after (goals.Run how) others = bound_after x.filling (bound_for how x' d keepings.Stays) (record (holding new rule) { cache = record { entries = new ∷ others; held = None } }) (new, others, refl, refl, columns)
    after goals.Prepare others = tt

    closes : (full : Bool) → leb rule.capacity (length rule.cache.entries) ≡ full → (last : Option Entry) → last_or None rule.cache.entries ≡ last → IsOrderly (holding new rule)
        → IsSound (holding new rule) (exchange_for (by_leaving x' d (option_map (λ (e : Entry). e.statement) (cond full last None))))
    closes false f last l o = runs x.goal keepings.Puts (holding new rule)
    closes true f None l o = runs x.goal keepings.Puts (holding new rule)
    closes true f (Some last) l o = closes_last (holding new rule) new last (behind_goal x.goal x' d keepings.Stays) o (leb-true rule.capacity (length rule.cache.entries) f) refl l (after x.goal)

    by : (b : Bool) → IsOrderly (cond b rule (holding new rule)) → IsSound (cond b rule (holding new rule)) (exchange_for (cond b (request_behind (behind_goal x.goal x' d keepings.Stays)) (by_leaving x' d (option_map (λ (e : Entry). e.statement) (leaving rule)))))
    by true o = runs x.goal keepings.Stays rule
    by false o = closes (leb rule.capacity (length rule.cache.entries)) refl (last_or None rule.cache.entries) refl o

described_sound : (rule : Rule) (x : Extended) → WasDescribed x → IsOrderly (held_by rule (requests.Describe x)) → IsSound (held_by rule (requests.Describe x)) (exchange_for (asked_by rule (requests.Describe x)))
described_sound rule x w o =
    let same : record x { described = Some w.description } ≡ x = ap (λ (d : Option Described). record x { described = d }) (sym w.is) in
    subst (λ (y : Extended). IsSound (held_by rule (requests.Describe y)) (exchange_for (asked_by rule (requests.Describe y)))) same
    (told_sound rule x w.description w.columns (subst (λ (y : Extended). IsOrderly (held_by rule (requests.Describe y))) (sym same) o))

-- and behind a close
after_sound : (rule : Rule) (a : After) → IsSound (held_by rule (request_behind a)) (exchange_for (asked_by rule (request_behind a)))
after_sound rule (afters.Run bound) = tt
after_sound rule (afters.Fill filling) = tt
after_sound rule (afters.Prepare prepared) = by prepared.columns
  where
    by : (o : Option (List PgColumn)) → IsSound rule (exchange_for (prepare_by rule (record prepared { declared = None }) o))
    by (Some columns) = tt
    by None = tells (entry_at prepared.sql rule.cache.entries)
      where
        tells : (o : Option Entry) → IsSound rule (exchange_for (tell_or_describe rule (record prepared { declared = None }) o))
        tells (Some e) = tt
        tells None = λ h. numbered_by true rule h

-- what is handed on was described, where it is a description, or its number is still the next one
abbrev pub IsToldFor : Rule → Extended → Option Described → Type 0
IsToldFor rule x None = IsNumbered rule x
IsToldFor rule x (Some d) = WasDescribed x

abbrev pub IsToldWhole : Rule → Request → Type 0
IsToldWhole rule (requests.Describe x) = IsToldFor rule x x.described
IsToldWhole rule _ = Unit {0}

told_was : (rule : Rule) (x : Extended) (reply : List BackendMessage) → IsToldWhole rule (told_by x reply)
told_was rule x reply = record { description = record { parameters = parameters_after [] reply; columns = Some (columns_of (described reply)) }; is = refl; columns = refl }

after_whole : (rule : Rule) (a : After) → IsToldWhole rule (request_behind a)
after_whole rule (afters.Run bound) = tt
after_whole rule (afters.Fill filling) = tt
after_whole rule (afters.Prepare prepared) = tt

sought_whole : (rule : Rule) (x : Extended) (o : Option Described) → IsSought rule x o → IsToldFor rule x o
sought_whole rule x None s = s
sought_whole rule x (Some d) s = s.was

pub told_whole : (rule : Rule) (call : Call) (reply : List BackendMessage) (told : Request) → handed_by call reply ≡ Some told → IsSound rule call → IsToldWhole rule told
told_whole rule (calls.Describe x) reply told e s = subst (IsToldWhole rule) (same_Some (told_by x reply) told e) (told_was rule x reply)
told_whole rule (calls.Evict v) reply told e s = subst (IsToldWhole rule) (same_Some (request_behind v.after) told e) (after_whole rule v.after)
told_whole rule (calls.Look l) reply told e s = subst (IsToldWhole rule) (same_Some (requests.Describe l.extended) told e) (sought_whole rule l.extended l.extended.described s)
told_whole rule (calls.Fill f) reply told e s = subst (IsToldWhole rule) (same_Some (requests.Run (looked_behind f.bound)) told e) tt
told_whole rule _ reply told e s = absurd cc

-- so is what something is looked up for
looked_whole : (rule : Rule) (told next : Request) → IsToldWhole rule told → (l : IsLooked told next) → IsSought rule (record l.extended { is_looked_up = true }) l.extended.described
looked_whole rule told next w l = by l.extended.described (subst (IsToldWhole rule) l.tells w)
  where
    by : (o : Option Described) → IsToldFor rule l.extended o → IsSought rule (record l.extended { is_looked_up = true }) o
    by None w = w
    by (Some d) w = record { was = record { description = w.description; is = w.is; columns = w.columns }; looked = refl }

-- the number of what isn't described yet is still the next one where the next exchange begins
abbrev pub NumbersOn : Rule → Rule → Request → Type 0
NumbersOn old rule told = (x : Extended) → told ≡ requests.Describe x → x.described ≡ None → IsNumbered old x → IsNumbered rule x

undescribed_sound : (rule : Rule) (x : Extended) → x.described ≡ None → IsNumbered rule x → IsSound (held_by rule (requests.Describe x)) (exchange_for (asked_by rule (requests.Describe x)))
undescribed_sound rule x e n = subst (λ (d : Option Described). IsSound (held_behind rule x d) (exchange_for (behind_description rule x d))) (sym e) n

sought_sound : (rule old : Rule) (x : Extended) (o : Option Described) → x.described ≡ o → IsSought old x o → (x.described ≡ None → IsNumbered old x → IsNumbered rule x) → IsOrderly (held_by rule (requests.Describe x)) → IsSound (held_by rule (requests.Describe x)) (exchange_for (asked_by rule (requests.Describe x)))
sought_sound rule old x None e s n o = undescribed_sound rule x e (n e s)
sought_sound rule old x (Some d) e s n o = described_sound rule x s.was o

handed_sound : (rule old : Rule) (call : Call) (reply : List BackendMessage) (told : Request) → handed_by call reply ≡ Some told → IsSound old call → NumbersOn old rule told → IsOrderly (held_by rule told) → IsSound (held_by rule told) (exchange_for (asked_by rule told))
handed_sound rule old (calls.Describe x) reply told e s n o =
    let is = same_Some (told_by x reply) told e in
    subst (λ (r : Request). IsSound (held_by rule r) (exchange_for (asked_by rule r))) is (described_sound rule _ (told_was rule x reply) (subst (λ (r : Request). IsOrderly (held_by rule r)) (sym is) o))
handed_sound rule old (calls.Evict v) reply told e s n o = subst (λ (r : Request). IsSound (held_by rule r) (exchange_for (asked_by rule r))) (same_Some (request_behind v.after) told e) (after_sound rule v.after)
handed_sound rule old (calls.Look l) reply told e s n o =
    let is = same_Some (requests.Describe l.extended) told e in
    subst (λ (r : Request). IsSound (held_by rule r) (exchange_for (asked_by rule r))) is (sought_sound rule old l.extended l.extended.described refl s (n l.extended (sym is)) (subst (λ (r : Request). IsOrderly (held_by rule r)) (sym is) o))
handed_sound rule old (calls.Fill f) reply told e s n o = subst (λ (r : Request). IsSound (held_by rule r) (exchange_for (asked_by rule r))) (same_Some (requests.Run (looked_behind f.bound)) told e) tt
handed_sound rule old _ reply told e s n o = absurd cc

pub next_sound : (rule old : Rule) (call : Call) (reply : List BackendMessage) (told next : Request) → handed_by call reply ≡ Some told → LeadsTo told next → IsSound old call → NumbersOn old rule told → IsOrderly (held_by rule next) → IsSound (held_by rule next) (exchange_for (asked_by rule next))
next_sound rule old call reply told next e (inl same) s n o =
    subst (λ (r : Request). IsSound (held_by rule r) (exchange_for (asked_by rule r))) (sym same) (handed_sound rule old call reply told e s n (subst (λ (r : Request). IsOrderly (held_by rule r)) same o))
next_sound rule old call reply told next e (inr (inl l)) s n o =
    subst (λ (r : Request). IsSound (held_by rule r) (exchange_for (asked_by rule r))) (sym l.asks) (by l.extended.described refl (looked_whole old told next (told_whole old call reply told e s) l))
  where
    by : (o : Option Described) → l.extended.described ≡ o → IsSought old (record l.extended { is_looked_up = true }) o → IsSought rule (record l.extended { is_looked_up = true }) l.extended.described
    by None e s = subst (λ (o : Option Described). IsSought rule (record l.extended { is_looked_up = true }) o) (sym e) (n l.extended l.tells e s)
    by (Some d) e s = subst (λ (o : Option Described). IsSought rule (record l.extended { is_looked_up = true }) o) (sym e) s
next_sound rule old call reply told next e (inr (inr (inr (inl r)))) s n o =
    let w : WasDescribed r.extended = subst (λ (o : Option Described). IsToldFor old r.extended o) r.described (subst (IsToldWhole old) r.tells (told_whole old call reply told e s)) in
    let y = ready r.learnt r.arguments r.filling r.extended in
    subst (λ (q : Request). IsSound (held_by rule q) (exchange_for (asked_by rule q))) (sym r.asks)
    (described_sound rule y (was_ready r.learnt r.arguments r.filling r.extended w) (subst (λ (q : Request). IsOrderly (held_by rule q)) r.asks o))
next_sound rule old call reply told next e (inr (inr (inr (inr (inl f))))) s n o = subst (λ (r : Request). IsSound (held_by rule r) (exchange_for (asked_by rule r))) (sym f.asks) tt
next_sound rule old call reply told next e (inr (inr (inr (inr (inr f))))) s n o = subst (λ (r : Request). IsSound (held_by rule r) (exchange_for (asked_by rule r))) (sym f.asks) tt
next_sound rule old call reply told next e (inr (inr (inl f))) s n o =
    let was : IsToldFor old f.extended None = subst (λ (o : Option Described). IsToldFor old f.extended o) f.undescribed (subst (IsToldWhole old) f.tells (told_whole old call reply told e s)) in
    subst (λ (r : Request). IsSound (held_by rule r) (exchange_for (asked_by rule r))) (sym f.asks) (undescribed_sound rule (with_oids f.oids f.extended) f.undescribed (n f.extended f.tells f.undescribed was))

-- ---- groups that close no statement

none_closes : (m : FrontendMessage) (ms : List FrontendMessage) (name : List ℕ) → (m ≡ CloseStatement name → ⊥) → (IsClosedBy ms name → ⊥) → IsClosedBy (m ∷ ms) name → ⊥
none_closes m ms name f g (inl e) = f e
none_closes m ms name f g (inr h) = g h

-- a group that closes statements closes those alone
closing_others : (names : List (List ℕ)) (name : List ℕ) → AllByRecursion (λ other. name ≢ other) names → IsClosedBy (closing names) name → ⊥
closing_others [] name h c = none_closes Sync [] name (λ e. cc) (λ z. z) c
closing_others (other ∷ names) name h c = none_closes (CloseStatement other) (closing names) name (λ e. h.0 (let same : other ≡ name = cc in sym same)) (λ z. closing_others names name h.1 z) c

-- no other exchange closes one
abbrev ClosesSome : Call → Type 0
ClosesSome (calls.Evict v) = Unit {0}
ClosesSome (calls.CloseAll statements) = Unit {0}
ClosesSome _ = ⊥

query_spares : (n : Named) (sql : List ℕ) → Spares n (Query sql ∷ [])
query_spares n sql c = none_closes (Query sql) [] n.name (λ e. cc) (λ z. z) c

-- nor is one in a copy from the client
data_closes : (n : Named) (pieces : List (List ℕ)) (ended : Bool) → IsClosedBy (map CopyData pieces ++ ended_by ended) n.name → ⊥
data_closes n [] true c = none_closes CopyDone [] n.name (λ e. cc) (λ z. z) c
data_closes n [] false c = c
data_closes n (piece ∷ pieces) ended c = none_closes (CopyData piece) (map CopyData pieces ++ ended_by ended) n.name (λ e. cc) (data_closes n pieces ended) c

feed_spares : (n : Named) (sql : List ℕ) (pieces : List (List ℕ)) (ended : Bool) → Spares n (Query sql ∷ (map CopyData pieces ++ ended_by ended))
feed_spares n sql pieces ended c = none_closes (Query sql) (map CopyData pieces ++ ended_by ended) n.name (λ e. cc) (data_closes n pieces ended) c

pub spares_asked : (n : Named) (d : ℕ) (call : Call) → (ClosesSome call → ⊥) → AllByRecursion (Spares n) (groups_of (request_of d call))
spares_asked n d (calls.Execute query) h = (query_spares n query.sql, tt)
spares_asked n d (calls.ExecuteMany query) h = (query_spares n query.sql, tt)
spares_asked n d (calls.Fetch query) h = (query_spares n query.sql, tt)
spares_asked n d (calls.FetchMany query) h = (query_spares n query.sql, tt)
spares_asked n d (calls.FetchAll query) h = (query_spares n query.sql, tt)
spares_asked n d (calls.FetchOptional query) h = (query_spares n query.sql, tt)
spares_asked n d (calls.FetchOne query) h = (query_spares n query.sql, tt)
spares_asked n d calls.Ping h = (λ c. none_closes Sync [] n.name (λ e. cc) (λ z. z) c, tt)
spares_asked n d (calls.CopyOut query) h = (query_spares n query.sql, tt)
spares_asked n d (calls.Feed fed) h = (feed_spares n fed.sql fed.pieces fed.is_ended, tt)
spares_asked n d calls.Flush h = tt
spares_asked n d (calls.Chain chain) h = tt
spares_asked n d calls.Begin h = (query_spares n (begin_text None d), tt)
spares_asked n d (calls.BeginWith query) h = (query_spares n query.sql, tt)
spares_asked n zero calls.Commit h = tt
spares_asked n (suc left) calls.Commit h = (query_spares n (commit_text left), tt)
spares_asked n zero calls.Rollback h = tt
spares_asked n (suc left) calls.Rollback h = (query_spares n (rollback_text left), tt)
spares_asked n d calls.StartRollback h = tt
spares_asked n d (calls.Release text) h = tt
spares_asked n d (calls.Describe x) h =
    (λ c. none_closes (Parse (name_of x.statement) x.sql x.arguments.types) (DescribeStatement (name_of x.statement) ∷ Sync ∷ []) n.name (λ e. cc) (λ z. none_closes (DescribeStatement (name_of x.statement)) (Sync ∷ []) n.name (λ e. cc) (λ y. none_closes Sync [] n.name (λ e. cc) (λ w. w) y) z) c, tt)
spares_asked n d (calls.Run bound) h = (by bound.again, tt)
  where
    binds : IsClosedBy (running (name_of bound.statement) bound.arguments.values 0) n.name → ⊥
    binds c = none_closes (Bind (name_of bound.statement) bound.arguments.values) (Execute [] 0 ∷ ClosePortal [] ∷ Sync ∷ []) n.name (λ e. cc) (λ z. none_closes (Execute [] 0) (ClosePortal [] ∷ Sync ∷ []) n.name (λ e. cc) (λ y. none_closes (ClosePortal []) (Sync ∷ []) n.name (λ e. cc) (λ w. none_closes Sync [] n.name (λ e. cc) (λ v. v) w) y) z) c

    by : (again : Option (List ℕ)) → IsClosedBy (parsing_by (name_of bound.statement) bound.arguments.types again ++ running (name_of bound.statement) bound.arguments.values 0) n.name → ⊥
    by None c = binds c
    by (Some sql) c = none_closes (Parse (name_of bound.statement) sql bound.arguments.types) (running (name_of bound.statement) bound.arguments.values 0) n.name (λ e. cc) binds c
spares_asked n d (calls.Prepare p) h = tt
spares_asked n d calls.Clear h = tt
spares_asked n d (calls.Evict v) h = absurd (h tt)
spares_asked n d (calls.Look l) h = (query_spares n l.text, tt)
spares_asked n d (calls.Fill filling) h = (query_spares n filling.text, tt)
spares_asked n d (calls.Tell prepared) h = tt
spares_asked n d (calls.CloseAll statements) h = absurd (h tt)

-- what is queued of them is a front of them
pub front_each_group : (P : Group → Type 0) (end : End) (whole own : List Group) → Queues end whole own → AllByRecursion P whole → AllByRecursion P own
front_each_group P (ends.Ok answer) whole own q h = subst (AllByRecursion P) (sym q) h
front_each_group P (ends.Err e) whole own q h = (all_split P own q.0 (subst (AllByRecursion P) (sym q.1) h)).0
front_each_group P ends.Dropped whole own q h = (all_split P own q.0 (subst (AllByRecursion P) (sym q.1) h)).0

rolls_spare : (n : Named) (left : ℕ) → AllByRecursion (Spares n) (rollback left ∷ [])
rolls_spare n left = (query_spares n (rollback_text left), tt)

-- no cleanup closes one
pub cleanup_spares : (n : Named) (d : ℕ) (call : Call) (end : End) (own : List Group) (owed : ℕ) → AllByRecursion (Spares n) (cleanup_of d call end own owed)
cleanup_spares n d call end own owed = by (acts_at_once call) refl
  where
    polled : (own : List Group) → AllByRecursion (Spares n) (cleanup_by d call (is_fine end) own)
    polled [] = tt
    polled (g ∷ gs) = rolls (begins call && (nat_eq d 0 && not (is_fine end)))
      where
        rolls : (b : Bool) → AllByRecursion (Spares n) (cond b (rollback 0 ∷ []) [])
        rolls true = rolls_spare n 0
        rolls false = tt

    rolled : (d : ℕ) → AllByRecursion (Spares n) (rollback_at d owed)
    rolled zero = tt
    rolled (suc left) = one (ltb owed (2 ^ 64 - 1))
      where
        one : (b : Bool) → AllByRecursion (Spares n) (cond b (rollback left ∷ []) [])
        one true = rolls_spare n left
        one false = tt

    released : (text : List ℕ) → AllByRecursion (Spares n) (release_at text owed)
    released text = one (ltb owed (2 ^ 64 - 1))
      where
        one : (b : Bool) → AllByRecursion (Spares n) (cond b (release text ∷ []) [])
        one true = (query_spares n text, tt)
        one false = tt

    acts : (c : Call) → acts_at_once c ≡ true → AllByRecursion (Spares n) (cleanup_of d c end own owed)
    acts calls.StartRollback e = rolled d
    acts (calls.Release text) e = released text
    acts _ e = absurd cc

    by : (b : Bool) → acts_at_once call ≡ b → AllByRecursion (Spares n) (cleanup_of d call end own owed)
    by false e = subst (AllByRecursion (Spares n)) (sym (cleanup_polled d call end own owed e)) (polled own)
    by true e = acts call e

-- ---- from one place to the next

-- more is queued that doesn't close it, and more is heard
pub kept_further : (at next : Place) (e : Entry) (own : List Group) (slice : List Frame) → IsKeptAt at e → AllByRecursion (Spares (named_of e)) own → next.groups ≡ at.groups ++ own → heard next.frames ≡ heard at.frames ++ slice → IsKeptAt next e
kept_further at next e own slice k spared groups frames =
    let more = after_further (heard at.frames) slice (length k.before) (omega (arith, k.read)) in
    record {
      before = k.before;
      later = k.later ++ own;
      types = k.types;
      groups = groups ∙ ap (λ (g : List Group). g ++ own) k.groups ∙ append_assoc k.before (describing (name_of e.statement) e.sql k.types ∷ k.later) own;
      spared = each_join (Spares (named_of e)) k.later own k.spared spared;
      told = k.told;
      more = k.more ++ slice;
      answered = ap (after_readys (length k.before)) frames ∙ more ∙ ap (λ (f : List Frame). f ++ slice) k.answered ∙ append_assoc (map backend_frame k.told) k.more slice;
      read = omega (arith, k.read, ap (λ (f : List Frame). count_by is_ready f) frames, readies-append (heard at.frames) slice);
      ends = k.ends;
      has_frames = k.has_frames;
      well = k.well;
      columns = k.columns;
    }

-- each of them is kept on
all_further : (at next : Place) (own : List Group) (slice : List Frame) (es : List Entry) → ((e : Entry) → AllByRecursion (Spares (named_of e)) own) → next.groups ≡ at.groups ++ own → heard next.frames ≡ heard at.frames ++ slice → AllByRecursion (IsKeptAt at) es → AllByRecursion (IsKeptAt next) es
all_further at next own slice es spared groups frames h = each_by (IsKeptAt at) (IsKeptAt next) (λ e k. kept_further at next e own slice k (spared e) groups frames) es h

-- Those that an exchange leaves are kept at the place behind it: it closes none of them.
pub record LeavesKept (at next : Place) (rule : Rule) : Type 0 where
  pub orderly : IsOrderly rule
  pub kept : AllByRecursion (IsKeptAt next) (all_kept rule)

has_none : (own : List Group) → has_group own ≡ false → own ≡ []
has_none [] e = refl
has_none (g ∷ gs) e = absurd cc

-- an end that isn't Ok, and queued nothing, moved nothing
unmoved_none : (own : List Group) (end : End) → has_moved own end ≡ false → own ≡ []
unmoved_none own end e = by (is_fine end) e
  where
    by : (b : Bool) → b || has_group own ≡ false → own ≡ []
    by true h = absurd cc
    by false h = has_none own h

-- what is queued of a group that closes statements, where those stay that it doesn't close
closes_further : (at next : Place) (names : List (List ℕ)) (own cleanup : List Group) (slice : List Frame) (es : List Entry) → (own ≡ []) ⊎ (own ≡ closing names ∷ []) → ((n : Named) → AllByRecursion (Spares n) cleanup)
    → AllByRecursion (λ e. AllByRecursion (λ other. name_of e.statement ≢ other) names) es → next.groups ≡ at.groups ++ (own ++ cleanup) → heard next.frames ≡ heard at.frames ++ slice → AllByRecursion (IsKeptAt at) es → AllByRecursion (IsKeptAt next) es
closes_further at next names own cleanup slice es is cleans apart groups frames h =
    each_by (λ e. IsKeptAt at e × AllByRecursion (λ other. name_of e.statement ≢ other) names) (IsKeptAt next)
    (λ e k. kept_further at next e (own ++ cleanup) slice k.0 (each_join (Spares (named_of e)) own cleanup (own_spares e k.1 is) (cleans (named_of e))) groups frames) es
    (each_two (IsKeptAt at) (λ e. AllByRecursion (λ other. name_of e.statement ≢ other) names) es h apart)
  where
    own_spares : (e : Entry) → AllByRecursion (λ other. name_of e.statement ≢ other) names → (own ≡ []) ⊎ (own ≡ closing names ∷ []) → AllByRecursion (Spares (named_of e)) own
    own_spares e a (inl none) = subst (AllByRecursion (Spares (named_of e))) (sym none) tt
    own_spares e a (inr one) = subst (AllByRecursion (Spares (named_of e))) (sym one) ((λ c. closing_others names (name_of e.statement) a c), tt)

-- at most one group is asked, and it is queued or not
one_or_none : (end : End) (group : Group) (own : List Group) → Queues end (group ∷ []) own → (own ≡ []) ⊎ (own ≡ group ∷ [])
one_or_none (ends.Ok answer) group own q = inr q
one_or_none (ends.Err e) group own q = prefix own q.0 q.1
  where
    prefix : (own more : List Group) → own ++ more ≡ group ∷ [] → (own ≡ []) ⊎ (own ≡ group ∷ [])
    prefix [] more h = inl refl
    prefix (g ∷ []) more h = let same : g ≡ group = cc in inr (ap (λ (x : Group). x ∷ []) same)
    prefix (g ∷ k ∷ gs) more h = absurd cc
one_or_none ends.Dropped group own q = prefix own q.0 q.1
  where
    prefix : (own more : List Group) → own ++ more ≡ group ∷ [] → (own ≡ []) ⊎ (own ≡ group ∷ [])
    prefix [] more h = inl refl
    prefix (g ∷ []) more h = let same : g ≡ group = cc in inr (ap (λ (x : Group). x ∷ []) same)
    prefix (g ∷ k ∷ gs) more h = absurd cc

-- what becomes of the statements, before one is held
pub leaves_statements : (at next : Place) (call : Call) (end : End) (own cleanup : List Group) (slice : List Frame) (rule : Rule) → Queues end (groups_of (request_of at.rule.depth call)) own → ((n : Named) → AllByRecursion (Spares n) cleanup) → IsSound rule call
    → next.groups ≡ at.groups ++ (own ++ cleanup) → heard next.frames ≡ heard at.frames ++ slice → IsOrderly rule → AllByRecursion (IsKeptAt at) (all_kept rule) → LeavesKept at next (statements_after (keeping_of (request_of at.rule.depth call)) (has_moved own end) rule)
leaves_statements at next call end own cleanup slice rule q cleans sound groups frames o h = record {
  orderly = statements_orderly (keeping_of (request_of at.rule.depth call)) (has_moved own end) rule o;
  kept = kept_by call sound q;
}
  where
    same : (call : Call) → AllByRecursion (IsKeptAt at) (all_kept (statements_after (keeping_of (request_of at.rule.depth call)) (has_moved own end) rule))
    same call = statements_each (IsKeptAt at) (keeping_of (request_of at.rule.depth call)) (has_moved own end) rule h

    others : (call : Call) → (ClosesSome call → ⊥) → Queues end (groups_of (request_of at.rule.depth call)) own → AllByRecursion (IsKeptAt next) (all_kept (statements_after (keeping_of (request_of at.rule.depth call)) (has_moved own end) rule))
    others call n q =
        all_further at next (own ++ cleanup) slice (all_kept (statements_after (keeping_of (request_of at.rule.depth call)) (has_moved own end) rule))
        (λ e. each_join (Spares (named_of e)) own cleanup (front_each_group (Spares (named_of e)) end (groups_of (request_of at.rule.depth call)) own q (spares_asked (named_of e) at.rule.depth call n)) (cleans (named_of e))) groups frames (same call)

    -- nothing was queued, and nothing became of them
    idle : (es : List Entry) → own ≡ [] → AllByRecursion (IsKeptAt at) es → AllByRecursion (IsKeptAt next) es
    idle es none k = all_further at next (own ++ cleanup) slice es (λ e. each_join (Spares (named_of e)) own cleanup (subst (AllByRecursion (Spares (named_of e))) (sym none) tt) (cleans (named_of e))) groups frames k

    evicts : (v : Eviction) → ClosesNone rule v → Queues end (groups_of (requests.Evict v)) own → (b : Bool) → has_moved own end ≡ b → AllByRecursion (IsKeptAt next) (all_kept (statements_after keepings.Evicts b rule))
    evicts v s q true m = closes_further at next (name_of v.statement ∷ []) own cleanup slice (kept rule).cache.entries (one_or_none end (closing (name_of v.statement ∷ [])) own q) cleans
        (each_by (λ e. name_of e.statement ≢ name_of v.statement) (λ e. AllByRecursion (λ other. name_of e.statement ≢ other) (name_of v.statement ∷ [])) (λ e k. (k, tt)) (kept rule).cache.entries s.gone) groups frames (moved_each (IsKeptAt at) keepings.Evicts rule h)
    evicts v s q false m = idle (all_kept (forgotten rule)) (unmoved_none own end m) (unmoved_each (IsKeptAt at) keepings.Evicts rule h)

    clears : (b : Bool) → has_moved own end ≡ b → AllByRecursion (IsKeptAt next) (all_kept (statements_after keepings.Clears b rule))
    clears true m = tt
    clears false m = idle (all_kept rule) (unmoved_none own end m) h

    kept_by : (call : Call) → IsSound rule call → Queues end (groups_of (request_of at.rule.depth call)) own → AllByRecursion (IsKeptAt next) (all_kept (statements_after (keeping_of (request_of at.rule.depth call)) (has_moved own end) rule))
    kept_by (calls.Evict v) s q = evicts v s q (has_moved own end) refl
    kept_by (calls.CloseAll statements) s q = clears (has_moved own end) refl
    kept_by (calls.Execute query) s q = others (calls.Execute query) (λ z. z) q
    kept_by (calls.ExecuteMany query) s q = others (calls.ExecuteMany query) (λ z. z) q
    kept_by (calls.Fetch query) s q = others (calls.Fetch query) (λ z. z) q
    kept_by (calls.FetchMany query) s q = others (calls.FetchMany query) (λ z. z) q
    kept_by (calls.FetchAll query) s q = others (calls.FetchAll query) (λ z. z) q
    kept_by (calls.FetchOptional query) s q = others (calls.FetchOptional query) (λ z. z) q
    kept_by (calls.FetchOne query) s q = others (calls.FetchOne query) (λ z. z) q
    kept_by calls.Ping s q = others calls.Ping (λ z. z) q
    kept_by (calls.CopyOut query) s q = others (calls.CopyOut query) (λ z. z) q
    kept_by (calls.Feed fed) s q = others (calls.Feed fed) (λ z. z) q
    kept_by calls.Flush s q = others calls.Flush (λ z. z) q
    kept_by (calls.Chain chain) s q = others (calls.Chain chain) (λ z. z) q
    kept_by calls.Begin s q = others calls.Begin (λ z. z) q
    kept_by (calls.BeginWith query) s q = others (calls.BeginWith query) (λ z. z) q
    kept_by calls.Commit s q = others calls.Commit (λ z. z) q
    kept_by calls.Rollback s q = others calls.Rollback (λ z. z) q
    kept_by calls.StartRollback s q = others calls.StartRollback (λ z. z) q
    kept_by (calls.Release text) s q = others (calls.Release text) (λ z. z) q
    kept_by (calls.Describe x) s q = others (calls.Describe x) (λ z. z) q
    kept_by (calls.Run bound) s q = others (calls.Run bound) (λ z. z) q
    kept_by (calls.Prepare p) s q = others (calls.Prepare p) (λ z. z) q
    kept_by calls.Clear s q = others calls.Clear (λ z. z) q
    kept_by (calls.Tell prepared) s q = others (calls.Tell prepared) (λ z. z) q
    kept_by (calls.Look l) s q = others (calls.Look l) (λ z. z) q
    kept_by (calls.Fill filling) s q = others (calls.Fill filling) (λ z. z) q
