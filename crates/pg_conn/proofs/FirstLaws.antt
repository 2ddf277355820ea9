-- Which calls begin by looking up what they ask first, and how their first poll ends where that fails.
use Rattle.std.proofs.lemmas.Option.{same_Some}
use Rattle.std.proofs.Common.{◌≡◌, ◌≢◌, ◌⊎◌, ℕ, inl, inr, refl, sym, ap, ◌∙◌, subst, Bool, true, false, cond, nat_eq, not, ◌&&◌, ◌==◌, List, [], ◌∷◌, length, Option, Some, None, is_some, unwrap_or, option_map, Result, Ok, Err, IfErr, OnOk}
use Rattle.pg_learning.specs.Telling.{learnt_columns}
use Rattle.pg_wire.proofs.Tests.{both_true}
use Rattle.futures.specs.declared.task.Poll.{Poll}
use Rattle.futures.specs.declared.task.Poll.TheVariants.{Ready}
use Rattle.pg_wire.specs.declared.error.Error.{Error}
use Rattle.pg_wire.specs.declared.error.Error.TheVariants as errors
use Rattle.pg_wire.specs.declared.error.ServerFault.{ServerFault}
use Rattle.pg_columns.specs.declared.column.PgColumn.{PgColumn}
use Rattle.pg_request.specs.declared.naming.Declared.{Declared}
use Rattle.pg_arguments.specs.Arguments.{Arguments}
use Rattle.pg_request.specs.Asked.{declared_names, filled_by}
use Rattle.pg_request.specs.Queries.{ArgumentsSeen, QueryText}
use Rattle.pg_rule.specs.Caches.{entry_at}
use Rattle.pg_rule.specs.declared.cache.Entry.{Entry}
use Rattle.pg_rule.specs.declared.rule.Rule.{Rule}
use Rattle.pg_rows.specs.Rows.{RowSeen}
use Rattle.pg_call.specs.declared.answer.CallItem.TheVariants.{Row}
use Rattle.pg_call.specs.declared.answer.Turn.{Turn}
use Rattle.pg_call.specs.declared.answer.Turn.TheVariants as turns
use Rattle.pg_call.specs.declared.calling.Beat.{Beat}
use Rattle.pg_call.specs.declared.calling.Beat.TheVariants as beats
use Rattle.pg_call.specs.declared.calling.Call.{Call}
use Rattle.pg_call.specs.declared.calling.Call.TheVariants as calls
use Rattle.pg_call.specs.declared.kind.How.{How}
use Rattle.pg_call.specs.declared.kind.How.TheVariants as hows
use Rattle.pg_call.specs.declared.kind.Keeping.{Keeping}
use Rattle.pg_call.specs.declared.kind.Keeping.TheVariants as keepings
use Rattle.pg_call.specs.declared.request.Request.{Request}
use Rattle.pg_call.specs.declared.request.Request.TheVariants as requests
use Rattle.pg_call.specs.declared.statement.Described.{Described}
use Rattle.pg_call.specs.declared.statement.Extended.{Extended}
use Rattle.pg_call.specs.declared.statement.Goal.{Goal}
use Rattle.pg_call.specs.declared.statement.Goal.TheVariants as goals
use Rattle.pg_call.specs.declared.statement.Bound.{Bound}
use Rattle.pg_call.specs.declared.statement.Prepared.{Prepared}
use Rattle.pg_call.specs.Hearing.{IsReplied, asked_in, without_asked}
use Rattle.pg_call.specs.Requests.{CanBeSaid, IsRefusal, behind_goal, bound_by, bound_for, declared_for, filled_bound, filled_for, numbered_by, raw, request_behind, with_columns}
use Rattle.pg_learning.specs.declared.learnt.Learnt.{Learnt}
use Rattle.pg_learning.specs.Learning.{FailsSeeking}
use Rattle.pg_resolve.specs.Cached.{CacheSeen}
use Rattle.pg_learning.specs.Naming.{oids_under, unknown_name}
use Rattle.pg_stream.specs.Links.{LinkSeen}
use Rattle.pg_conn.specs.Connections.{ConnOf, ConnSeen, IsUnresolved, begun_with, cleaned, ends_copy, handed, idle, resolved, resolved_by, seen_by, unfed}
use Rattle.pg_conn.specs.Looking.{AsksFirst, AsksNamed, AsksNext, FailsFirst, IsFound, IsUnlooked, LooksAny, LooksFor, LooksIn, LooksBehind, LooksNamed, LooksUp, MayLook, MayLookFor, MissesName, RefusesFirst, UnlooksFirst, asks_by, asks_names, asks_query, has_names, holes_for, if_kept, if_named, is_kept, lookup_for, named_by, named_in, unlooked, vain_lookup, wanted_in, telling, described_with}
use Rattle.pg_conn.specs.Statements.{asked_by, behind_description, by_leaving, leaving, prepare_by, query_by, run_or_describe, tell_or_describe}
use Rattle.pg_conn.specs.Turns.{EndsFlush, IsAsked, IsSayable, Polled, PollsBy, PollsCall, PollsOn, PollsThrough, Refused, Refuses, RefusesNamed, ShowsAtOnce, broken_by, flushes}
use Rattle.pg_conn.proofs.RefusalLaws.{refusal_breaks_none}
use Rattle.pg_conn.proofs.StateLaws.{first_keeps, named_asked, unasked_lookup}
use Rattle.pg_conn.proofs.TurnLaws.{refused, refused_now, seen_cleaned, unlooks}

-- ---- which calls do

no_and : (b : Bool) → b && false ≡ false
no_and true = refl
no_and false = refl

named_if : (told : Request) (names : List Declared) → is_some (if_named told names None) ≡ has_names names
named_if told [] = refl
named_if told (name ∷ names) = refl

undescribed_named : (told : Request) (names : List Declared) → is_some (if_named told names None) ≡ has_names names && true
undescribed_named told [] = refl
undescribed_named told (name ∷ names) = refl

run_named : (rule : Rule) (how : How) (sql : List ℕ) (arguments : ArgumentsSeen) (persistent : Bool) (o : Option Entry)
    → is_some (named_in (run_or_describe rule how sql arguments persistent o)) ≡ asks_query (Some arguments) o
run_named rule how sql arguments persistent (Some e) = named_if (run_or_describe rule how sql arguments persistent (Some e)) arguments.holes
run_named rule how sql arguments persistent None = named_if (run_or_describe rule how sql arguments persistent None) arguments.names

none_asked : (o : Option Entry) → asks_query None o ≡ false
none_asked None = refl
none_asked (Some e) = refl

raw_unnamed : (how : How) (query : QueryText) → is_some (named_in (raw how query)) ≡ false
raw_unnamed hows.Execute query = refl
raw_unnamed hows.ExecuteMany query = refl
raw_unnamed hows.Fetch query = refl
raw_unnamed hows.FetchMany query = refl
raw_unnamed hows.FetchAll query = refl
raw_unnamed hows.FetchOptional query = refl
raw_unnamed hows.FetchOne query = refl

query_named : (rule : Rule) (how : How) (query : QueryText) (o : Option ArgumentsSeen)
    → is_some (named_in (query_by rule how query o (raw how query))) ≡ asks_query o (entry_at query.sql rule.cache.entries)
query_named rule how query None = raw_unnamed how query ∙ sym (none_asked (entry_at query.sql rule.cache.entries))
query_named rule how query (Some arguments) = run_named rule how query.sql arguments query.persistent (entry_at query.sql rule.cache.entries)

tell_named : (rule : Rule) (p : Prepared) (o : Option Entry) → is_some (named_in (tell_or_describe rule p o)) ≡ has_names (declared_names (declared_for p)) && not (is_some o)
tell_named rule p (Some e) = sym (no_and (has_names (declared_names (declared_for p))))
tell_named rule p None =
    undescribed_named (tell_or_describe rule p None) (declared_names (declared_for p))

prepare_named : (rule : Rule) (p : Prepared) (o : Option (List PgColumn))
    → is_some (named_in (prepare_by rule p o)) ≡ has_names (declared_names (declared_for p)) && (not (is_some o) && not (is_some (entry_at p.sql rule.cache.entries)))
prepare_named rule p (Some columns) = sym (no_and (has_names (declared_names (declared_for p))))
prepare_named rule p None = tell_named rule p (entry_at p.sql rule.cache.entries)

prepare_unnamed : (rule : Rule) (p : Prepared) (o : Option (List PgColumn)) → p.declared ≡ None → is_some (named_in (prepare_by rule p o)) ≡ false
prepare_unnamed rule p o e = prepare_named rule p o ∙ ap (λ (d : Option (List Declared)). has_names (declared_names (unwrap_or d [])) && (not (is_some o) && not (is_some (entry_at p.sql rule.cache.entries)))) e

-- what is run so isn't kept yet
bound_unnamed : (filling : Option (List ℕ)) (bound : Bound) → if_kept bound.keeping bound ≡ None → is_some (named_in (request_behind (bound_by filling bound))) ≡ false
bound_unnamed None bound n = ap (λ (o : Option Request). is_some o) n
bound_unnamed (Some text) bound n = refl

goal_unnamed : (goal : Goal) (x : Extended) (d : Described) (keeping : Keeping) → ((bound : Bound) → if_kept keeping bound ≡ None) → is_some (named_in (request_behind (behind_goal goal x d keeping))) ≡ false
goal_unnamed (goals.Run how) x d keeping n = bound_unnamed x.filling (bound_for how x d keeping) (n (bound_for how x d keeping))
goal_unnamed goals.Prepare x d keeping n = refl

leaving_unnamed : (x : Extended) (d : Described) (o : Option ℕ) → is_some (named_in (by_leaving x d o)) ≡ false
leaving_unnamed x d (Some number) = refl
leaving_unnamed x d None = goal_unnamed x.goal x d keepings.Puts (λ bound. refl)

behind_unnamed : (rule : Rule) (x : Extended) (d : Described) → is_some (named_in (behind_description rule x (Some d))) ≡ false
behind_unnamed rule x d = by (nat_eq x.statement 0)
  where
    by : (b : Bool) → is_some (named_in (cond b (request_behind (behind_goal x.goal x d keepings.Stays)) (by_leaving x d (option_map (λ (e : Entry). e.statement) (leaving rule))))) ≡ false
    by true = goal_unnamed x.goal x d keepings.Stays (λ bound. refl)
    by false = leaving_unnamed x d _

described_named : (rule : Rule) (x : Extended) (d : Option Described) → x.described ≡ d → is_some (named_in (behind_description rule x d)) ≡ has_names x.arguments.names && not (is_some d)
described_named rule x (Some d) e = behind_unnamed rule x d ∙ sym (no_and (has_names x.arguments.names))
described_named rule x None e = ap (λ (d : Option Described). is_some (if_named (requests.Describe x) x.arguments.names d)) e ∙ undescribed_named (requests.Describe x) x.arguments.names

first_named : (rule : Rule) (r : Request) → is_some (named_in (asked_by rule r)) ≡ asks_names rule r
first_named rule (requests.Execute query) = query_named rule hows.Execute query query.arguments
first_named rule (requests.ExecuteMany query) = query_named rule hows.ExecuteMany query query.arguments
first_named rule (requests.Fetch query) = query_named rule hows.Fetch query query.arguments
first_named rule (requests.FetchMany query) = query_named rule hows.FetchMany query query.arguments
first_named rule (requests.FetchAll query) = query_named rule hows.FetchAll query query.arguments
first_named rule (requests.FetchOptional query) = query_named rule hows.FetchOptional query query.arguments
first_named rule (requests.FetchOne query) = query_named rule hows.FetchOne query query.arguments
first_named rule (requests.Describe x) = described_named rule x x.described refl
first_named rule (requests.Prepare p) = prepare_named rule p p.columns
first_named rule (requests.Run bound) = kept_named bound.keeping bound
  where
    kept_named : (keeping : Keeping) (bound : Bound) → is_some (if_kept keeping bound) ≡ is_kept keeping && has_names bound.arguments.holes
    kept_named (keepings.Hits number) bound = named_if (requests.Run bound) bound.arguments.holes
    kept_named keepings.Stays bound = refl
    kept_named keepings.Draws bound = refl
    kept_named keepings.Puts bound = refl
    kept_named keepings.Evicts bound = refl
    kept_named keepings.Clears bound = refl
first_named rule _ = refl

pub asks_named : {A : Type 0} (c : ConnOf A) → is_some (named_by (resolved c).call) ≡ asks_by c.rule c.call
asks_named c = by c.call refl
  where
    by : (call : Call) → c.call ≡ call → is_some (named_by (resolved_by call c).call) ≡ asks_by c.rule call
    by (calls.Asked r) e = first_named c.rule r
    by _ e = ap (λ (k : Call). is_some (named_by k)) e

-- ---- what is handed on, and looked up for it, does not

abbrev pub IsHanded : Request → Type 0
IsHanded (requests.Describe x) = Unit {0}
IsHanded (requests.Run bound) = Unit {0}
IsHanded (requests.Fill filling) = Unit {0}
IsHanded (requests.Prepare p) = p.declared ≡ None
IsHanded _ = ⊥

none_of : (o : Option Request) → is_some o ≡ false → o ≡ None
none_of None e = refl
none_of (Some told) e = absurd cc

no_names : (told : Request) (names : List Declared) (d : Option Described) → names ≡ [] → if_named told names d ≡ None
no_names told names d e = ap (λ (ns : List Declared). if_named told ns d) e

undescribed_unnamed : (rule : Rule) (x : Extended) → x.described ≡ None → x.arguments.names ≡ [] → named_in (asked_by rule (requests.Describe x)) ≡ None
undescribed_unnamed rule x e n = ap (λ (o : Option Described). named_in (behind_description rule x o)) e ∙ no_names (requests.Describe x) x.arguments.names x.described n

described_unnamed : (rule : Rule) (x : Extended) (d : Described) → x.described ≡ Some d → named_in (asked_by rule (requests.Describe x)) ≡ None
described_unnamed rule x d e = ap (λ (o : Option Described). named_in (behind_description rule x o)) e ∙ none_of (named_in (behind_description rule x (Some d))) (behind_unnamed rule x d)

-- what is run without open OIDs
holes_unnamed : (bound : Bound) → bound.arguments.holes ≡ [] → named_in (requests.Run bound) ≡ None
holes_unnamed bound n = by bound.keeping
  where
    by : (keeping : Keeping) → if_kept keeping bound ≡ None
    by (keepings.Hits number) = no_names (requests.Run bound) bound.arguments.holes None n
    by keepings.Stays = refl
    by keepings.Draws = refl
    by keepings.Puts = refl
    by keepings.Evicts = refl
    by keepings.Clears = refl

none_filled : (oids : List ℕ) (seen : ArgumentsSeen) (o : Option Arguments) → (filled_by oids o seen).holes ≡ []
none_filled oids seen None = refl
none_filled oids seen (Some a) = refl

lookup_unnamed : (rule : Rule) (told : Request) (text : List ℕ) → MayLook told → named_in (asked_by rule (lookup_for told text)) ≡ None
lookup_unnamed rule (requests.Describe x) text may = refl
lookup_unnamed rule (requests.Run bound) text may = refl
lookup_unnamed rule _ text may = absurd may

vain_unnamed : (rule : Rule) (told : Request) → MayLook told → named_in (asked_by rule (vain_lookup told)) ≡ None
vain_unnamed rule (requests.Describe x) may = refl
vain_unnamed rule (requests.Run bound) may = refl
vain_unnamed rule _ may = absurd may

found_unnamed : (rule : Rule) (names : List Declared) (looks knows : List ℕ → Request) (b : Learnt) (text : Option (List ℕ)) (next : Request)
    → ((t : List ℕ) → named_in (asked_by rule (looks t)) ≡ None) → ((oids : List ℕ) → named_in (asked_by rule (knows oids)) ≡ None) → IsFound names looks knows b text next → named_in (asked_by rule next) ≡ None
found_unnamed rule names looks knows b (Some text) next l k h = ap (λ (r : Request). named_in (asked_by rule r)) h ∙ l text
found_unnamed rule names looks knows b None next l k h = ap (λ (r : Request). named_in (asked_by rule r)) h.1 ∙ k (oids_under b.types names)

any_unnamed : (rule : Rule) (looked : Bool) (names : List Declared) (told : Request) (looks knows : List ℕ → Request) (a b : Learnt) (next : Request)
    → ((t : List ℕ) → named_in (asked_by rule (looks t)) ≡ None) → ((oids : List ℕ) → named_in (asked_by rule (knows oids)) ≡ None) → (names ≡ [] → named_in (asked_by rule told) ≡ None)
    → LooksAny looked names told looks knows a next b → named_in (asked_by rule next) ≡ None
any_unnamed rule looked [] told looks knows a b next l k n h = ap (λ (r : Request). named_in (asked_by rule r)) h.0 ∙ n refl
any_unnamed rule looked (name ∷ names) told looks knows a b next l k n h = found_unnamed rule (name ∷ names) looks knows b h.0 next l k h.2

for_unnamed : (rule : Rule) (x : Extended) (o : Option Described) (next : Request) (a b : Learnt) → x.described ≡ o → LooksFor x o a next b → named_in (asked_by rule next) ≡ None
for_unnamed rule x None next a b e h =
    any_unnamed rule x.is_looked_up x.arguments.names (requests.Describe x) (lookup_for (requests.Describe x)) (λ (oids : List ℕ). requests.Describe (numbered_by oids x)) a b next
    (λ t. refl) (λ oids. undescribed_unnamed rule (numbered_by oids x) e refl) (λ n. undescribed_unnamed rule x e n) h
for_unnamed rule x (Some d) next a b e (text, m, seeks, h) = by text h
  where
    y : Extended
    y = telling m x

    tells : y.described ≡ Some (described_with m d)
    tells = ap (option_map (described_with m)) e

    by : (text : Option (List ℕ)) → LooksBehind x text m next b → named_in (asked_by rule next) ≡ None
    by (Some text) h = ap (λ (r : Request). named_in (asked_by rule r)) h.0
    by None h =
        any_unnamed rule false (holes_for x.goal x.arguments) (requests.Describe y) (λ (text : List ℕ). requests.Describe (record y { filling = Some text })) (λ (oids : List ℕ). requests.Describe (filled_for oids y)) m b next
        (λ t. described_unnamed rule (record y { filling = Some t }) (described_with m d) tells) (λ oids. described_unnamed rule (filled_for oids y) (described_with m d) tells) (λ n. described_unnamed rule y (described_with m d) tells) h

pub handed_unnamed : (rule : Rule) (told next : Request) (a b : Learnt) → IsHanded told → LooksUp told a next b → named_in (asked_by rule next) ≡ None
handed_unnamed rule told next a b h (inr looks) = ap (λ (r : Request). named_in (asked_by rule r)) looks.1 ∙ vain_unnamed rule told looks.0
handed_unnamed rule told next a b h (inl looks) = by told h looks
  where
    by : (told : Request) → IsHanded told → LooksIn told a next b → named_in (asked_by rule next) ≡ None
    by (requests.Describe x) h looks = for_unnamed rule x x.described next a b refl looks
    by (requests.Run bound) h looks =
        any_unnamed rule bound.is_looked_up bound.arguments.holes (requests.Run bound) (lookup_for (requests.Run bound)) (λ (oids : List ℕ). requests.Run (filled_bound oids bound)) a b next
        (λ t. refl) (λ oids. holes_unnamed (filled_bound oids bound) (none_filled oids bound.arguments bound.arguments.open_in)) (λ n. holes_unnamed bound n) looks
    by (requests.Fill filling) h looks = ap (λ (r : Request). named_in (asked_by rule r)) looks.0
    by (requests.Prepare p) h looks = ap (λ (r : Request). named_in (asked_by rule r)) looks.0 ∙ none_of (named_in (prepare_by rule p p.columns)) (prepare_unnamed rule p p.columns h)
    by _ h looks = absurd h

-- ---- what is asked then

some_of : (o : Option Request) → is_some o ≡ true → (told : Request) × (o ≡ Some told)
some_of None e = absurd cc
some_of (Some told) e = (told, refl)

pub asks_none : {A : Type 0} (a : ConnOf A) → asks_by a.rule a.call ≡ false → AsksFirst a a
asks_none a e = by (named_by (resolved a).call) (asks_named a ∙ e)
  where
    by : (o : Option Request) → is_some o ≡ false → AsksNamed o a a
    by None e = refl
    by (Some told) e = absurd cc

asked_is : (call : Call) (told : Request) → asked_in call ≡ Some told → call ≡ calls.Asked told
asked_is (calls.Asked r) told e = ap (λ (q : Request). calls.Asked q) (same_Some r told e)
asked_is _ told e = absurd cc

-- what stands as an exchange was taken out, and is asked as if it had been handed on
pub asks_some : {A : Type 0} (a c b : ConnOf A) (told : Request) → asks_by a.rule a.call ≡ true → asked_in (resolved a).call ≡ Some told → c ≡ record (resolved a) { call = without_asked (resolved a).call } → CanBeSaid told × ((next : Request) × AsksNext told c next b) → AsksFirst a b
asks_some {A} a c b told asks in_call is (can, (next, (learnt, looks, stands))) =
    let named = some_of (named_by (resolved a).call) (asks_named a ∙ asks) in
    by named.0 named.1
  where
    by : (r : Request) → named_by (resolved a).call ≡ Some r → AsksNamed (named_by (resolved a).call) a b
    by r n =
        let call = named_asked (resolved a).call r n in
        let same : r ≡ told = same_Some r told (subst (λ (q : Call). asked_in q ≡ Some told) call in_call) in
        let before : c.learnt ≡ (resolved a).learnt = ap (λ (d : ConnOf A). d.learnt) is in
        let looks_so = subst (λ (q : Request). LooksUp q (resolved a).learnt next learnt) (sym same) (subst (λ (l : Learnt). LooksUp told l next learnt) before looks) in
        subst (λ (o : Option Request). AsksNamed o a b) (sym n) (subst (λ (q : Request). CanBeSaid q) (sym same) can, (next, (learnt, looks_so, stands ∙ ap (λ (d : ConnOf A). handed next (record d { learnt = learnt })) is)))

pub asks_always : {A : Type 0} (a : ConnOf A) → asks_by a.rule a.call ≡ true → asked_in (resolved a).call ≡ None → ⊥
asks_always a asks none =
    let named = some_of (named_by (resolved a).call) (asks_named a ∙ asks) in
    differs named.0 (sym none ∙ ap asked_in (named_asked (resolved a).call named.0 named.1))
  where
    differs : (told : Request) → None ≡ Some told → ⊥
    differs told e = cc

-- and so is what no frame can say, or what can't be looked up
pub asks_fail : {A : Type 0} (a c b : ConnOf A) (told : Request) (e : Error) → asks_by a.rule a.call ≡ true → asked_in (resolved a).call ≡ Some told → c ≡ record (resolved a) { call = without_asked (resolved a).call }
    → (IsRefusal told e × (b ≡ cleaned c)) ⊎ (CanBeSaid told × MayLook told × ((m : ConnOf A) × IsUnlooked told c m e × (b ≡ unlooked m))) → FailsFirst a b e
asks_fail {A} a c b told e asks in_call is fails = (asks, inr (by fails))
  where
    idle_is : c ≡ idle (resolved a)
    idle_is = is ∙ ap (λ (q : Call). record (resolved a) { call = without_asked q }) (asked_is (resolved a).call told in_call)

    by : (IsRefusal told e × (b ≡ cleaned c)) ⊎ (CanBeSaid told × MayLook told × ((m : ConnOf A) × IsUnlooked told c m e × (b ≡ unlooked m)))
        → RefusesFirst (asked_in (resolved a).call) a b e ⊎ UnlooksFirst (asked_in (resolved a).call) a b e
    by (inl (refuses, stands)) = inl (subst (λ (o : Option Request). RefusesFirst o a b e) (sym in_call) (refuses, stands ∙ ap (λ (d : ConnOf A). cleaned d) idle_is))
    by (inr (can, may, (m, unlooks, stands))) = inr (subst (λ (o : Option Request). UnlooksFirst o a b e) (sym in_call) (can, may, (m, subst (λ (d : ConnOf A). IsUnlooked told d m e) idle_is unlooks, stands)))

-- so far as there is an answer
pub asks_ok : {A X E : Type 0} (result : Result X E) (a s c b : ConnOf A) (told : Request) → asks_by a.rule a.call ≡ true → s ≡ resolved a → asked_in s.call ≡ Some told → c ≡ record s { call = without_asked s.call }
    → OnOk result (CanBeSaid told × ((next : Request) × AsksNext told c next b)) → OnOk result (AsksFirst a b)
asks_ok {A} (Ok u) a s c b told asks is in_call taken h =
    asks_some a c b told asks (subst (λ (x : ConnOf A). asked_in x.call ≡ Some told) is in_call) (taken ∙ ap (λ (x : ConnOf A). record x { call = without_asked x.call }) is) h
asks_ok (Err e) a s c b told asks is in_call taken h = tt

pub asks_err : {A X : Type 0} (result : Result X Error) (a s c b : ConnOf A) (told : Request) → asks_by a.rule a.call ≡ true → s ≡ resolved a → asked_in s.call ≡ Some told → c ≡ record s { call = without_asked s.call }
    → IfErr result (λ e. (IsRefusal told e × (b ≡ cleaned c)) ⊎ (CanBeSaid told × MayLook told × ((m : ConnOf A) × IsUnlooked told c m e × (b ≡ unlooked m)))) → IfErr result (FailsFirst a b)
asks_err {A} (Err e) a s c b told asks is in_call taken h =
    asks_fail a c b told e asks (subst (λ (x : ConnOf A). asked_in x.call ≡ Some told) is in_call) (taken ∙ ap (λ (x : ConnOf A). record x { call = without_asked x.call }) is) h
asks_err (Ok u) a s c b told asks is in_call taken h = tt

-- ---- the columns that tell what was looked up

pub told_none : (a : Learnt) (x : Extended) → x.described ≡ None → x ≡ telling a x
told_none a x e = ap (λ (o : Option Described). record x { described = o }) (e ∙ ap (option_map (described_with a)) (sym e))

pub told_some : (a : Learnt) (x y : Extended) (d : Described) (columns : Option (List PgColumn)) → x.described ≡ Some d → columns ≡ option_map (learnt_columns a) d.columns → y ≡ with_columns columns x → y ≡ telling a x
told_some a x y d columns e c is =
    is ∙ ap (λ (o : Option Described). record x { described = o }) (ap (option_map (λ (t : Described). record t { columns = columns })) e ∙ ap (λ (cs : Option (List PgColumn)). Some (record d { columns = cs })) c ∙ ap (option_map (described_with a)) (sym e))

-- ---- the OIDs of types that were looked up

pub filled_so : (types : CacheSeen) (x y : Extended) (names holes : List Declared) (oids slice : List ℕ) → holes ≡ names → unknown_name types holes ≡ None → oids ≡ oids_under types holes → slice ≡ oids → y ≡ filled_for slice x
    → (unknown_name types names ≡ None) × (requests.Describe y ≡ requests.Describe (filled_for (oids_under types names) x))
filled_so types x y names holes oids slice h known o s is =
    (ap (unknown_name types) (sym h) ∙ known, ap (λ (z : Extended). requests.Describe z) is ∙ ap (λ (n : List ℕ). requests.Describe (filled_for n x)) (s ∙ o ∙ ap (oids_under types) h))

pub filled_run : (types : CacheSeen) (b filled : Bound) (names holes : List Declared) (oids slice : List ℕ) → holes ≡ names → unknown_name types holes ≡ None → oids ≡ oids_under types holes → slice ≡ oids → filled ≡ filled_bound slice b
    → (unknown_name types names ≡ None) × (requests.Run filled ≡ requests.Run (filled_bound (oids_under types names) b))
filled_run types b filled names holes oids slice h known o s is =
    (ap (unknown_name types) (sym h) ∙ known, ap (λ (z : Bound). requests.Run z) is ∙ ap (λ (n : List ℕ). requests.Run (filled_bound n b)) (s ∙ o ∙ ap (oids_under types) h))

-- ---- types that are known by their names alone, or none

pub any_none : (looked : Bool) (names : List Declared) (told : Request) (looks knows : List ℕ → Request) (a : Learnt) → has_names names ≡ false → LooksAny looked names told looks knows a told a
any_none looked [] told looks knows a e = (refl, refl)
any_none looked (name ∷ names) told looks knows a e = absurd cc

pub any_some : (looked : Bool) (names : List Declared) (told : Request) (looks knows : List ℕ → Request) (a b : Learnt) (next : Request) → has_names names ≡ true → LooksNamed looked names looks knows a next b → LooksAny looked names told looks knows a next b
any_some looked [] told looks knows a b next e h = absurd cc
any_some looked (name ∷ names) told looks knows a b next e h = h

pub has_some : (names : List Declared) → has_names names ≡ true → names ≡ [] → ⊥
has_some [] e none = cc
has_some (name ∷ names) e none = cc

-- ---- where a lookup fails

resolved_broken : (c : ConnSeen) → (resolved c).broken ≡ c.broken
resolved_broken c = by c.call
  where
    by : (call : Call) → (resolved_by call c).broken ≡ c.broken
    by (calls.Asked r) = refl
    by _ = refl

some_names : (told r : Request) (names ns : List Declared) (d : Option Described) → names ≡ ns → if_named told ns d ≡ Some r → names ≢ []
some_names told r names [] d n e = absurd cc
some_names told r names (name ∷ ns) None n e = λ none. (let both : name ∷ ns ≡ [] = sym n ∙ none in cc)
some_names told r names (name ∷ ns) (Some d) n e = absurd cc

may_for : (x : Extended) (told : Request) (d : Option Described) → if_named (requests.Describe x) x.arguments.names d ≡ Some told → MayLookFor x d
may_for x told None e = some_names (requests.Describe x) told x.arguments.names x.arguments.names None refl e
may_for x told (Some d) e = tt

may_in : (r told : Request) → named_in r ≡ Some told → MayLook r
may_in (requests.Describe x) told e = may_for x told x.described e
may_in (requests.Run bound) told e = by bound.keeping e
  where
    by : (keeping : Keeping) → if_kept keeping bound ≡ Some told → bound.arguments.holes ≢ []
    by (keepings.Hits number) e = some_names (requests.Run bound) told bound.arguments.holes bound.arguments.holes None refl e
    by keepings.Stays e = absurd cc
    by keepings.Draws e = absurd cc
    by keepings.Puts e = absurd cc
    by keepings.Evicts e = absurd cc
    by keepings.Clears e = absurd cc
may_in _ told e = absurd cc

named_may : (c : ConnSeen) (told : Request) → named_by c.call ≡ Some told → MayLook told
named_may c told e = may_in told told (subst (λ (call : Call). named_by call ≡ Some told) (named_asked c.call told e) e)

-- the end of a lookup that can't be asked, before anything was
unlooks_first : (a b : ConnSeen) (told : Request) (learnt : Learnt) (e : Error) → a.broken ≡ None → named_by (resolved a).call ≡ Some told → CanBeSaid told → learnt.types ≡ (resolved a).learnt.types → learnt.tables ≡ (resolved a).learnt.tables
    → (e ≡ errors.OutOfMemory) ⊎ (FailsSeeking learnt.seeking e ⊎ MissesName (wanted_in told) learnt e) → b ≡ unlooked (record (resolved a) { learnt = learnt }) → PollsThrough a b (Ready (turns.Err e))
unlooks_first a b told learnt e whole named can types tables cause is =
    let next = vain_lookup told in
    let first = handed next (record (resolved a) { learnt = learnt }) in
    let may = named_may (resolved a) told named in
    let asks : AsksNamed (Some told) a first = (can, (next, (learnt, unasked_lookup told (resolved a).learnt learnt may types tables, refl))) in (
      first,
      inl (subst (λ (o : Option Request). AsksNamed o a first) (sym named) asks),
      record {
        later = [];
        last = first;
        hands = refl;
        polled = unlooks (record (resolved a) { learnt = learnt }) b told e (resolved_broken a ∙ whole) may cause is;
      },
    )

-- the end of what no frame can say, before anything was
abbrev PollsRefused : ConnSeen → ConnSeen → Error → Type 0
PollsRefused begun b e = (p : Polled begun b (beats.Ends (Err e))) × Refused begun p.stopped (beats.Ends (Err e))

pub polls_refused : (a b : ConnSeen) (told : Request) (e : Error) → a.broken ≡ None → flushes (calls.Asked told) ≡ false → (resolved a).call ≡ calls.Asked told → IsRefusal told e → b ≡ cleaned (idle (resolved a)) → (p : Polled (resolved a) b (beats.Ends (Err e))) × Refused (resolved a) p.stopped (beats.Ends (Err e))
polls_refused a b told e whole flushes_none n h is = by a.call refl n is
  where
    differs : false ≡ true → ⊥
    differs e = cc

    flushes_not : flushes (calls.Asked told) ≡ true → ⊥
    flushes_not f = differs (sym flushes_none ∙ f)

    idles : IsAsked calls.Idle → ⊥
    idles i = i

    ends : (r : Request) (begun : ConnSeen) → begun ≡ resolved_by (calls.Asked r) a → begun.call ≡ calls.Asked told → b ≡ cleaned (idle (resolved_by (calls.Asked r) a)) → PollsRefused begun b e
    ends r begun same n is =
        let refuses : Refuses begun.call e = subst (λ (call : Call). Refuses call e) (sym n) h in
        let before : begun.broken ≡ None = ap (λ (c : ConnSeen). c.broken) same ∙ whole in (
          record {
            stopped = idle begun;
            turns = refused begun e refuses;
            whole = before;
            behind_is = is ∙ ap (λ (o : Option ServerFault). cleaned (unfed (ends_copy e) (record (idle (resolved_by (calls.Asked r) a)) { broken = o }))) (whole ∙ sym (refusal_breaks_none told e h))
                ∙ ap (λ (c : ConnSeen). cleaned (unfed (ends_copy e) (record (idle c) { broken = broken_by (beats.Ends (Err e)) }))) (sym same);
            says = inr (refused_now begun e refuses);
            flush = λ f. absurd (flushes_not (subst (λ (call : Call). flushes call ≡ true) n (both_true (flushes begun.call) (begun.ledger.owed == 0) (both_true (flushes begun.call && begun.ledger.owed == 0) (nat_eq (length begun.stream.unsent) 0) f).0).0));
            asked = λ i. idles (subst IsAsked (ap (λ (c : ConnSeen). c.call) is) i);
          },
          refused_now begun e refuses,
        )

    other : (call : Call) → a.call ≡ call → a.call ≡ calls.Asked told → (IsAsked call → ⊥) → ⊥
    other call c n none = none (subst IsAsked (sym n ∙ c) tt)

    by : (call : Call) → a.call ≡ call → (resolved_by call a).call ≡ calls.Asked told → b ≡ cleaned (idle (resolved_by call a)) → PollsRefused (resolved_by call a) b e
    by (calls.Asked r) c n is = ends r (resolved_by (calls.Asked r) a) refl n is
    by calls.Idle c n is = absurd (other calls.Idle c n (λ i. i))
    by (calls.Waiting waiting) c n is = absurd (other (calls.Waiting waiting) c n (λ i. i))
    by (calls.Own reply) c n is = absurd (other (calls.Own reply) c n (λ i. i))
    by calls.Closing c n is = absurd (other calls.Closing c n (λ i. i))

named_stays : (r told : Request) → named_in r ≡ Some told → flushes (calls.Asked r) ≡ false
named_stays (requests.Describe x) told e = refl
named_stays (requests.Run bound) told e = refl
named_stays _ told e = absurd cc

pub named_flushes : (call : Call) (told : Request) → named_by call ≡ Some told → flushes (calls.Asked told) ≡ false
named_flushes call told n = named_stays told told (subst (λ (c : Call). named_by c ≡ Some told) (named_asked call told n) n)

refuses_named : (a b : ConnSeen) (told : Request) (e : Error) → a.broken ≡ None → named_by (resolved a).call ≡ Some told → IsRefusal told e → b ≡ cleaned (idle (resolved a)) → PollsThrough a b (Ready (turns.Err e))
refuses_named a b told e whole n h is = (
  a,
  inr (refl, subst (λ (o : Option Request). RefusesNamed o a b (Ready (turns.Err e))) (sym n) (h, is)),
  record {
    later = [];
    last = a;
    hands = refl;
    polled = (polls_refused a b told e whole (named_flushes (resolved a).call told n) (named_asked (resolved a).call told n) h is).0;
  },
)

named_memory : (r told : Request) → named_in r ≡ Some told → IsRefusal r errors.OutOfMemory
named_memory (requests.Describe x) told e = tt
named_memory (requests.Run bound) told e = inl tt
named_memory _ told e = absurd cc

wants_memory : (call : Call) (told : Request) → named_by call ≡ Some told → IsRefusal told errors.OutOfMemory
wants_memory call told n = named_memory told told (subst (λ (c : Call). named_by c ≡ Some told) (named_asked call told n) n)

fails_first : (a b : ConnSeen) (e : Error) → a.broken ≡ None → FailsFirst a b e → PollsThrough a b (Ready (turns.Err e))
fails_first a b e whole (asks, fails) =
    let named = some_of (named_by (resolved a).call) (asks_named a ∙ asks) in
    by named.0 named.1 fails
  where
    as_refused : (told : Request) → (resolved a).call ≡ calls.Asked told → RefusesFirst (asked_in (resolved a).call) a b e → RefusesFirst (Some told) a b e
    as_refused told c u = subst (λ (call : Call). RefusesFirst (asked_in call) a b e) c u

    as_unlooked : (told : Request) → (resolved a).call ≡ calls.Asked told → UnlooksFirst (asked_in (resolved a).call) a b e → UnlooksFirst (Some told) a b e
    as_unlooked told c u = subst (λ (call : Call). UnlooksFirst (asked_in call) a b e) c u

    by : (told : Request) → named_by (resolved a).call ≡ Some told → ((e ≡ errors.OutOfMemory) × IsUnresolved a b) ⊎ (RefusesFirst (asked_in (resolved a).call) a b e ⊎ UnlooksFirst (asked_in (resolved a).call) a b e) → PollsThrough a b (Ready (turns.Err e))
    by told n (inl (memory, (r, c, is, wants))) = refuses_named a b told e whole n (subst (λ (f : Error). IsRefusal told f) (sym memory) (wants_memory (resolved a).call told n)) (is ∙ ap (λ (call : Call). cleaned (idle (resolved_by call a))) (sym c))
    by told n (inr (inl u)) =
        let v = as_refused told (named_asked (resolved a).call told n) u in
        refuses_named a b told e whole n v.0 v.1
    by told n (inr (inr u)) =
        let v = as_unlooked told (named_asked (resolved a).call told n) u in
        let w = v.2.1 in
        unlooks_first a b told v.2.0.learnt e whole n v.0 w.1 w.2 w.3 (v.2.2 ∙ ap (λ (d : ConnSeen). unlooked d) w.0)

-- ---- over a link

seen_resolved : {A : Type 0} (seen : A → LinkSeen) (a : ConnOf A) → seen_by seen (resolved a) ≡ resolved (seen_by seen a)
seen_resolved {A} seen a = by a.call
  where
    by : (call : Call) → seen_by seen (resolved_by call a) ≡ resolved_by call (seen_by seen a)
    by (calls.Asked r) = refl
    by _ = refl

first_seen : {A : Type 0} (seen : A → LinkSeen) (a b : ConnOf A) → AsksFirst a b → AsksFirst (seen_by seen a) (seen_by seen b)
first_seen {A} seen a b h = subst (λ (o : Option Request). AsksNamed o (seen_by seen a) (seen_by seen b)) (ap (λ (c : ConnSeen). named_by c.call) (seen_resolved seen a)) (by (named_by (resolved a).call) h)
  where
    by : (o : Option Request) → AsksNamed o a b → AsksNamed o (seen_by seen a) (seen_by seen b)
    by None h = ap (λ (c : ConnOf A). seen_by seen c) h
    by (Some told) (can, (next, (learnt, looks, is))) =
        (can, (next, subst (λ (c : ConnSeen). AsksNext told c next (seen_by seen b)) (seen_resolved seen a) (learnt, looks, ap (λ (c : ConnOf A). seen_by seen c) is)))

fails_seen : {A : Type 0} (seen : A → LinkSeen) (a b : ConnOf A) (e : Error) → FailsFirst a b e → FailsFirst (seen_by seen a) (seen_by seen b) e
fails_seen {A} seen a b e (asks, inl (memory, (r, c, is, wants))) = (asks, inl (memory, (r, c, ap (λ (d : ConnOf A). seen_by seen d) is, wants)))
fails_seen {A} seen a b e (asks, inr (inl u)) =
    (asks, inr (inl (subst (λ (o : Option Request). RefusesFirst o (seen_by seen a) (seen_by seen b) e) (ap (λ (c : ConnSeen). asked_in c.call) (seen_resolved seen a)) (by (asked_in (resolved a).call) u))))
  where
    by : (o : Option Request) → RefusesFirst o a b e → RefusesFirst o (seen_by seen a) (seen_by seen b) e
    by None u = absurd u
    by (Some told) (h, is) = (h, ap (λ (d : ConnOf A). seen_by seen d) is ∙ seen_cleaned seen (idle (resolved a)) ∙ ap (λ (c : ConnSeen). cleaned (idle c)) (seen_resolved seen a))
fails_seen {A} seen a b e (asks, inr (inr u)) =
    (asks, inr (inr (subst (λ (o : Option Request). UnlooksFirst o (seen_by seen a) (seen_by seen b) e) (ap (λ (c : ConnSeen). asked_in c.call) (seen_resolved seen a)) (by (asked_in (resolved a).call) u))))
  where
    by : (o : Option Request) → UnlooksFirst o a b e → UnlooksFirst o (seen_by seen a) (seen_by seen b) e
    by None u = absurd u
    by (Some told) (can, may, (m, (same, types, tables, cause), is)) =
        (can, may, (seen_by seen m, subst (λ (c : ConnSeen). IsUnlooked told (idle c) (seen_by seen m) e) (seen_resolved seen a) (ap (λ (d : ConnOf A). seen_by seen d) same, types, tables, cause), ap (λ (d : ConnOf A). seen_by seen d) is))

pub first_of : {A : Type 0} (seen : A → LinkSeen) (a b : ConnOf A) (c : ConnSeen) (answer : Poll Turn) → AsksFirst a b → PollsOn (seen_by seen b) c answer → PollsThrough (seen_by seen a) c answer
first_of seen a b c answer h p = (seen_by seen b, inl (first_seen seen a b h), p)

-- ---- a row that is shown before anything else is looked at

own_resolved : (a : ConnSeen) → IsReplied a.call → resolved a ≡ a
own_resolved a own = by a.call own
  where
    by : (call : Call) → IsReplied call → resolved_by call a ≡ a
    by (calls.Own reply) own = refl
    by _ own = absurd own

own_asks_none : (rule : Rule) (call : Call) → IsReplied call → asks_by rule call ≡ false
own_asks_none rule (calls.Own reply) own = refl
own_asks_none rule _ own = absurd own

own_unasked : (call : Call) → IsReplied call → IsAsked call → ⊥
own_unasked (calls.Own reply) own asked = asked
own_unasked _ own asked = absurd own

own_sayable : (call : Call) → IsReplied call → IsSayable call
own_sayable (calls.Own reply) own = tt
own_sayable _ own = absurd own

own_flushes : (call : Call) → IsReplied call → flushes call ≡ false
own_flushes (calls.Own reply) own = refl
own_flushes _ own = absurd own

no_flush : (a b : ConnSeen) (beat : Beat) → flushes a.call ≡ false → EndsFlush a b beat
no_flush a b beat none e = absurd (true_false (rw none at e))
  where
    true_false : false ≡ true → ⊥
    true_false e = absurd cc

shown_polled : (a b : ConnSeen) (row : RowSeen) → a.broken ≡ None → ShowsAtOnce a b row → Polled a b (beats.Yields (Row row))
shown_polled a b row whole (takes, own, own') = record {
  stopped = b;
  turns = takes;
  whole = takes.3.broken ∙ whole;
  behind_is = refl;
  says = inl (own_sayable a.call own);
  flush = no_flush a b (beats.Yields (Row row)) (own_flushes a.call own);
  asked = own_unasked b.call own';
}

shown_on : (a b : ConnSeen) (row : RowSeen) → a.broken ≡ None → ShowsAtOnce a b row → PollsOn a b (Ready (turns.Item (Row row)))
shown_on a b row whole shows = record {
  later = [];
  last = a;
  hands = refl;
  polled = subst (λ (x : ConnSeen). Polled x b (beats.Yields (Row row))) (sym (own_resolved a shows.1)) (shown_polled a b row whole shows);
}

pub shown_through : (a b : ConnSeen) (row : RowSeen) → a.broken ≡ None → ShowsAtOnce a b row → PollsThrough a b (Ready (turns.Item (Row row)))
shown_through a b row whole shows = (a, inl (asks_none a (own_asks_none a.rule a.call shows.1)), shown_on a b row whole shows)

pub shown_now : (a b : ConnSeen) (row : RowSeen) → a.broken ≡ None → ShowsAtOnce (begun_with 256 a) b row → PollsCall a b (Ready (turns.Item (Row row)))
shown_now a b row whole shows = subst (λ (o : Option ServerFault). PollsBy o (begun_with 256 a) a b (Ready (turns.Item (Row row)))) (sym whole) (shown_through (begun_with 256 a) b row whole shows)

pub first_whole_of : {A : Type 0} (seen : A → LinkSeen) (a b : ConnOf A) → AsksFirst a b → a.broken ≡ None → b.broken ≡ None
first_whole_of seen a b h whole = first_keeps (λ (c : ConnSeen). c.broken ≡ None) (λ c w. resolved_broken c ∙ w) (λ b told next learnt u w. w) (seen_by seen a) (seen_by seen b) (first_seen seen a b h) whole

pub fails_first_of : {A : Type 0} (seen : A → LinkSeen) (a b : ConnOf A) (e : Error) → a.broken ≡ None → FailsFirst a b e → PollsThrough (seen_by seen a) (seen_by seen b) (Ready (turns.Err e))
fails_first_of seen a b e whole h = fails_first (seen_by seen a) (seen_by seen b) e whole (fails_seen seen a b e h)
