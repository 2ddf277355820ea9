-- The exchanges of a call.
use Rattle.std.proofs.Common.{◌≡◌, ◌⊎◌, ℕ, zero, suc, nat_eq, Bool, true, false, cond, List, [], ◌∷◌, length, subst, refl, sym, ap, ◌∙◌, Option, Some, None, option_map, inl, inr}
use Rattle.std.proofs.lemmas.Option.{same_Some}
use Rattle.pg_columns.specs.Told.{columns_of}
use Rattle.pg_columns.specs.declared.column.PgColumn.{PgColumn}
use Rattle.pg_wire.specs.declared.status.TransactionStatus.{TransactionStatus}
use Rattle.pg_wire.specs.Backend.{BackendMessage}
use Rattle.pg_exchanges.specs.Answering.{described}
use Rattle.pg_request.specs.Queries.{QueryText, ArgumentsSeen}
use Rattle.pg_request.specs.declared.naming.Declared.{Declared}
use Rattle.pg_request.specs.declared.preparation.Preparation.{Preparation}
use Rattle.pg_call.specs.declared.kind.How.{How}
use Rattle.pg_call.specs.declared.kind.How.TheVariants as hows
use Rattle.pg_call.specs.declared.kind.Kind.TheVariants as kinds
use Rattle.pg_call.specs.declared.kind.Keeping.{Keeping}
use Rattle.pg_call.specs.declared.kind.Keeping.TheVariants as keepings
use Rattle.pg_call.specs.declared.statement.Extended.{Extended}
use Rattle.pg_call.specs.declared.statement.Described.{Described}
use Rattle.pg_call.specs.declared.after.Eviction.{Eviction}
use Rattle.pg_call.specs.declared.statement.Bound.{Bound}
use Rattle.pg_call.specs.declared.after.Filling.{Filling}
use Rattle.pg_call.specs.declared.after.Lookup.{Lookup}
use Rattle.pg_call.specs.declared.after.After.{After}
use Rattle.pg_call.specs.declared.after.After.TheVariants as afters
use Rattle.pg_call.specs.declared.request.Request.{Request}
use Rattle.pg_call.specs.declared.request.Request.TheVariants as requests
use Rattle.pg_call.specs.declared.calling.Beat.TheVariants as beats
use Rattle.pg_call.specs.declared.statement.Goal.{Goal}
use Rattle.pg_call.specs.declared.statement.Goal.TheVariants as goals
use Rattle.pg_call.specs.Requests.{kind_of, groups_of, numbered_by, request_behind, behind_goal, bound_by, bound_for, filled_bound, filled_for, looked_behind}
use Rattle.pg_request.specs.Asked.{filled}
use Rattle.pg_call.specs.Items.{parameters_after}
use Rattle.pg_rule.specs.declared.cache.Entry.{Entry}
use Rattle.pg_rule.specs.declared.rule.Rule.{Rule}
use Rattle.pg_rule.specs.Caches.{entry_at}
use Rattle.pg_rule.specs.Rules.{holding}
use Rattle.pg_learning.specs.declared.learnt.Learnt.{Learnt}
use Rattle.pg_learning.specs.Naming.{oids_under}
use Rattle.pg_conn.specs.Looking.{IsFound as IsFoundBy, LooksAny, LooksFor, LooksIn, LooksBehind, LooksUp, MayLook, holes_for, lookup_for, named_in, vain_lookup, telling}
use Rattle.pg_conn.specs.Statements.{asked_by, begun_as, behind_description, by_leaving, entry_of, held_behind, held_by, leaving, prepare_by, query_by, run_or_describe, tell_or_describe}
use Rattle.pg_conn.specs.States.{to_prepare}
use Rattle.pg_call.specs.Calls.{answer_by}
use Rattle.pg_script.specs.declared.step.Call.{Call}
use Rattle.pg_script.specs.declared.step.Call.TheVariants as calls
use Rattle.pg_call.proofs.FitLaws.{next_is, hands_on_described}
use Rattle.pg_script.specs.declared.step.Parting.TheVariants as partings
use Rattle.pg_play.specs.Shown.{parting_of, request_of, asked_of, first_as, first_call, next_call, handed_by, exchange_for, ComesBehind, IsPartOf, how_of, IsWanted, waits_how, waits_to_show, wants_row, wants_how, acts_at_once, begins, begins_with, copies}

-- ---- what an exchange stands for

-- what is asked of the server, or tells of a statement, is an exchange that asks just that
abbrev pub IsExchange : Request → Type 0
IsExchange (requests.Describe x) = Unit {0}
IsExchange (requests.Run bound) = Unit {0}
IsExchange (requests.Evict eviction) = Unit {0}
IsExchange (requests.Look lookup) = Unit {0}
IsExchange (requests.Fill filling) = Unit {0}
IsExchange (requests.Prepare prepared) = Unit {0}
IsExchange (requests.Clear statements) = Unit {0}
IsExchange requests.Flush = Unit {0}
IsExchange _ = ⊥

pub exchange_asks : (d : ℕ) (r : Request) → IsExchange r → request_of d (exchange_for r) ≡ r
exchange_asks d (requests.Describe x) h = refl
exchange_asks d (requests.Run bound) h = refl
exchange_asks d (requests.Evict eviction) h = refl
exchange_asks d (requests.Look lookup) h = refl
exchange_asks d (requests.Fill filling) h = refl
exchange_asks d (requests.Prepare prepared) h = refl
exchange_asks d (requests.Clear statements) h = refl
exchange_asks d requests.Flush h = refl
exchange_asks d _ h = absurd h

-- it is polled, and opens nothing
pub exchange_polled : (r : Request) → (acts_at_once (exchange_for r) ≡ false) × (begins (exchange_for r) ≡ false) × (begins_with (exchange_for r) ≡ false) × (copies (exchange_for r) ≡ false)
exchange_polled (requests.Describe x) = (refl, refl, refl, refl)
exchange_polled (requests.Run bound) = (refl, refl, refl, refl)
exchange_polled (requests.Evict eviction) = (refl, refl, refl, refl)
exchange_polled (requests.Look lookup) = (refl, refl, refl, refl)
exchange_polled (requests.Fill filling) = (refl, refl, refl, refl)
exchange_polled (requests.Prepare prepared) = (refl, refl, refl, refl)
exchange_polled (requests.Clear statements) = (refl, refl, refl, refl)
exchange_polled _ = (refl, refl, refl, refl)

run_exchange : (rule : Rule) (how : How) (sql : List ℕ) (arguments : ArgumentsSeen) (persistent : Bool) (o : Option Entry) → IsExchange (run_or_describe rule how sql arguments persistent o)
run_exchange rule how sql arguments persistent (Some e) = tt
run_exchange rule how sql arguments persistent None = tt

prepared_exchange : (rule : Rule) (p : Preparation) → IsExchange (asked_by rule (to_prepare p))
prepared_exchange rule p = by (entry_at p.sql rule.cache.entries)
  where
    by : (o : Option Entry) → IsExchange (tell_or_describe rule (record { sql = p.sql; parameters = []; columns = None; keeping = keepings.Stays; declared = Some p.types }) o)
    by (Some e) = tt
    by None = tt

cleared_exchange : (rule : Rule) → IsExchange (asked_by rule (begun_as rule (requests.Clear [])))
cleared_exchange rule = by (nat_eq (length rule.cache.entries) 0)
  where
    by : (b : Bool) → IsExchange (asked_by rule (cond b requests.Flush (requests.Clear [])))
    by true = tt
    by false = tt

-- ---- the first exchange

first_by_request : (rule : Rule) (d : ℕ) (how : How) (query : QueryText) (o : Option ArgumentsSeen) (call : Call) (r : Request) → request_of d call ≡ r → request_of d (first_as rule how query o call) ≡ query_by rule how query o r
first_by_request rule d how query None call r e = e
first_by_request rule d how query (Some arguments) call r e =
    let o = entry_at query.sql rule.cache.entries in
    exchange_asks d (run_or_describe rule how query.sql arguments query.persistent o) (run_exchange rule how query.sql arguments query.persistent o)

-- it asks what the connection asks first
pub first_request : (rule : Rule) (d : ℕ) (call : Call) → request_of d (first_call rule call) ≡ asked_by rule (begun_as rule (asked_of d call))
first_request rule d (calls.Execute query) = first_by_request rule d hows.Execute query query.arguments (calls.Execute query) (requests.Execute query) refl
first_request rule d (calls.ExecuteMany query) = first_by_request rule d hows.ExecuteMany query query.arguments (calls.ExecuteMany query) (requests.ExecuteMany query) refl
first_request rule d (calls.Fetch query) = first_by_request rule d hows.Fetch query query.arguments (calls.Fetch query) (requests.Fetch query) refl
first_request rule d (calls.FetchMany query) = first_by_request rule d hows.FetchMany query query.arguments (calls.FetchMany query) (requests.FetchMany query) refl
first_request rule d (calls.FetchAll query) = first_by_request rule d hows.FetchAll query query.arguments (calls.FetchAll query) (requests.FetchAll query) refl
first_request rule d (calls.FetchOptional query) = first_by_request rule d hows.FetchOptional query query.arguments (calls.FetchOptional query) (requests.FetchOptional query) refl
first_request rule d (calls.FetchOne query) = first_by_request rule d hows.FetchOne query query.arguments (calls.FetchOne query) (requests.FetchOne query) refl
first_request rule d calls.Ping = refl
first_request rule d (calls.CopyOut query) = refl
first_request rule d (calls.Feed fed) = refl
first_request rule d calls.Flush = refl
first_request rule d (calls.Chain chain) = refl
first_request rule d calls.Begin = refl
first_request rule d (calls.BeginWith query) = refl
first_request rule zero calls.Commit = refl
first_request rule (suc left) calls.Commit = refl
first_request rule zero calls.Rollback = refl
first_request rule (suc left) calls.Rollback = refl
first_request rule d calls.StartRollback = refl
first_request rule d (calls.Release text) = refl
first_request rule d (calls.Prepare p) = exchange_asks d (asked_by rule (to_prepare p)) (prepared_exchange rule p)
first_request rule d calls.Clear = exchange_asks d (asked_by rule (begun_as rule (requests.Clear []))) (cleared_exchange rule)
first_request rule d _ = refl

pub asked_wanted : (d : ℕ) (call : Call) → IsWanted (asked_of d call)
asked_wanted zero calls.Commit = tt
asked_wanted (suc left) calls.Commit = tt
asked_wanted zero calls.Rollback = tt
asked_wanted (suc left) calls.Rollback = tt
asked_wanted d (calls.Prepare p) = refl
asked_wanted d _ = tt

-- What is neither a query nor an exchange alone stays what it is. So what is false of these is true of the first exchange where it is of the call.
record FalseOfExchanges (f : Call → Bool) : Type 0 where
  queries : (call : Call) (how : How) → how_of call ≡ Some how → f call ≡ false
  exchanges : (r : Request) → f (exchange_for r) ≡ false
  prepares : (p : Preparation) → f (calls.Prepare p) ≡ false
  clears : f calls.Clear ≡ false

kept_by : (f : Call → Bool) (rule : Rule) (how : How) (query : QueryText) (o : Option ArgumentsSeen) (call : Call) → FalseOfExchanges f → how_of call ≡ Some how → f (first_as rule how query o call) ≡ f call
kept_by f rule how query None call n h = refl
kept_by f rule how query (Some arguments) call n h = n.exchanges (run_or_describe rule how query.sql arguments query.persistent (entry_at query.sql rule.cache.entries)) ∙ sym (n.queries call how h)

kept_first : (f : Call → Bool) → FalseOfExchanges f → (rule : Rule) (call : Call) → f (first_call rule call) ≡ f call
kept_first f n rule (calls.Execute query) = kept_by f rule hows.Execute query query.arguments (calls.Execute query) n refl
kept_first f n rule (calls.ExecuteMany query) = kept_by f rule hows.ExecuteMany query query.arguments (calls.ExecuteMany query) n refl
kept_first f n rule (calls.Fetch query) = kept_by f rule hows.Fetch query query.arguments (calls.Fetch query) n refl
kept_first f n rule (calls.FetchMany query) = kept_by f rule hows.FetchMany query query.arguments (calls.FetchMany query) n refl
kept_first f n rule (calls.FetchAll query) = kept_by f rule hows.FetchAll query query.arguments (calls.FetchAll query) n refl
kept_first f n rule (calls.FetchOptional query) = kept_by f rule hows.FetchOptional query query.arguments (calls.FetchOptional query) n refl
kept_first f n rule (calls.FetchOne query) = kept_by f rule hows.FetchOne query query.arguments (calls.FetchOne query) n refl
kept_first f n rule (calls.Prepare p) = n.exchanges (asked_by rule (to_prepare p)) ∙ sym (n.prepares p)
kept_first f n rule calls.Clear = n.exchanges (asked_by rule (begun_as rule (requests.Clear []))) ∙ sym n.clears
kept_first f n rule (calls.Describe x) = n.exchanges requests.Flush ∙ sym (n.exchanges (requests.Describe x))
kept_first f n rule (calls.Run bound) = n.exchanges requests.Flush ∙ sym (n.exchanges (requests.Run bound))
kept_first f n rule (calls.Evict eviction) = n.exchanges requests.Flush ∙ sym (n.exchanges (requests.Evict eviction))
kept_first f n rule (calls.Look lookup) = n.exchanges requests.Flush ∙ sym (n.exchanges (requests.Look lookup))
kept_first f n rule (calls.Fill filling) = n.exchanges requests.Flush ∙ sym (n.exchanges (requests.Fill filling))
kept_first f n rule (calls.Tell prepared) = n.exchanges requests.Flush ∙ sym (n.exchanges (requests.Prepare prepared))
kept_first f n rule (calls.CloseAll statements) = n.exchanges requests.Flush ∙ sym (n.exchanges (requests.Clear statements))
kept_first f n rule _ = refl

acts_none : (call : Call) (how : How) → how_of call ≡ Some how → acts_at_once call ≡ false
acts_none calls.StartRollback how e = absurd cc
acts_none (calls.Release text) how e = absurd cc
acts_none _ how e = refl

begins_none : (call : Call) (how : How) → how_of call ≡ Some how → begins call ≡ false
begins_none calls.Begin how e = absurd cc
begins_none (calls.BeginWith query) how e = absurd cc
begins_none _ how e = refl

begins_with_none : (call : Call) (how : How) → how_of call ≡ Some how → begins_with call ≡ false
begins_with_none (calls.BeginWith query) how e = absurd cc
begins_with_none _ how e = refl

pub first_acts : (rule : Rule) (call : Call) → acts_at_once (first_call rule call) ≡ acts_at_once call
first_acts rule call = kept_first acts_at_once (record { queries = acts_none; exchanges = λ r. (exchange_polled r).0; prepares = λ p. refl; clears = refl }) rule call

first_begins : (rule : Rule) (call : Call) → begins (first_call rule call) ≡ begins call
first_begins rule call = kept_first begins (record { queries = begins_none; exchanges = λ r. (exchange_polled r).1; prepares = λ p. refl; clears = refl }) rule call

pub first_begins_with : (rule : Rule) (call : Call) → begins_with (first_call rule call) ≡ begins_with call
first_begins_with rule call = kept_first begins_with (record { queries = begins_with_none; exchanges = λ r. (exchange_polled r).2; prepares = λ p. refl; clears = refl }) rule call

copies_none : (call : Call) (how : How) → how_of call ≡ Some how → copies call ≡ false
copies_none (calls.CopyOut query) how e = absurd cc
copies_none (calls.Feed fed) how e = absurd cc
copies_none _ how e = refl

first_copies : (rule : Rule) (call : Call) → copies (first_call rule call) ≡ copies call
first_copies rule call = kept_first copies (record { queries = copies_none; exchanges = λ r. (exchange_polled r).3; prepares = λ p. refl; clears = refl }) rule call

pub exchange_parts : (r : Request) → parting_of (exchange_for r) ≡ partings.None
exchange_parts (requests.Describe x) = refl
exchange_parts (requests.Run bound) = refl
exchange_parts (requests.Evict eviction) = refl
exchange_parts (requests.Look lookup) = refl
exchange_parts (requests.Fill filling) = refl
exchange_parts (requests.Prepare prepared) = refl
exchange_parts (requests.Clear statements) = refl
exchange_parts _ = refl

as_parts : (rule : Rule) (how : How) (query : QueryText) (o : Option ArgumentsSeen) (call : Call) → parting_of call ≡ partings.None → parting_of (first_as rule how query o call) ≡ partings.None
as_parts rule how query None call e = e
as_parts rule how query (Some arguments) call e = exchange_parts (run_or_describe rule how query.sql arguments query.persistent (entry_at query.sql rule.cache.entries))

-- how a copy is given up is said of its exchange too
pub first_parts : (rule : Rule) (call : Call) → parting_of (first_call rule call) ≡ parting_of call
first_parts rule (calls.Execute query) = as_parts rule hows.Execute query query.arguments (calls.Execute query) refl
first_parts rule (calls.ExecuteMany query) = as_parts rule hows.ExecuteMany query query.arguments (calls.ExecuteMany query) refl
first_parts rule (calls.Fetch query) = as_parts rule hows.Fetch query query.arguments (calls.Fetch query) refl
first_parts rule (calls.FetchMany query) = as_parts rule hows.FetchMany query query.arguments (calls.FetchMany query) refl
first_parts rule (calls.FetchAll query) = as_parts rule hows.FetchAll query query.arguments (calls.FetchAll query) refl
first_parts rule (calls.FetchOptional query) = as_parts rule hows.FetchOptional query query.arguments (calls.FetchOptional query) refl
first_parts rule (calls.FetchOne query) = as_parts rule hows.FetchOne query query.arguments (calls.FetchOne query) refl
first_parts rule (calls.Prepare p) = exchange_parts (asked_by rule (to_prepare p))
first_parts rule calls.Clear = exchange_parts (asked_by rule (begun_as rule (requests.Clear [])))
first_parts rule _ = refl

-- how the query is run that an exchange is of
abbrev pub goal_how : Goal → Option How
goal_how (goals.Run how) = Some how
goal_how goals.Prepare = None

abbrev after_how : After → Option How
after_how (afters.Run bound) = Some bound.how
after_how (afters.Fill filling) = Some filling.bound.how
after_how (afters.Prepare prepared) = None

abbrev pub runs_how : Call → Option How
runs_how (calls.Describe x) = goal_how x.goal
runs_how (calls.Evict eviction) = after_how eviction.after
runs_how (calls.Look lookup) = goal_how lookup.extended.goal
runs_how (calls.Fill filling) = Some filling.bound.how
runs_how call = how_of call

how_by : (rule : Rule) (how : How) (query : QueryText) (o : Option ArgumentsSeen) (call : Call) → runs_how call ≡ Some how → runs_how (first_as rule how query o call) ≡ Some how
how_by rule how query None call e = e
how_by rule how query (Some arguments) call e = by (entry_at query.sql rule.cache.entries)
  where
    by : (o : Option Entry) → runs_how (exchange_for (run_or_describe rule how query.sql arguments query.persistent o)) ≡ Some how
    by (Some e) = refl
    by None = refl

tells_how : (rule : Rule) (p : Preparation) → runs_how (exchange_for (asked_by rule (to_prepare p))) ≡ None
tells_how rule p = by (entry_at p.sql rule.cache.entries)
  where
    by : (o : Option Entry) → runs_how (exchange_for (tell_or_describe rule (record { sql = p.sql; parameters = []; columns = None; keeping = keepings.Stays; declared = Some p.types }) o)) ≡ None
    by (Some e) = refl
    by None = refl

clears_how : (rule : Rule) → runs_how (exchange_for (asked_by rule (begun_as rule (requests.Clear [])))) ≡ None
clears_how rule = by (nat_eq (length rule.cache.entries) 0)
  where
    by : (b : Bool) → runs_how (exchange_for (asked_by rule (cond b requests.Flush (requests.Clear [])))) ≡ None
    by true = refl
    by false = refl

-- its first exchange is of that query, or of none
first_how : (rule : Rule) (call : Call) → (runs_how (first_call rule call) ≡ how_of call) ⊎ (runs_how (first_call rule call) ≡ None)
first_how rule (calls.Execute query) = inl (how_by rule hows.Execute query query.arguments (calls.Execute query) refl)
first_how rule (calls.ExecuteMany query) = inl (how_by rule hows.ExecuteMany query query.arguments (calls.ExecuteMany query) refl)
first_how rule (calls.Fetch query) = inl (how_by rule hows.Fetch query query.arguments (calls.Fetch query) refl)
first_how rule (calls.FetchMany query) = inl (how_by rule hows.FetchMany query query.arguments (calls.FetchMany query) refl)
first_how rule (calls.FetchAll query) = inl (how_by rule hows.FetchAll query query.arguments (calls.FetchAll query) refl)
first_how rule (calls.FetchOptional query) = inl (how_by rule hows.FetchOptional query query.arguments (calls.FetchOptional query) refl)
first_how rule (calls.FetchOne query) = inl (how_by rule hows.FetchOne query query.arguments (calls.FetchOne query) refl)
first_how rule (calls.Prepare p) = inr (tells_how rule p)
first_how rule calls.Clear = inr (clears_how rule)
first_how rule _ = inr refl

-- so what shows its items as they come has a first exchange that does, and what wants no row one that wants none
pub first_waits : (rule : Rule) (call : Call) → waits_to_show call ≡ false → waits_how (runs_how (first_call rule call)) ≡ false
first_waits rule call w = elim (first_how rule call) [
  | inl e ↦ ap waits_how e ∙ w
  | inr e ↦ ap waits_how e
]

first_wants : (rule : Rule) (call : Call) → wants_how (runs_how (first_call rule call)) ≡ true → wants_row call ≡ true
first_wants rule call w = elim (first_how rule call) [
  | inl e ↦ ap wants_how (sym e) ∙ w
  | inr e ↦ let x = ap wants_how (sym e) ∙ w in absurd cc
]

-- an exchange that shows items, or wants a row, is of a query that does
pub shows_how : (call : Call) → waits_how (runs_how call) ≡ false → waits_to_show call ≡ false
shows_how (calls.Describe x) w = refl
shows_how (calls.Evict eviction) w = refl
shows_how (calls.Look lookup) w = refl
shows_how (calls.Fill filling) w = refl
shows_how _ w = w

pub wants_so : (call : Call) → wants_row call ≡ true → wants_how (runs_how call) ≡ true
wants_so (calls.Describe x) w = absurd cc
wants_so (calls.Evict eviction) w = absurd cc
wants_so (calls.Look lookup) w = absurd cc
wants_so (calls.Fill filling) w = absurd cc
wants_so _ w = w

-- ---- the one behind it

-- what hands on describes a statement, or closes one, or looks something up
abbrev pub HandsBy : Call → Type 0
HandsBy call = ((x : Extended) × (call ≡ calls.Describe x)) ⊎ (((e : Eviction) × (call ≡ calls.Evict e)) ⊎ (((l : Lookup) × (call ≡ calls.Look l)) ⊎ ((f : Filling) × (call ≡ calls.Fill f))))

pub hands_by : (d : ℕ) (call : Call) → kind_of (request_of d call) ≡ kinds.Describe → HandsBy call
hands_by d (calls.Describe x) k = inl (x, refl)
hands_by d (calls.Evict e) k = inr (inl (e, refl))
hands_by d (calls.Look l) k = inr (inr (inl (l, refl)))
hands_by d (calls.Fill f) k = inr (inr (inr (f, refl)))
hands_by zero calls.Commit k = absurd cc
hands_by (suc left) calls.Commit k = absurd cc
hands_by zero calls.Rollback k = absurd cc
hands_by (suc left) calls.Rollback k = absurd cc
hands_by d _ k = absurd cc

-- so what it hands on is what was to be asked next
pub handed_so : (d : ℕ) (call : Call) (reply : List BackendMessage) (status : TransactionStatus) (next : Request) → answer_by (request_of d call) reply status ≡ beats.HandsOn next → handed_by call reply ≡ Some next
handed_so d call reply status next e = by call (hands_by d call (hands_on_described (request_of d call) reply status next e)) e
  where
    by : (call : Call) → HandsBy call → answer_by (request_of d call) reply status ≡ beats.HandsOn next → handed_by call reply ≡ Some next
    by call (inl (x, is)) e =
        let k = subst (λ (c : Call). answer_by (request_of d c) reply status ≡ beats.HandsOn next) is e in
        ap (λ (c : Call). handed_by c reply) is ∙ (next_is (requests.Describe x) reply status next k).1
    by call (inr (inl (v, is))) e =
        let k = subst (λ (c : Call). answer_by (request_of d c) reply status ≡ beats.HandsOn next) is e in
        ap (λ (c : Call). handed_by c reply) is ∙ (next_is (requests.Evict v) reply status next k).1
    by call (inr (inr (inl (l, is)))) e =
        let k = subst (λ (c : Call). answer_by (request_of d c) reply status ≡ beats.HandsOn next) is e in
        ap (λ (c : Call). handed_by c reply) is ∙ (next_is (requests.Look l) reply status next k).1
    by call (inr (inr (inr (f, is)))) e =
        let k = subst (λ (c : Call). answer_by (request_of d c) reply status ≡ beats.HandsOn next) is e in
        ap (λ (c : Call). handed_by c reply) is ∙ (next_is (requests.Fill f) reply status next k).1

-- ---- what comes behind

behind_exchange : (a : After) → IsExchange (request_behind a)
behind_exchange (afters.Run bound) = tt
behind_exchange (afters.Fill filling) = tt
behind_exchange (afters.Prepare prepared) = tt

-- what a description hands on
abbrev pub told_by : Extended → List BackendMessage → Request
told_by x reply = requests.Describe (record x { described = Some (record { parameters = parameters_after [] reply; columns = Some (columns_of (described reply)) }) })

told_exchange : (rule : Rule) (x : Extended) (d : Described) → IsExchange (asked_by rule (requests.Describe (record x { described = Some d })))
told_exchange rule x d = by (nat_eq x.statement 0) (option_map (λ (e : Entry). e.statement) (leaving rule))
  where
    told : Extended
    told = record x { described = Some d }

    closes : (o : Option ℕ) → IsExchange (by_leaving told d o)
    closes (Some statement) = tt
    closes None = behind_exchange (behind_goal x.goal told d keepings.Puts)

    by : (b : Bool) (o : Option ℕ) → IsExchange (cond b (request_behind (behind_goal x.goal told d keepings.Stays)) (by_leaving told d o))
    by true o = behind_exchange (behind_goal x.goal told d keepings.Stays)
    by false o = closes o

after_exchange : (rule : Rule) (a : After) → IsExchange (asked_by rule (request_behind a))
after_exchange rule (afters.Run bound) = tt
after_exchange rule (afters.Fill filling) = tt
after_exchange rule (afters.Prepare prepared) = by prepared.columns
  where
    by : (o : Option (List PgColumn)) → IsExchange (prepare_by rule (record prepared { declared = None }) o)
    by (Some columns) = tt
    by None = tells (entry_at prepared.sql rule.cache.entries)
      where
        tells : (o : Option Entry) → IsExchange (tell_or_describe rule (record prepared { declared = None }) o)
        tells (Some e) = tt
        tells None = tt

described_exchange : (rule : Rule) (x : Extended) → IsExchange (asked_by rule (requests.Describe x))
described_exchange rule x = by x.described refl
  where
    by : (o : Option Described) → x.described ≡ o → IsExchange (behind_description rule x o)
    by None e = tt
    by (Some d) e = subst (λ (o : Option Described). IsExchange (behind_description rule x o)) e (subst (λ (y : Extended). IsExchange (asked_by rule (requests.Describe y))) (ap (λ (o : Option Described). record x { described = o }) (sym e)) (told_exchange rule x d))

-- what is held for it changes nothing of what is asked
told_held : (rule : Rule) (x : Extended) (d : Described) → asked_by (held_by rule (requests.Describe (record x { described = Some d }))) (requests.Describe (record x { described = Some d })) ≡ asked_by rule (requests.Describe (record x { described = Some d }))
told_held rule x d = by (nat_eq x.statement 0)
  where
    told : Extended
    told = record x { described = Some d }

    by : (b : Bool) → asked_by (cond b rule (holding (entry_of told d) rule)) (requests.Describe told) ≡ asked_by rule (requests.Describe told)
    by true = refl
    by false = refl

described_held : (rule : Rule) (x : Extended) → asked_by (held_by rule (requests.Describe x)) (requests.Describe x) ≡ asked_by rule (requests.Describe x)
described_held rule x = by x.described refl
  where
    by : (o : Option Described) → x.described ≡ o → asked_by (held_by rule (requests.Describe x)) (requests.Describe x) ≡ asked_by rule (requests.Describe x)
    by None e = ap (λ (o : Option Described). asked_by (held_behind rule x o) (requests.Describe x)) e
    by (Some d) e = subst (λ (y : Extended). asked_by (held_by rule (requests.Describe y)) (requests.Describe y) ≡ asked_by rule (requests.Describe y)) (ap (λ (o : Option Described). record x { described = o }) (sym e)) (told_held rule x d)

after_held : (rule : Rule) (a : After) → asked_by (held_by rule (request_behind a)) (request_behind a) ≡ asked_by rule (request_behind a)
after_held rule (afters.Run bound) = refl
after_held rule (afters.Fill filling) = refl
after_held rule (afters.Prepare prepared) = refl

-- what was handed on is an exchange, by what is known before it and behind it
record HandsSo (rule : Rule) (next : Request) : Type 0 where
  stands : IsExchange (asked_by rule next)
  same : asked_by (held_by rule next) next ≡ asked_by rule next

hands_so : (rule : Rule) (call : Call) (reply : List BackendMessage) (next : Request) → handed_by call reply ≡ Some next → HandsSo rule next
hands_so rule (calls.Describe x) reply next e =
    let d : Described = record { parameters = parameters_after [] reply; columns = Some (columns_of (described reply)) } in
    subst (HandsSo rule) (same_Some (requests.Describe (record x { described = Some d })) next e) (record { stands = told_exchange rule x d; same = told_held rule x d })
hands_so rule (calls.Evict v) reply next e = subst (HandsSo rule) (same_Some (request_behind v.after) next e) (record { stands = after_exchange rule v.after; same = after_held rule v.after })
hands_so rule (calls.Look l) reply next e = subst (HandsSo rule) (same_Some (requests.Describe l.extended) next e) (record { stands = described_exchange rule l.extended; same = described_held rule l.extended })
hands_so rule (calls.Fill f) reply next e = subst (HandsSo rule) (same_Some (requests.Run (looked_behind f.bound)) next e) (record { stands = tt; same = refl })
hands_so rule _ reply next e = absurd cc

-- ---- what is looked up before it

-- a statement that wasn't described yet is asked for as it is, and is not held
pub undescribed_asks : (rule : Rule) (x : Extended) → x.described ≡ None → asked_by rule (requests.Describe x) ≡ requests.Describe x
undescribed_asks rule x e = ap (λ (o : Option Described). behind_description rule x o) e

pub undescribed_held : (rule : Rule) (x : Extended) → x.described ≡ None → held_by rule (requests.Describe x) ≡ rule
undescribed_held rule x e = ap (λ (o : Option Described). held_behind rule x o) e

-- a lookup for a statement: behind its description, or before that for the types of its arguments
pub record IsLooked (told next : Request) : Type 0 where
  pub extended : Extended
  pub text : List ℕ
  pub tells : told ≡ requests.Describe extended
  pub asks : next ≡ requests.Look (record { text = text; extended = record extended { is_looked_up = true } })

-- its description, once the OIDs of these types are known
pub record IsFound (told next : Request) : Type 0 where
  pub extended : Extended
  pub oids : List ℕ
  pub tells : told ≡ requests.Describe extended
  pub undescribed : extended.described ≡ None
  pub asks : next ≡ requests.Describe (numbered_by oids extended)

-- a described statement, once its columns tell what was looked up, and it is known what is asked within its arguments
abbrev pub ready : Learnt → ArgumentsSeen → Option (List ℕ) → Extended → Extended
ready a arguments filling x = record (telling a x) { arguments = arguments; filling = filling }

pub record IsReady (told next : Request) : Type 0 where
  pub extended : Extended
  pub description : Described
  pub learnt : Learnt
  pub arguments : ArgumentsSeen
  pub filling : Option (List ℕ)
  pub tells : told ≡ requests.Describe extended
  pub described : extended.described ≡ Some description
  pub asks : next ≡ requests.Describe (ready learnt arguments filling extended)

-- a lookup for the arguments of what is run
pub record IsFilling (told next : Request) : Type 0 where
  pub bound : Bound
  pub text : List ℕ
  pub looked : Bool
  pub keeping : Keeping
  pub tells : told ≡ requests.Run bound
  pub asks : next ≡ requests.Fill (record { text = text; bound = record bound { is_looked_up = looked; keeping = keeping } })

-- what is run, once the OIDs within its arguments are known
pub record IsFilled (told next : Request) : Type 0 where
  pub bound : Bound
  pub oids : List ℕ
  pub tells : told ≡ requests.Run bound
  pub asks : next ≡ requests.Run (filled_bound oids bound)

-- so this is asked where that was handed on
abbrev pub LeadsTo : Request → Request → Type 0
LeadsTo told next = (next ≡ told) ⊎ (IsLooked told next ⊎ (IsFound told next ⊎ (IsReady told next ⊎ (IsFilling told next ⊎ IsFilled told next))))

-- one of these in turn
abbrev leads_looked : {told next : Request} → IsLooked told next → LeadsTo told next
leads_looked l = inr (inl l)

abbrev leads_found : {told next : Request} → IsFound told next → LeadsTo told next
leads_found f = inr (inr (inl f))

abbrev leads_ready : {told next : Request} → IsReady told next → LeadsTo told next
leads_ready r = inr (inr (inr (inl r)))

abbrev leads_filling : {told next : Request} → IsFilling told next → LeadsTo told next
leads_filling f = inr (inr (inr (inr (inl f))))

abbrev leads_filled : {told next : Request} → IsFilled told next → LeadsTo told next
leads_filled f = inr (inr (inr (inr (inr f))))

any_leads : (looked : Bool) (names : List Declared) (told asked : Request) (looks knows : List ℕ → Request) (a b : Learnt) (next : Request) → (next ≡ asked → LeadsTo told next) → ((text : List ℕ) → next ≡ looks text → LeadsTo told next) → ((oids : List ℕ) → next ≡ knows oids → LeadsTo told next)
    → LooksAny looked names asked looks knows a next b → LeadsTo told next
any_leads looked [] told asked looks knows a b next n l k h = n h.0
any_leads looked (name ∷ names) told asked looks knows a b next n l k (text, seeks, h) = by text h
  where
    by : (text : Option (List ℕ)) → IsFoundBy (name ∷ names) looks knows b text next → LeadsTo told next
    by (Some text) h = l text h
    by None h = k (oids_under b.types (name ∷ names)) h.1

pub looks_or : (told next : Request) (a b : Learnt) → LooksUp told a next b → LeadsTo told next
looks_or told next a b (inl h) = by told h
  where
    for : (x : Extended) (o : Option Described) → x.described ≡ o → LooksFor x o a next b → LeadsTo (requests.Describe x) next
    for x None e h =
        any_leads x.is_looked_up x.arguments.names (requests.Describe x) (requests.Describe x) (lookup_for (requests.Describe x)) (λ (oids : List ℕ). requests.Describe (numbered_by oids x)) a b next
        (λ is. inl is)
        (λ text is. leads_looked (record { extended = x; text = text; tells = refl; asks = is }))
        (λ oids is. leads_found (record { extended = x; oids = oids; tells = refl; undescribed = e; asks = is })) h
    for x (Some d) e (text, m, seeks, h) = into text h
      where
        into : (text : Option (List ℕ)) → LooksBehind x text m next b → LeadsTo (requests.Describe x) next
        into (Some text) h = leads_looked (record { extended = x; text = text; tells = refl; asks = h.0 })
        into None h =
            let y = telling m x in
            any_leads false (holes_for x.goal x.arguments) (requests.Describe x) (requests.Describe y) (λ (text : List ℕ). requests.Describe (record y { filling = Some text })) (λ (oids : List ℕ). requests.Describe (filled_for oids y)) m b next
            (λ is. leads_ready (record { extended = x; description = d; learnt = m; arguments = x.arguments; filling = x.filling; tells = refl; described = e; asks = is }))
            (λ text is. leads_ready (record { extended = x; description = d; learnt = m; arguments = x.arguments; filling = Some text; tells = refl; described = e; asks = is }))
            (λ oids is. leads_ready (record { extended = x; description = d; learnt = m; arguments = filled oids x.arguments; filling = x.filling; tells = refl; described = e; asks = is })) h

    by : (told : Request) → LooksIn told a next b → LeadsTo told next
    by (requests.Describe x) h = for x x.described refl h
    by (requests.Run bound) h =
        any_leads bound.is_looked_up bound.arguments.holes (requests.Run bound) (requests.Run bound) (lookup_for (requests.Run bound)) (λ (oids : List ℕ). requests.Run (filled_bound oids bound)) a b next
        (λ is. inl is)
        (λ text is. leads_filling (record { bound = bound; text = text; looked = bound.is_looked_up; keeping = bound.keeping; tells = refl; asks = is }))
        (λ oids is. leads_filled (record { bound = bound; oids = oids; tells = refl; asks = is })) h
    by _ h = inl h.0
looks_or told next a b (inr (may, is, types, tables)) = by told may is
  where
    by : (told : Request) → MayLook told → next ≡ vain_lookup told → LeadsTo told next
    by (requests.Describe x) may is = leads_looked (record { extended = x; text = []; tells = refl; asks = is })
    by (requests.Run bound) may is = leads_filling (record { bound = bound; text = []; looked = true; keeping = keepings.Stays; tells = refl; asks = is })
    by _ may is = absurd may

looks_so : (rule : Rule) (told next : Request) → LeadsTo told next → HandsSo rule told → HandsSo rule next
looks_so rule told next (inl same) h = subst (HandsSo rule) (sym same) h
looks_so rule told next (inr (inl l)) h = subst (HandsSo rule) (sym l.asks) (record { stands = tt; same = refl })
looks_so rule told next (inr (inr (inl f))) h =
    let x = numbered_by f.oids f.extended in
    subst (HandsSo rule) (sym f.asks) (record { stands = described_exchange rule x; same = described_held rule x })
looks_so rule told next (inr (inr (inr (inl r)))) h =
    let x = ready r.learnt r.arguments r.filling r.extended in
    subst (HandsSo rule) (sym r.asks) (record { stands = described_exchange rule x; same = described_held rule x })
looks_so rule told next (inr (inr (inr (inr (inl f))))) h = subst (HandsSo rule) (sym f.asks) (record { stands = tt; same = refl })
looks_so rule told next (inr (inr (inr (inr (inr f))))) h = subst (HandsSo rule) (sym f.asks) (record { stands = tt; same = refl })

-- a description that is told is another one than one that isn't
pub described_else : (x y : Extended) (d : Described) → requests.Describe x ≡ requests.Describe y → x.described ≡ Some d → y.described ≡ None → ⊥
described_else x y d e some none = differs (sym some ∙ ap described_of e ∙ none)
  where
    described_of : Request → Option Described
    described_of (requests.Describe z) = z.described
    described_of _ = None

    differs : ◌≡◌ {A = Option Described} (Some d) None → ⊥
    differs e = cc

-- what isn't described yet is held neither as it is handed on nor as it is asked
pub undescribed_next : (rule : Rule) (told next : Request) (x : Extended) → told ≡ requests.Describe x → x.described ≡ None → LeadsTo told next → held_by rule next ≡ rule
undescribed_next rule told next x tells e (inl same) = ap (held_by rule) (same ∙ tells) ∙ undescribed_held rule x e
undescribed_next rule told next x tells e (inr (inl l)) = ap (held_by rule) l.asks
undescribed_next rule told next x tells e (inr (inr (inl f))) = ap (held_by rule) f.asks ∙ undescribed_held rule (numbered_by f.oids f.extended) f.undescribed
undescribed_next rule told next x tells e (inr (inr (inr (inl r)))) = absurd (described_else r.extended x r.description (sym r.tells ∙ tells) r.described e)
undescribed_next rule told next x tells e (inr (inr (inr (inr (inl f))))) = ap (held_by rule) f.asks
undescribed_next rule told next x tells e (inr (inr (inr (inr (inr f))))) = ap (held_by rule) f.asks

-- What comes behind an exchange of one group asks what was handed on, or what is looked up for it, wherever it begins, and is polled.
pub record NextIs (rule : Rule) (d : ℕ) (call : Call) (reply : List BackendMessage) (told next : Request) : Type 0 where
  pub handed : handed_by call reply ≡ Some told
  pub part : Call
  pub is : part ≡ exchange_for (asked_by rule next)
  pub comes : next_call (held_by rule next) (Some next) ≡ Some part
  pub asks : (depth : ℕ) → request_of depth part ≡ asked_by rule next
  pub polled : acts_at_once part ≡ false
  pub one : length (groups_of (request_of d call)) ≡ 1

pub what_is_next : (rule : Rule) (d : ℕ) (call : Call) (reply : List BackendMessage) (status : TransactionStatus) (told next : Request) (a b : Learnt) → answer_by (request_of d call) reply status ≡ beats.HandsOn told → LooksUp told a next b → NextIs rule d call reply told next
what_is_next rule d call reply status told next a b e looks =
    let handed = handed_so d call reply status told e in
    let so = looks_so rule told next (looks_or told next a b looks) (hands_so rule call reply told handed) in
    record {
      handed = handed;
      part = exchange_for (asked_by rule next);
      is = refl;
      comes = ap (λ (r : Request). Some (exchange_for r)) so.same;
      asks = λ depth. exchange_asks depth (asked_by rule next) so.stands;
      polled = (exchange_polled (asked_by rule next)).0;
      one = one_group call (hands_by d call (hands_on_described (request_of d call) reply status told e));
    }
  where
    one_group : (call : Call) → HandsBy call → length (groups_of (request_of d call)) ≡ 1
    one_group call (inl (x, is)) = ap (λ (c : Call). length (groups_of (request_of d c))) is
    one_group call (inr (inl (v, is))) = ap (λ (c : Call). length (groups_of (request_of d c))) is
    one_group call (inr (inr (inl (l, is)))) = ap (λ (c : Call). length (groups_of (request_of d c))) is
    one_group call (inr (inr (inr (f, is)))) = ap (λ (c : Call). length (groups_of (request_of d c))) is

-- it is of the same query, and opens nothing
bound_how : (filling : Option (List ℕ)) (bound : Bound) → after_how (bound_by filling bound) ≡ Some bound.how
bound_how None bound = refl
bound_how (Some text) bound = refl

after_goal : (goal : Goal) (x : Extended) (d : Described) (keeping : Keeping) → after_how (behind_goal goal x d keeping) ≡ goal_how goal
after_goal (goals.Run how) x d keeping = bound_how x.filling (bound_for how x d keeping)
after_goal goals.Prepare x d keeping = refl

behind_how : (a : After) → runs_how (exchange_for (request_behind a)) ≡ after_how a
behind_how (afters.Run bound) = refl
behind_how (afters.Fill filling) = refl
behind_how (afters.Prepare prepared) = refl

goal_behind : (goal : Goal) (x : Extended) (d : Described) (keeping : Keeping) → runs_how (exchange_for (request_behind (behind_goal goal x d keeping))) ≡ goal_how goal
goal_behind goal x d keeping = behind_how (behind_goal goal x d keeping) ∙ after_goal goal x d keeping

told_how : (rule : Rule) (x : Extended) (d : Described) → runs_how (exchange_for (asked_by rule (requests.Describe (record x { described = Some d })))) ≡ goal_how x.goal
told_how rule x d = by (nat_eq x.statement 0) (option_map (λ (e : Entry). e.statement) (leaving rule))
  where
    told : Extended
    told = record x { described = Some d }

    closes : (o : Option ℕ) → runs_how (exchange_for (by_leaving told d o)) ≡ goal_how x.goal
    closes (Some statement) = after_goal x.goal told d keepings.Stays
    closes None = goal_behind x.goal told d keepings.Puts

    by : (b : Bool) (o : Option ℕ) → runs_how (exchange_for (cond b (request_behind (behind_goal x.goal told d keepings.Stays)) (by_leaving told d o))) ≡ goal_how x.goal
    by true o = goal_behind x.goal told d keepings.Stays
    by false o = closes o

described_how : (rule : Rule) (x : Extended) → runs_how (exchange_for (asked_by rule (requests.Describe x))) ≡ goal_how x.goal
described_how rule x = by x.described refl
  where
    by : (o : Option Described) → x.described ≡ o → runs_how (exchange_for (asked_by rule (requests.Describe x))) ≡ goal_how x.goal
    by None e = ap (λ (o : Option Described). runs_how (exchange_for (behind_description rule x o))) e
    by (Some d) e = subst (λ (y : Extended). runs_how (exchange_for (asked_by rule (requests.Describe y))) ≡ goal_how y.goal) (ap (λ (o : Option Described). record x { described = o }) (sym e)) (told_how rule x d)

evicted_how : (rule : Rule) (a : After) → runs_how (exchange_for (asked_by rule (request_behind a))) ≡ after_how a
evicted_how rule (afters.Run bound) = refl
evicted_how rule (afters.Fill filling) = refl
evicted_how rule (afters.Prepare prepared) = by prepared.columns
  where
    by : (o : Option (List PgColumn)) → runs_how (exchange_for (prepare_by rule (record prepared { declared = None }) o)) ≡ None
    by (Some columns) = refl
    by None = tells (entry_at prepared.sql rule.cache.entries)
      where
        tells : (o : Option Entry) → runs_how (exchange_for (tell_or_describe rule (record prepared { declared = None }) o)) ≡ None
        tells (Some e) = refl
        tells None = refl

handed_how : (rule : Rule) (call : Call) (response : List BackendMessage) (told : Request) → handed_by call response ≡ Some told → runs_how (exchange_for (asked_by rule told)) ≡ runs_how call
handed_how rule (calls.Describe x) response told e = ap (λ (r : Request). runs_how (exchange_for (asked_by rule r))) (sym (same_Some _ told e)) ∙ told_how rule x (record { parameters = parameters_after [] response; columns = Some (columns_of (described response)) })
handed_how rule (calls.Evict v) response told e = ap (λ (r : Request). runs_how (exchange_for (asked_by rule r))) (sym (same_Some _ told e)) ∙ evicted_how rule v.after
handed_how rule (calls.Look l) response told e = ap (λ (r : Request). runs_how (exchange_for (asked_by rule r))) (sym (same_Some _ told e)) ∙ described_how rule l.extended
handed_how rule (calls.Fill f) response told e = ap (λ (r : Request). runs_how (exchange_for (asked_by rule r))) (sym (same_Some _ told e))
handed_how rule _ response told e = absurd cc

pub next_how : (rule : Rule) (call : Call) (response : List BackendMessage) (part : Call) → ComesBehind rule call response part → runs_how part ≡ runs_how call
next_how rule call response part (told, a, b, next, handed, looks, is) = ap runs_how is ∙ by (looks_or told next a b looks) ∙ handed_how rule call response told handed
  where
    how : Request → Option How
    how r = runs_how (exchange_for (asked_by rule r))

    by : LeadsTo told next → how next ≡ how told
    by (inl same) = ap how same
    by (inr (inl l)) = ap how l.asks ∙ sym (ap how l.tells ∙ described_how rule l.extended)
    by (inr (inr (inl f))) = ap how f.asks ∙ described_how rule (numbered_by f.oids f.extended) ∙ sym (ap how f.tells ∙ described_how rule f.extended)
    by (inr (inr (inr (inl r)))) = ap how r.asks ∙ described_how rule (ready r.learnt r.arguments r.filling r.extended) ∙ sym (ap how r.tells ∙ described_how rule r.extended)
    by (inr (inr (inr (inr (inl f))))) = ap how f.asks ∙ sym (ap how f.tells)
    by (inr (inr (inr (inr (inr f))))) = ap how f.asks ∙ sym (ap how f.tells)

-- no exchange of a copy from the client comes behind another
pub next_parts : (rule : Rule) (call : Call) (response : List BackendMessage) (part : Call) → ComesBehind rule call response part → parting_of part ≡ parting_of call
next_parts rule call response part (told, a, b, next, handed, looks, is) = ap parting_of is ∙ exchange_parts (asked_by rule next) ∙ sym (by call handed)
  where
    by : (call : Call) → handed_by call response ≡ Some told → parting_of call ≡ partings.None
    by (calls.Describe x) e = refl
    by (calls.Evict v) e = refl
    by (calls.Look l) e = refl
    by (calls.Fill filling) e = refl
    by _ e = absurd cc

next_begins : (rule : Rule) (call : Call) (response : List BackendMessage) (part : Call) → ComesBehind rule call response part → (begins part ≡ false) × (begins_with part ≡ false) × (copies part ≡ false)
next_begins rule call response part (told, a, b, next, handed, looks, is) =
    let so = exchange_polled (asked_by rule next) in
    (ap begins is ∙ so.1, ap begins_with is ∙ so.2, ap copies is ∙ so.3)

-- ---- what is so of an exchange is so of its call

pub record IsOf (call part : Call) : Type 0 where
  pub is_part : IsPartOf call part
  pub opens : begins part ≡ true → begins call ≡ true
  pub opens_with : begins_with part ≡ true → begins_with call ≡ true
  pub wants : wants_how (runs_how part) ≡ true → wants_row call ≡ true
  pub copies : copies part ≡ true → copies call ≡ true

pub first_is_of : (rule : Rule) (call : Call) → IsOf call (first_call rule call)
first_is_of rule call = record {
  is_part = (0, (rule, inl refl));
  opens = λ b. sym (first_begins rule call) ∙ b;
  opens_with = λ b. sym (first_begins_with rule call) ∙ b;
  wants = first_wants rule call;
  copies = λ b. sym (first_copies rule call) ∙ b;
}

-- what is looked up before it stands as an exchange
describes_call : (d : ℕ) (call : Call) (x : Extended) → request_of d call ≡ requests.Describe x → call ≡ calls.Describe x
describes_call d call x is = by (hands_by d call (ap kind_of is)) is
  where
    same : (y : Extended) → requests.Describe y ≡ requests.Describe x → calls.Describe y ≡ calls.Describe x
    same y e = cc

    closes : (v : Eviction) → requests.Evict v ≡ requests.Describe x → ⊥
    closes v e = cc

    looks : (l : Lookup) → requests.Look l ≡ requests.Describe x → ⊥
    looks l e = cc

    fills : (f : Filling) → requests.Fill f ≡ requests.Describe x → ⊥
    fills f e = cc

    by : HandsBy call → request_of d call ≡ requests.Describe x → call ≡ calls.Describe x
    by (inl (y, c)) e = c ∙ same y (sym (ap (request_of d) c) ∙ e)
    by (inr (inl (v, c))) e = absurd (closes v (sym (ap (request_of d) c) ∙ e))
    by (inr (inr (inl (l, c)))) e = absurd (looks l (sym (ap (request_of d) c) ∙ e))
    by (inr (inr (inr (f, c)))) e = absurd (fills f (sym (ap (request_of d) c) ∙ e))

runs_call : (d : ℕ) (call : Call) (bound : Bound) → request_of d call ≡ requests.Run bound → call ≡ calls.Run bound
runs_call d (calls.Run b) bound e = let same : b ≡ bound = cc in ap (λ (x : Bound). calls.Run x) same
runs_call zero calls.Commit bound e = absurd cc
runs_call (suc left) calls.Commit bound e = absurd cc
runs_call zero calls.Rollback bound e = absurd cc
runs_call (suc left) calls.Rollback bound e = absurd cc
runs_call d _ bound e = absurd cc

pub named_call : (d : ℕ) (call : Call) (r told : Request) → named_in r ≡ Some told → request_of d call ≡ r → call ≡ exchange_for r
named_call d call (requests.Describe x) told n e = describes_call d call x e
named_call d call (requests.Run bound) told n e = runs_call d call bound e
named_call d call _ told n e = absurd cc

-- what comes before it is of the same query
pub before_how : (told next : Request) → LeadsTo told next → runs_how (exchange_for next) ≡ runs_how (exchange_for told)
before_how told next (inl is) = ap (λ (r : Request). runs_how (exchange_for r)) is
before_how told next (inr (inl l)) = ap (λ (r : Request). runs_how (exchange_for r)) l.asks ∙ sym (ap (λ (r : Request). runs_how (exchange_for r)) l.tells)
before_how told next (inr (inr (inl f))) = ap (λ (r : Request). runs_how (exchange_for r)) f.asks ∙ sym (ap (λ (r : Request). runs_how (exchange_for r)) f.tells)
before_how told next (inr (inr (inr (inl r)))) = ap (λ (q : Request). runs_how (exchange_for q)) r.asks ∙ sym (ap (λ (q : Request). runs_how (exchange_for q)) r.tells)
before_how told next (inr (inr (inr (inr (inl f))))) = ap (λ (r : Request). runs_how (exchange_for r)) f.asks ∙ sym (ap (λ (r : Request). runs_how (exchange_for r)) f.tells)
before_how told next (inr (inr (inr (inr (inr f))))) = ap (λ (r : Request). runs_how (exchange_for r)) f.asks ∙ sym (ap (λ (r : Request). runs_how (exchange_for r)) f.tells)

pub before_is_of : (rule : Rule) (call : Call) (told next : Request) (a b : Learnt) → first_call rule call ≡ exchange_for told → LooksUp told a next b → IsOf call (exchange_for next)
before_is_of rule call told next a b is looks =
    let none = exchange_polled next in
    record {
      is_part = (0, (rule, inr (told, a, b, next, is, looks, refl)));
      opens = λ k. let y = sym none.1 ∙ k in absurd cc;
      opens_with = λ k. let y = sym none.2 ∙ k in absurd cc;
      copies = λ k. let y = sym none.3 ∙ k in absurd cc;
      wants = λ w. first_wants rule call (ap (λ (c : Call). wants_how (runs_how c)) is ∙ ap wants_how (sym (before_how told next (looks_or told next a b looks))) ∙ w);
    }

pub next_is_of : (rule : Rule) (call part next : Call) (response : List BackendMessage) → IsOf call part → ComesBehind rule part response next → IsOf call next
next_is_of rule call part next response of k =
    let none = next_begins rule part response next k in
    record {
      is_part = (suc of.is_part.0, (rule, part, response, of.is_part.1, k));
      opens = λ b. let x = sym none.0 ∙ b in absurd cc;
      opens_with = λ b. let x = sym none.1 ∙ b in absurd cc;
      copies = λ b. let x = sym none.2 ∙ b in absurd cc;
      wants = λ w. of.wants (ap wants_how (sym (next_how rule part response next k)) ∙ w);
    }
