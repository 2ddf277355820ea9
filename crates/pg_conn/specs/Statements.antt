-- Which exchange a call begins with, and which comes next, by the statements that are kept (PostgreSQL manual, "Message Flow", "Extended Query"),
-- and what its end makes of these.
use Rattle.std.specs.Prelude.{ℕ, Bool, true, false, not, ◌&&◌, ◌||◌, nat_eq, leb, List, [], length, map, reverse, Option, Some, None, is_some, option_map, unwrap_or, if◌then◌else◌}
use Rattle.std.specs.List.{last_or}
use Rattle.pg_columns.specs.declared.column.PgColumn.{PgColumn}
use Rattle.pg_request.specs.Queries.{QueryText, ArgumentsSeen}
use Rattle.pg_request.specs.Asked.{declared_arguments}
use Rattle.pg_request.specs.declared.progress.CacheStep.{CacheStep}
use Rattle.pg_request.specs.declared.progress.CacheStep.TheVariants as steps
use Rattle.pg_rule.specs.declared.cache.Entry.{Entry}
use Rattle.pg_rule.specs.declared.rule.Rule.{Rule}
use Rattle.pg_rule.specs.Caches.{entry_at}
use Rattle.pg_rule.specs.Rules.{drawn, number_left, hit, holding, kept, forgotten, cleared}
use Rattle.pg_call.specs.declared.kind.How.{How}
use Rattle.pg_call.specs.declared.kind.Keeping.{Keeping}
use Rattle.pg_call.specs.declared.kind.Keeping.TheVariants as keepings
use Rattle.pg_call.specs.declared.statement.Goal.{Goal}
use Rattle.pg_call.specs.declared.statement.Goal.TheVariants as goals
use Rattle.pg_call.specs.declared.statement.Described.{Described}
use Rattle.pg_call.specs.declared.statement.Extended.{Extended}
use Rattle.pg_call.specs.declared.statement.Prepared.{Prepared}
use Rattle.pg_call.specs.declared.request.Request.{Request}
use Rattle.pg_call.specs.declared.request.Request.TheVariants as requests
use Rattle.pg_call.specs.declared.request.Sort.{Sort}
use Rattle.pg_call.specs.declared.request.Sort.TheVariants as sorts
use Rattle.pg_call.specs.Requests.{behind_goal, declared_for, raw, request_behind, sort_of}

-- ---- a statement that is not kept

-- it gets a name where it is to be kept, and any may be
abbrev pub is_named : Bool → Rule → Bool
is_named persistent rule = persistent && not (nat_eq rule.capacity 0)

-- its number is the next one; 0 is that of the statement without a name
abbrev pub number_for : Bool → Rule → ℕ
number_for persistent rule = if is_named persistent rule then unwrap_or (number_left rule) 4294967295 else 0

-- it has none where a name is wanted and the numbers have run out
abbrev pub is_numbered : Bool → Rule → Bool
is_numbered persistent rule = not (is_named persistent rule) || is_some (number_left rule)

abbrev pub describe : Goal → List ℕ → ArgumentsSeen → Bool → Rule → Request
describe goal sql arguments persistent rule = requests.Describe (record { goal = goal; statement = number_for persistent rule; is_numbered = is_numbered persistent rule; sql = sql; arguments = arguments; described = None; is_looked_up = false; filling = None })

-- ---- a query with arguments: where a statement of its text is kept, that one is run, and else one is described

abbrev pub run_or_describe : Rule → How → List ℕ → ArgumentsSeen → Bool → Option Entry → Request
run_or_describe rule how sql arguments persistent (Some e) = requests.Run (record { how = how; statement = e.statement; again = None; arguments = arguments; columns = Some e.columns; is_looked_up = false; keeping = keepings.Hits e.statement })
run_or_describe rule how sql arguments persistent None = describe (goals.Run how) sql arguments persistent rule

abbrev pub query_by : Rule → How → QueryText → Option ArgumentsSeen → Request → Request
query_by rule how query None request = request
query_by rule how query (Some arguments) request = run_or_describe rule how query.sql arguments query.persistent (entry_at query.sql rule.cache.entries)

-- ---- a statement to prepare: where one of its text is kept, that one is told, and else one is described

abbrev pub tell_or_describe : Rule → Prepared → Option Entry → Request
tell_or_describe rule p (Some e) = requests.Prepare (record { sql = p.sql; parameters = e.parameters; columns = Some e.columns; keeping = keepings.Hits e.statement; declared = p.declared })
tell_or_describe rule p None = describe goals.Prepare p.sql (declared_arguments (declared_for p)) true rule

abbrev pub prepare_by : Rule → Prepared → Option (List PgColumn) → Request
prepare_by rule p (Some columns) = requests.Prepare p
prepare_by rule p None = tell_or_describe rule p (entry_at p.sql rule.cache.entries)

-- ---- behind a description

-- where another one leaves for it, that one is closed first
abbrev pub by_leaving : Extended → Described → Option ℕ → Request
by_leaving x d (Some statement) = requests.Evict (record { statement = statement; after = behind_goal x.goal x d keepings.Stays })
by_leaving x d None = request_behind (behind_goal x.goal x d keepings.Puts)

-- the one that was used longest ago, where as many are kept as may be
abbrev pub leaving : Rule → Option Entry
leaving rule = if leb rule.capacity (length rule.cache.entries) then last_or None rule.cache.entries else None

-- a statement without a name is never kept
abbrev pub behind_description : Rule → Extended → Option Described → Request
behind_description rule x None = requests.Describe x
behind_description rule x (Some d) = if nat_eq x.statement 0 then request_behind (behind_goal x.goal x d keepings.Stays) else by_leaving x d (option_map (λ e. e.statement) (leaving rule))

-- the one that is to be kept
abbrev pub entry_of : Extended → Described → Entry
entry_of x d = record { sql = x.sql; statement = x.statement; parameters = d.parameters; columns = unwrap_or d.columns [] }

abbrev pub held_behind : Rule → Extended → Option Described → Rule
held_behind rule x None = rule
held_behind rule x (Some d) = if nat_eq x.statement 0 then rule else holding (entry_of x d) rule

-- ---- the exchange that a request is

abbrev pub asked_as : Rule → Sort → Request
asked_as rule (sorts.Query how query) = query_by rule how query query.arguments (raw how query)
asked_as rule (sorts.Describe extended) = behind_description rule extended extended.described
asked_as rule (sorts.Prepare prepared) = prepare_by rule prepared prepared.columns
asked_as rule sorts.Clear = requests.Clear (map (λ e. e.statement) (reverse rule.cache.entries))
asked_as rule (sorts.Plain request) = request

abbrev pub asked_by : Rule → Request → Request
asked_by rule request = asked_as rule (sort_of request)

-- what is known of the session meanwhile: behind a description of a statement with a name, that one is held
abbrev pub held_as : Rule → Sort → Rule
held_as rule (sorts.Describe extended) = held_behind rule extended extended.described
held_as rule sort = rule

abbrev pub held_by : Rule → Request → Rule
held_by rule request = held_as rule (sort_of request)

-- a call that closes what is kept asks nothing where nothing is kept
abbrev pub begun_as : Rule → Request → Request
begun_as rule (requests.Clear statements) = if nat_eq (length rule.cache.entries) 0 then requests.Flush else requests.Clear statements
begun_as rule request = request

-- ---- at its end

-- where its group was queued, or it is Ok
abbrev pub moved : Keeping → Rule → Rule
moved keepings.Stays rule = rule
moved (keepings.Hits number) rule = hit number rule
moved keepings.Draws rule = if is_some (number_left rule) then drawn rule else rule
moved keepings.Puts rule = kept rule
moved keepings.Evicts rule = kept rule
moved keepings.Clears rule = cleared rule

-- and where neither is so: what was held is forgotten
abbrev pub unmoved : Keeping → Rule → Rule
unmoved keepings.Puts rule = forgotten rule
unmoved keepings.Evicts rule = forgotten rule
unmoved _ rule = rule

-- what is told of it
abbrev pub step_of : Keeping → CacheStep → CacheStep
step_of (keepings.Hits number) step = steps.Hit
step_of keepings.Puts step = steps.Put
step_of keepings.Evicts step = steps.PutEvicting
step_of _ step = step
