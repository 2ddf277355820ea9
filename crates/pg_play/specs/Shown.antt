-- What the call of a step asks, what it shows of the response to it, and what it answers.
use Rattle.std.specs.Prelude.{◌≡◌, ◌⊎◌, ℕ, ◌-◌, ◌^◌, min, Bool, true, false, List, [], ◌∷◌, filter, flat_map, map, take, sum_by, Option, Some, None, option_map, unwrap_or, zero, suc}
use Rattle.pg_rows.specs.Rows.{RowSeen}
use Rattle.pg_wire.specs.Backend.{BackendMessage, DataRow, CommandComplete, BackendCopyData}
use Rattle.pg_wire.specs.Completion.{rows_affected}
use Rattle.pg_request.specs.Queries.{QueryText, ArgumentsSeen, plain_text}
use Rattle.pg_rule.specs.declared.rule.Rule.{Rule}
use Rattle.pg_rule.specs.Caches.{entry_at}
use Rattle.pg_learning.specs.declared.learnt.Learnt.{Learnt}
use Rattle.pg_conn.specs.Looking.{LooksUp}
use Rattle.pg_conn.specs.States.{to_prepare}
use Rattle.pg_conn.specs.Statements.{run_or_describe, asked_by, begun_as}
use Rattle.pg_call.specs.Calls.{next_of}
use Rattle.pg_call.specs.declared.kind.How.{How}
use Rattle.pg_call.specs.declared.kind.How.TheVariants as hows
use Rattle.pg_call.specs.declared.statement.Prepared.{Prepared}
use Rattle.pg_call.specs.declared.feed.Feed.{Feed}
use Rattle.pg_call.specs.declared.request.Request.{Request}
use Rattle.pg_call.specs.declared.request.Request.TheVariants as requests
use Rattle.pg_call.specs.declared.answer.CallItem.{CallItem}
use Rattle.pg_call.specs.declared.answer.CallItem.TheVariants as call_items
use Rattle.pg_call.specs.declared.answer.CallAnswer.{CallAnswer}
use Rattle.pg_call.specs.declared.answer.CallAnswer.TheVariants as call_answers
use Rattle.pg_report.specs.declared.outcome.Item.{Item}
use Rattle.pg_report.specs.declared.outcome.Item.TheVariants.{Row, Count, Piece}
use Rattle.pg_report.specs.declared.outcome.Answer.{Answer}
use Rattle.pg_report.specs.declared.outcome.Answer.TheVariants.{Unit as AnswersUnit, Total, Described}
use Rattle.pg_script.specs.declared.step.Call.{Call}
use Rattle.pg_script.specs.declared.step.Fed.{Fed}
use Rattle.pg_script.specs.declared.step.Call.TheVariants as calls
use Rattle.pg_script.specs.declared.step.Parting.{Parting}
use Rattle.pg_script.specs.declared.step.Parting.TheVariants as partings

-- what ends a transaction or a savepoint where so many are open: nothing is asked where none is
abbrev pub ending : (ℕ → Request) → ℕ → Request
ending ends zero = requests.Flush
ending ends (suc left) = ends left

-- how a copy from the client that was open was given up
abbrev pub parting_of : Call → Parting
parting_of (calls.Feed fed) = fed.parting
parting_of call = partings.None

-- a copy from the client as it was fed
abbrev pub feed_of : Fed → Feed
feed_of fed = record { query = plain_text fed.sql; pieces = fed.pieces; is_ended = fed.is_ended }

-- What an exchange asks of a connection on which so many transactions and savepoints are open. A rollback without waiting, and the release of a lock, is no call of the
-- connection, a chain is some of them, and what to prepare and to clear is no exchange yet: they ask nothing.
abbrev pub request_of : ℕ → Call → Request
request_of depth (calls.Execute query) = requests.Execute query
request_of depth (calls.ExecuteMany query) = requests.ExecuteMany query
request_of depth (calls.Fetch query) = requests.Fetch query
request_of depth (calls.FetchMany query) = requests.FetchMany query
request_of depth (calls.FetchAll query) = requests.FetchAll query
request_of depth (calls.FetchOptional query) = requests.FetchOptional query
request_of depth (calls.FetchOne query) = requests.FetchOne query
request_of depth calls.Ping = requests.Ping
request_of depth calls.Flush = requests.Flush
request_of depth calls.Begin = requests.Begin depth
request_of depth (calls.BeginWith query) = requests.BeginWith query
request_of depth calls.Commit = ending requests.Commit depth
request_of depth calls.Rollback = ending requests.Rollback depth
request_of depth calls.StartRollback = requests.Flush
request_of depth (calls.Release text) = requests.Flush
request_of depth (calls.Prepare preparation) = requests.Flush
request_of depth calls.Clear = requests.Flush
request_of depth (calls.CopyOut query) = requests.CopyOut query
request_of depth (calls.Chain chain) = requests.Flush
request_of depth (calls.Describe extended) = requests.Describe extended
request_of depth (calls.Run bound) = requests.Run bound
request_of depth (calls.Evict eviction) = requests.Evict eviction
request_of depth (calls.Look lookup) = requests.Look lookup
request_of depth (calls.Fill filling) = requests.Fill filling
request_of depth (calls.Tell prepared) = requests.Prepare prepared
request_of depth (calls.CloseAll statements) = requests.Clear statements
request_of depth (calls.Feed fed) = requests.CopyIn (feed_of fed)

-- what a step asks: what is but an exchange of a call asks nothing
abbrev pub asked_of : ℕ → Call → Request
asked_of depth (calls.Prepare preparation) = to_prepare preparation
asked_of depth calls.Clear = requests.Clear []
asked_of depth (calls.Describe extended) = requests.Flush
asked_of depth (calls.Run bound) = requests.Flush
asked_of depth (calls.Evict eviction) = requests.Flush
asked_of depth (calls.Look lookup) = requests.Flush
asked_of depth (calls.Fill filling) = requests.Flush
asked_of depth (calls.Tell prepared) = requests.Flush
asked_of depth (calls.CloseAll statements) = requests.Flush
asked_of depth call = request_of depth call

-- no step asks for what only an exchange is, or tells of a statement that wasn't described
abbrev pub IsWanted : Request → Type 0
IsWanted (requests.Describe extended) = ⊥
IsWanted (requests.Run bound) = ⊥
IsWanted (requests.Evict eviction) = ⊥
IsWanted (requests.Look lookup) = ⊥
IsWanted (requests.Fill filling) = ⊥
IsWanted (requests.Prepare prepared) = prepared.columns ≡ None
IsWanted _ = Unit {0}

-- what is asked at first: a copy from the client with none of its data
abbrev pub IsBegun : Request → Type 0
IsBegun (requests.CopyIn feed) = feed.is_ended ≡ false
IsBegun _ = Unit {0}

-- no copy from the client
abbrev pub IsUncopied : Request → Type 0
IsUncopied (requests.CopyIn feed) = ⊥
IsUncopied _ = Unit {0}

-- ---- the exchanges of a call

-- an exchange that asks this; what isn't asked of the server is a flush
abbrev pub exchange_for : Request → Call
exchange_for (requests.Describe extended) = calls.Describe extended
exchange_for (requests.Run bound) = calls.Run bound
exchange_for (requests.Evict eviction) = calls.Evict eviction
exchange_for (requests.Look lookup) = calls.Look lookup
exchange_for (requests.Fill filling) = calls.Fill filling
exchange_for (requests.Prepare prepared) = calls.Tell prepared
exchange_for (requests.Clear statements) = calls.CloseAll statements
exchange_for _ = calls.Flush

-- a query with arguments runs the statement of its text that is kept, and else has one described first (PostgreSQL manual, "Extended Query")
abbrev pub first_as : Rule → How → QueryText → Option ArgumentsSeen → Call → Call
first_as rule how query None call = call
first_as rule how query (Some arguments) call = exchange_for (run_or_describe rule how query.sql arguments query.persistent (entry_at query.sql rule.cache.entries))

-- the first exchange of a call, by what is known of the session
abbrev pub first_call : Rule → Call → Call
first_call rule (calls.Execute query) = first_as rule hows.Execute query query.arguments (calls.Execute query)
first_call rule (calls.ExecuteMany query) = first_as rule hows.ExecuteMany query query.arguments (calls.ExecuteMany query)
first_call rule (calls.Fetch query) = first_as rule hows.Fetch query query.arguments (calls.Fetch query)
first_call rule (calls.FetchMany query) = first_as rule hows.FetchMany query query.arguments (calls.FetchMany query)
first_call rule (calls.FetchAll query) = first_as rule hows.FetchAll query query.arguments (calls.FetchAll query)
first_call rule (calls.FetchOptional query) = first_as rule hows.FetchOptional query query.arguments (calls.FetchOptional query)
first_call rule (calls.FetchOne query) = first_as rule hows.FetchOne query query.arguments (calls.FetchOne query)
first_call rule (calls.Prepare preparation) = exchange_for (asked_by rule (to_prepare preparation))
first_call rule calls.Clear = exchange_for (asked_by rule (begun_as rule (requests.Clear [])))
first_call rule (calls.Describe extended) = calls.Flush
first_call rule (calls.Run bound) = calls.Flush
first_call rule (calls.Evict eviction) = calls.Flush
first_call rule (calls.Look lookup) = calls.Flush
first_call rule (calls.Fill filling) = calls.Flush
first_call rule (calls.Tell prepared) = calls.Flush
first_call rule (calls.CloseAll statements) = calls.Flush
first_call rule call = call

-- what is asked behind the response to an exchange
abbrev pub handed_by : Call → List BackendMessage → Option Request
handed_by (calls.Describe extended) response = next_of (requests.Describe extended) response
handed_by (calls.Evict eviction) response = next_of (requests.Evict eviction) response
handed_by (calls.Look lookup) response = next_of (requests.Look lookup) response
handed_by (calls.Fill filling) response = next_of (requests.Fill filling) response
handed_by call response = None

-- what is asked next, by what was learnt: what was handed on, or before it what has to be looked up for it
abbrev pub LooksOn : Option Request → Learnt → Option Request → Learnt → Type 0
LooksOn None a next b = (next ≡ None) × (b ≡ a)
LooksOn (Some told) a next b = (asked : Request) × (next ≡ Some asked) × LooksUp told a asked b

-- the exchange that asks it, by what is known then
abbrev pub next_call : Rule → Option Request → Option Call
next_call rule next = option_map (λ asked. exchange_for (asked_by rule asked)) next

-- so this one comes behind that response to another
abbrev pub ComesBehind : Rule → Call → List BackendMessage → Call → Type 0
ComesBehind rule before response part = (told : Request) × (a b : Learnt) × (next : Request) × (handed_by before response ≡ Some told) × LooksUp told a next b × (part ≡ exchange_for (asked_by rule next))

-- what is looked up before a statement is described, or before one that is kept is run; or that itself, once the types are known
abbrev pub ComesBefore : Call → Call → Type 0
ComesBefore first part = (told : Request) × (a b : Learnt) × (next : Request) × (first ≡ exchange_for told) × LooksUp told a next b × (part ≡ exchange_for next)

-- an exchange is one of this call, with so many before it, whatever may be known of the session
abbrev pub IsPartBehind : ℕ → Call → Call → Type 0
IsPartBehind zero call part = (rule : Rule) × ((part ≡ first_call rule call) ⊎ ComesBefore (first_call rule call) part)
IsPartBehind (suc n) call part = (rule : Rule) × (before : Call) × (response : List BackendMessage) × IsPartBehind n call before × ComesBehind rule before response part

abbrev pub IsPartOf : Call → Call → Type 0
IsPartOf call part = (n : ℕ) × IsPartBehind n call part

-- whether it has a text, which a connection gets a copy of
abbrev pub has_query : Call → Bool
has_query calls.Ping = false
has_query calls.Flush = false
has_query calls.Begin = false
has_query calls.Commit = false
has_query calls.Rollback = false
has_query calls.StartRollback = false
has_query calls.Clear = false
has_query _ = true

-- whether it opens a transaction or a savepoint
abbrev pub begins : Call → Bool
begins calls.Begin = true
begins (calls.BeginWith query) = true
begins _ = false

-- whether it does so by a text of its own, which opens no savepoint
abbrev pub begins_with : Call → Bool
begins_with (calls.BeginWith query) = true
begins_with _ = false

-- whether it asks for a copy, and so for another answer than one without
abbrev pub copies : Call → Bool
copies (calls.CopyOut query) = true
copies (calls.Feed fed) = true
copies _ = false

-- whether it releases a lock, without waiting
abbrev pub is_release : Call → Bool
is_release (calls.Release text) = true
is_release _ = false

-- whether it is a copy from the client, as it came
abbrev pub is_fed : Call → Bool
is_fed (calls.Feed fed) = true
is_fed _ = false

-- whether it acts at once, without a poll
abbrev pub acts_at_once : Call → Bool
acts_at_once calls.StartRollback = true
acts_at_once (calls.Release text) = true
acts_at_once _ = false

-- ---- the answer rule

-- a row for each DataRow, a count for each CommandComplete, and a piece for each CopyData, in order
abbrev pub item_in : BackendMessage → List Item
item_in (DataRow values) = Row values ∷ []
item_in (CommandComplete tag) = Count (rows_affected tag) ∷ []
item_in (BackendCopyData bytes) = Piece bytes ∷ []
item_in _ = []

abbrev pub items_in : List BackendMessage → List Item
items_in response = flat_map item_in response

abbrev pub is_row : Item → Bool
is_row (Row values) = true
is_row _ = false

abbrev pub is_count : Item → Bool
is_count (Count n) = true
is_count _ = false

-- a row or a count
abbrev pub is_result : Item → Bool
is_result (Piece bytes) = false
is_result _ = true

abbrev pub is_piece : Item → Bool
is_piece (Piece bytes) = true
is_piece _ = false

abbrev pub count_of : Item → ℕ
count_of (Count n) = n
count_of _ = 0

-- what a query shows of the items of its response
abbrev pub shown_as : How → List Item → List Item
shown_as hows.Execute items = []
shown_as hows.ExecuteMany items = filter is_count items
shown_as hows.Fetch items = filter is_row items
shown_as hows.FetchMany items = filter is_result items
shown_as hows.FetchAll items = filter is_row items
shown_as hows.FetchOptional items = take 1 (filter is_row items)
shown_as hows.FetchOne items = take 1 (filter is_row items)

-- how a call runs a query; a description, and what has none, shows nothing
abbrev pub how_of : Call → Option How
how_of (calls.Execute query) = Some hows.Execute
how_of (calls.ExecuteMany query) = Some hows.ExecuteMany
how_of (calls.Fetch query) = Some hows.Fetch
how_of (calls.FetchMany query) = Some hows.FetchMany
how_of (calls.FetchAll query) = Some hows.FetchAll
how_of (calls.FetchOptional query) = Some hows.FetchOptional
how_of (calls.FetchOne query) = Some hows.FetchOne
how_of (calls.Run bound) = Some bound.how
how_of call = None

abbrev pub shown_how : Option How → List Item → List Item
shown_how None items = []
shown_how (Some how) items = shown_as how items

-- what it shows of them: a copy its pieces
abbrev pub shown_by : Call → List Item → List Item
shown_by (calls.CopyOut query) items = filter is_piece items
shown_by call items = shown_how (how_of call) items

-- whether it shows them with its answer, and so none without it
abbrev pub waits_how : Option How → Bool
waits_how (Some hows.FetchAll) = true
waits_how (Some hows.FetchOptional) = true
waits_how (Some hows.FetchOne) = true
waits_how how = false

abbrev pub waits_to_show : Call → Bool
waits_to_show call = waits_how (how_of call)

-- what it answers where all went well: execute the sum of the counts, up to u64's greatest value
abbrev pub answered_how : Option How → List Item → Answer
answered_how (Some hows.Execute) items = Total (min (sum_by count_of items) (2 ^ 64 - 1))
answered_how how items = AnswersUnit

-- a statement as it was described
abbrev pub described_as : Prepared → Answer
described_as prepared = Described prepared.parameters (unwrap_or prepared.columns [])

abbrev pub answered_by : Call → List Item → Answer
answered_by (calls.Tell prepared) items = described_as prepared
answered_by (calls.Feed fed) items = answered_how (Some hows.Execute) items
answered_by call items = answered_how (how_of call) items

-- whether it must have a row
abbrev pub wants_how : Option How → Bool
wants_how (Some hows.FetchOne) = true
wants_how how = false

abbrev pub wants_row : Call → Bool
wants_row call = wants_how (how_of call)

-- ---- what a connection's call shows and answers, as outcomes tell it

abbrev pub item_of : CallItem → Item
item_of (call_items.Row row) = Row row.values
item_of (call_items.Count n) = Count n.rows
item_of (call_items.Piece bytes) = Piece bytes

abbrev pub one_row : Option RowSeen → List Item
one_row None = []
one_row (Some row) = Row row.values ∷ []

-- the items, or those that come with the answer
abbrev pub items_with : List Item → CallAnswer → List Item
items_with items (call_answers.Rows rows) = map (λ row. Row row.values) rows
items_with items (call_answers.OneRow row) = one_row row
items_with items _ = items

-- whether items come with the answer
abbrev pub has_rows : CallAnswer → Bool
has_rows (call_answers.Rows rows) = true
has_rows (call_answers.OneRow row) = true
has_rows _ = false

abbrev pub answer_of : CallAnswer → Answer
answer_of (call_answers.Total n) = Total n.rows
answer_of (call_answers.Statement prepared) = described_as prepared
answer_of _ = AnswersUnit
