-- The request rule: which messages a call sends (PostgreSQL manual, "Message Flow", "Simple Query").
use Rattle.std.specs.Prelude.{◌≡◌, ◌&&◌, ◌||◌, is_some, not, ℕ, nat_eq, option_map, unwrap_or, ◌<◌, ◌≤◌, ◌⊎◌, List, [], ◌∷◌, ◌++◌, length, map, flat_map, codes, Bool, true, false, Option, Some, None, if◌then◌else◌}
use Rattle.std.specs.List.{AllByRecursion}
use Rattle.pg_wire.specs.declared.error.Error.{Error}
use Rattle.pg_wire.specs.declared.error.Error.TheVariants as errors
use Rattle.pg_wire.specs.Bytes.{HasNoNul}
use Rattle.pg_wire.specs.Frame.{text_of}
use Rattle.pg_wire.specs.Frontend.{FrontendMessage, frontend_frame, HasFrontendFrame, Query, Parse, Bind, CloseStatement, Sync, Terminate, CopyFail, CopyData, CopyDone, name_under, statement_name}
use Rattle.pg_wire.specs.declared.error.ProtocolFault.TheVariants as protocol
use Rattle.pg_wire.specs.declared.error.CallerFault.TheVariants as callers
use Rattle.pg_wire.specs.Encoding.{Refuses, body_max}
use Rattle.pg_exchanges.specs.Expecting.{Widths}
use Rattle.pg_exchanges.specs.Answering.{closing, describing, running}
use Rattle.pg_request.specs.declared.naming.Declared.{Declared}
use Rattle.pg_request.specs.declared.naming.Declared.TheVariants as declared
use Rattle.pg_request.specs.Asked.{filled, numbered}
use Rattle.pg_request.specs.Queries.{QueryText, ArgumentsSeen, plain_text}
use Rattle.pg_request.specs.Texts.{begin_text, commit_text, rollback_text}
use Rattle.pg_columns.specs.declared.column.PgColumn.{PgColumn}
use Rattle.pg_values.specs.declared.format.PgValueFormat.{PgValueFormat}
use Rattle.pg_values.specs.declared.format.PgValueFormat.TheVariants as formats
use Rattle.pg_rows.specs.declared.heading.Heading.{Heading}
use Rattle.pg_call.specs.declared.kind.How.{How}
use Rattle.pg_call.specs.declared.kind.How.TheVariants as hows
use Rattle.pg_call.specs.declared.kind.Kind.{Kind}
use Rattle.pg_call.specs.declared.kind.Kind.TheVariants as kinds
use Rattle.pg_call.specs.declared.kind.Change.{Change}
use Rattle.pg_call.specs.declared.kind.Change.TheVariants as changes
use Rattle.pg_call.specs.declared.kind.Keeping.{Keeping}
use Rattle.pg_call.specs.declared.kind.Keeping.TheVariants as keepings
use Rattle.pg_call.specs.declared.statement.Goal.{Goal}
use Rattle.pg_call.specs.declared.statement.Goal.TheVariants as goals
use Rattle.pg_call.specs.declared.statement.Described.{Described}
use Rattle.pg_call.specs.declared.statement.Extended.{Extended}
use Rattle.pg_call.specs.declared.statement.Bound.{Bound}
use Rattle.pg_call.specs.declared.statement.Prepared.{Prepared}
use Rattle.pg_call.specs.declared.after.After.{After}
use Rattle.pg_call.specs.declared.after.After.TheVariants as afters
use Rattle.pg_call.specs.declared.after.Rest.{Rest}
use Rattle.pg_call.specs.declared.after.Rest.TheVariants as rests
use Rattle.pg_call.specs.declared.feed.Feed.{Feed}
use Rattle.pg_call.specs.declared.request.Request.{Request}
use Rattle.pg_call.specs.declared.request.Sort.{Sort}
use Rattle.pg_call.specs.declared.request.Sort.TheVariants as sorts
use Rattle.pg_call.specs.declared.request.Request.TheVariants as requests

abbrev pub Group : Type 0
Group = List FrontendMessage

-- groups, one after another
abbrev pub said_in : List Group → List FrontendMessage
said_in groups = flat_map (λ group. group) groups

-- the bytes of messages
abbrev pub spelled : List FrontendMessage → List ℕ
spelled messages = text_of (map frontend_frame messages)

abbrev pub kind_of : Request → Kind
kind_of (requests.Execute query) = kinds.Run hows.Execute
kind_of (requests.ExecuteMany query) = kinds.Run hows.ExecuteMany
kind_of (requests.Fetch query) = kinds.Run hows.Fetch
kind_of (requests.FetchMany query) = kinds.Run hows.FetchMany
kind_of (requests.FetchAll query) = kinds.Run hows.FetchAll
kind_of (requests.FetchOptional query) = kinds.Run hows.FetchOptional
kind_of (requests.FetchOne query) = kinds.Run hows.FetchOne
kind_of (requests.Begin depth) = kinds.Begin
kind_of (requests.BeginWith query) = kinds.Begin
kind_of (requests.Commit left) = kinds.Commit
kind_of (requests.Rollback left) = kinds.Rollback
kind_of (requests.Describe extended) = kinds.Describe
kind_of (requests.Run bound) = kinds.Run bound.how
kind_of (requests.Look lookup) = kinds.Describe
kind_of (requests.Evict eviction) = kinds.Describe
kind_of (requests.Fill filling) = kinds.Describe
kind_of (requests.Prepare prepared) = kinds.Prepare
kind_of (requests.Clear statements) = kinds.Clear
kind_of requests.Ping = kinds.Ping
kind_of requests.Flush = kinds.Flush
kind_of requests.Close = kinds.Close
kind_of (requests.CopyOut query) = kinds.CopyOut
kind_of (requests.CopyIn feed) = kinds.CopyIn

-- what its Query says
abbrev pub query_of : Request → Option QueryText
query_of (requests.Execute query) = Some query
query_of (requests.ExecuteMany query) = Some query
query_of (requests.Fetch query) = Some query
query_of (requests.FetchMany query) = Some query
query_of (requests.FetchAll query) = Some query
query_of (requests.FetchOptional query) = Some query
query_of (requests.FetchOne query) = Some query
query_of (requests.Begin depth) = Some (plain_text (begin_text None depth))
query_of (requests.BeginWith query) = Some query
query_of (requests.Commit left) = Some (plain_text (commit_text left))
query_of (requests.Rollback left) = Some (plain_text (rollback_text left))
query_of (requests.CopyOut query) = Some query
query_of (requests.Look lookup) = Some (plain_text lookup.text)
query_of (requests.Fill filling) = Some (plain_text filling.text)
query_of _ = None

-- the groups of a call: one Query for a query, for what opens or ends a transaction and for a copy, one Sync for a ping, and none for a flush and a close
abbrev pub groups_by : Kind → Option QueryText → List Group
groups_by kind (Some query) = (Query query.sql ∷ []) ∷ []
groups_by kinds.Ping None = (Sync ∷ []) ∷ []
groups_by _ None = []

-- the name of the statement of this number, of which 0 is the unnamed one ("Message Formats", Parse)
abbrev pub name_of : ℕ → List ℕ
name_of number = name_under statement_name number

-- the message that closes a statement
abbrev pub close_of : ℕ → FrontendMessage
close_of number = CloseStatement (name_of number)

-- that its data has come to its end
abbrev pub ended_by : Bool → List FrontendMessage
ended_by ended = if ended then CopyDone ∷ [] else []

-- a copy from the client, and its data ("COPY Operations"): it has one response
abbrev pub feeding : Feed → List FrontendMessage
feeding feed = Query feed.query.sql ∷ map CopyData feed.pieces ++ ended_by feed.is_ended

-- a statement is prepared once more, where it is
abbrev pub parsing_by : List ℕ → List ℕ → Option (List ℕ) → List FrontendMessage
parsing_by name types None = []
parsing_by name types (Some sql) = Parse name sql types ∷ []

abbrev pub parsing_again : Bound → List FrontendMessage
parsing_again bound = parsing_by (name_of bound.statement) bound.arguments.types bound.again

-- and run
abbrev pub running_bound : Bound → List FrontendMessage
running_bound bound = parsing_again bound ++ running (name_of bound.statement) bound.arguments.values 0

-- A statement is prepared and described, what is so prepared is run with its arguments, and statements are closed ("Extended Query").
abbrev pub groups_of : Request → List Group
groups_of (requests.Describe extended) = describing (name_of extended.statement) extended.sql extended.arguments.types ∷ []
groups_of (requests.Run bound) = running_bound bound ∷ []
groups_of (requests.Evict eviction) = closing (name_of eviction.statement ∷ []) ∷ []
groups_of (requests.Clear statements) = closing (map name_of statements) ∷ []
groups_of (requests.CopyIn feed) = feeding feed ∷ []
groups_of request = groups_by (kind_of request) (query_of request)

-- how many columns a statement has, where that is known: of one that is prepared once more it isn't
abbrev pub width_by : Option (List ℕ) → Option (List PgColumn) → Option ℕ
width_by None columns = option_map length columns
width_by (Some sql) columns = None

abbrev pub width_of : Bound → Option ℕ
width_of bound = width_by bound.again bound.columns

-- the same under its name
abbrev pub known : List ℕ → Option ℕ → Widths
known name None = []
known name (Some width) = (name, width) ∷ []

abbrev pub widths_of : Request → Widths
widths_of (requests.Run bound) = known (name_of bound.statement) (width_of bound)
widths_of _ = []

-- ---- what comes of an exchange at its end

-- the kind of the call for which a statement is described
abbrev pub goal_kind : Goal → Kind
goal_kind (goals.Run how) = kinds.Run how
goal_kind goals.Prepare = kinds.Prepare

-- the same of what comes behind a close
abbrev pub after_kind : After → Kind
after_kind (afters.Run bound) = kinds.Run bound.how
after_kind (afters.Fill filling) = kinds.Run filling.bound.how
after_kind (afters.Prepare prepared) = kinds.Prepare

abbrev pub request_behind : After → Request
request_behind (afters.Run bound) = requests.Run bound
request_behind (afters.Fill filling) = requests.Fill filling
request_behind (afters.Prepare prepared) = requests.Prepare (record prepared { declared = None })

-- a query, in one of its ways
abbrev pub raw : How → QueryText → Request
raw hows.Execute query = requests.Execute query
raw hows.ExecuteMany query = requests.ExecuteMany query
raw hows.Fetch query = requests.Fetch query
raw hows.FetchMany query = requests.FetchMany query
raw hows.FetchAll query = requests.FetchAll query
raw hows.FetchOptional query = requests.FetchOptional query
raw hows.FetchOne query = requests.FetchOne query

-- what is asked, by what decides how
abbrev pub sort_of : Request → Sort
sort_of (requests.Execute query) = sorts.Query hows.Execute query
sort_of (requests.ExecuteMany query) = sorts.Query hows.ExecuteMany query
sort_of (requests.Fetch query) = sorts.Query hows.Fetch query
sort_of (requests.FetchMany query) = sorts.Query hows.FetchMany query
sort_of (requests.FetchAll query) = sorts.Query hows.FetchAll query
sort_of (requests.FetchOptional query) = sorts.Query hows.FetchOptional query
sort_of (requests.FetchOne query) = sorts.Query hows.FetchOne query
sort_of (requests.Describe extended) = sorts.Describe extended
sort_of (requests.Prepare prepared) = sorts.Prepare prepared
sort_of (requests.Clear statements) = sorts.Clear
sort_of request = sorts.Plain request

-- a query without arguments
abbrev pub is_raw_sort : Sort → Bool
is_raw_sort (sorts.Query how query) = not (is_some query.arguments)
is_raw_sort sort = false

abbrev pub is_raw : Request → Bool
is_raw request = is_raw_sort (sort_of request)

-- a Query makes an end of the statement without a name ("Extended Query"), so where one comes behind its Parse, it is parsed once more
abbrev pub is_parsed_again : Extended → Bool
is_parsed_again x = (x.is_looked_up || is_some x.filling) && nat_eq x.statement 0

abbrev pub parsed_again : Bool → List ℕ → Option (List ℕ)
parsed_again again sql = if again then Some sql else None

-- what is so described is run, or before that this is asked, by which types within its arguments are looked up
abbrev pub bound_by : Option (List ℕ) → Bound → After
bound_by None bound = afters.Run bound
bound_by (Some text) bound = afters.Fill (record { text = text; bound = bound })

abbrev pub bound_for : How → Extended → Described → Keeping → Bound
bound_for how x d keeping = record { how = how; statement = x.statement; again = parsed_again (is_parsed_again x) x.sql; arguments = x.arguments; columns = d.columns; is_looked_up = false; keeping = keeping }

-- what a statement was described for, which makes this of the statements that are kept
abbrev pub behind_goal : Goal → Extended → Described → Keeping → After
behind_goal (goals.Run how) x d keeping = bound_by x.filling (bound_for how x d keeping)
behind_goal goals.Prepare x d keeping = afters.Prepare (record { sql = x.sql; parameters = d.parameters; columns = d.columns; keeping = keeping; declared = None })

-- a statement that was described so
abbrev pub told : List ℕ → Option (List PgColumn) → Extended → Extended
told parameters columns x = record x { described = Some (record { parameters = parameters; columns = columns }) }

-- the same with other columns
abbrev pub with_columns : Option (List PgColumn) → Extended → Extended
with_columns columns x = record x { described = option_map (λ (d : Described). record d { columns = columns }) x.described }

-- a statement whose types are known by their OIDs, and behind whose Parse nothing was looked up
abbrev pub numbered_by : List ℕ → Extended → Extended
numbered_by types x = record x { arguments = numbered types x.arguments; is_looked_up = false }

-- the same where the open OIDs within its arguments are known
abbrev pub filled_for : List ℕ → Extended → Extended
filled_for oids x = record x { arguments = filled oids x.arguments }

abbrev pub filled_bound : List ℕ → Bound → Bound
filled_bound oids bound = record bound { arguments = filled oids bound.arguments }

-- behind a lookup for its arguments, which has kept what is to be kept
abbrev pub looked_behind : Bound → Bound
looked_behind bound = record bound { is_looked_up = true; keeping = keepings.Stays }

-- what an exchange hands on, or answers: the statement that it describes, what comes behind a close, or the statement that it tells of
abbrev pub rest_of : Request → Rest
rest_of (requests.Describe extended) = rests.Describe extended
rest_of (requests.Look lookup) = rests.Look lookup.extended
rest_of (requests.Evict eviction) = rests.After eviction.after
rest_of (requests.Fill filling) = rests.Fill filling.bound
rest_of (requests.Prepare prepared) = rests.Tell prepared
rest_of _ = rests.Nothing

-- what describing a statement of this number makes of those that are kept: its name uses up a number
abbrev pub named_keeping : ℕ → Keeping
named_keeping number = if nat_eq number 0 then keepings.Stays else keepings.Draws

-- what a request makes of them, once its group is queued, or it is Ok
abbrev pub keeping_of : Request → Keeping
keeping_of (requests.Describe extended) = named_keeping extended.statement
keeping_of (requests.Run bound) = bound.keeping
keeping_of (requests.Evict eviction) = keepings.Evicts
keeping_of (requests.Fill filling) = filling.bound.keeping
keeping_of (requests.Prepare prepared) = prepared.keeping
keeping_of (requests.Clear statements) = keepings.Clears
keeping_of _ = keepings.Stays

-- whether a call shows rows, or hands their columns on
abbrev pub sees_rows : Kind → Bool
sees_rows (kinds.Run hows.Execute) = false
sees_rows (kinds.Run hows.ExecuteMany) = false
sees_rows (kinds.Run how) = true
sees_rows kinds.Describe = true
sees_rows _ = false

-- the heading of rows of these columns, which are kept where rows are seen
abbrev pub heading_for : Kind → List PgColumn → PgValueFormat → Heading
heading_for kind columns format = record { columns = if sees_rows kind then Some columns else None; format = format }

-- what is known of its rows before a message of its reply has come: those of a statement that is bound are binary, and all others texts
abbrev pub heading_of : Request → Heading
heading_of (requests.Run bound) = heading_for (kinds.Run bound.how) (unwrap_or bound.columns []) formats.Binary
heading_of request = heading_for (kind_of request) [] formats.Text

-- the kind of the call: that of its last exchange, whose response is the call's own
abbrev pub main_kind : Request → Kind
main_kind (requests.Describe extended) = goal_kind extended.goal
main_kind (requests.Look lookup) = goal_kind lookup.extended.goal
main_kind (requests.Evict eviction) = after_kind eviction.after
main_kind (requests.Fill filling) = kinds.Run filling.bound.how
main_kind request = kind_of request

-- what an Ok of it makes of the transactions that are open
abbrev pub change_of : Kind → Change
change_of kinds.Begin = changes.Opens
change_of kinds.Commit = changes.Closes
change_of kinds.Rollback = changes.Closes
change_of kinds.CopyIn = changes.Copies
change_of _ = changes.Stays

-- a flush and what tells of a statement ask nothing of the server, and Close ends the session
abbrev pub is_flush : Kind → Bool
is_flush kinds.Flush = true
is_flush kinds.Prepare = true
is_flush _ = false

abbrev pub is_close : Kind → Bool
is_close kinds.Close = true
is_close _ = false

-- the message that a close ends the session by, which ends no group ("Termination")
abbrev pub farewell : Kind → List FrontendMessage
farewell kinds.Close = Terminate ∷ []
farewell _ = []

-- all messages of a call
abbrev pub messages_of : Request → List FrontendMessage
messages_of request = said_in (groups_of request) ++ farewell (kind_of request)

-- a name under which a type is asked for has no zero byte
abbrev pub IsNamed : Declared → Type 0
IsNamed (declared.Number oid) = Unit {0}
IsNamed (declared.Name name) = HasNoNul name
IsNamed (declared.ArrayOf element) = HasNoNul element

abbrev pub AreNamed : List Declared → Type 0
AreNamed names = AllByRecursion IsNamed names

-- nor has one within arguments
abbrev pub HaveNames : ArgumentsSeen → Type 0
HaveNames a = AreNamed a.names × AreNamed a.holes

-- the types of the first parameters of a statement to prepare, as its caller declares them
abbrev pub declared_for : Prepared → List Declared
declared_for p = unwrap_or p.declared []

-- what is asked before it and behind it can be said too, and there is a number for its name
abbrev pub LaterCanBeSaid : Request → Type 0
LaterCanBeSaid (requests.Describe extended) = HasFrontendFrame (Bind (name_of extended.statement) extended.arguments.values) × (extended.is_numbered ≡ true) × HaveNames extended.arguments
LaterCanBeSaid (requests.Run bound) = HaveNames bound.arguments
LaterCanBeSaid (requests.Prepare prepared) = AreNamed (declared_for prepared)
LaterCanBeSaid _ = Unit {0}

-- a frame can carry each of them: its texts have no zero byte, and there are at most 65535 arguments
abbrev pub CanBeSaid : Request → Type 0
CanBeSaid request = AllByRecursion HasFrontendFrame (messages_of request) × LaterCanBeSaid request

-- why no frame can ask this: a zero byte in the text, or a text that is too long; want of memory is free
abbrev pub RefusesQuery : Option QueryText → Error → Type 0
RefusesQuery None e = e ≡ errors.OutOfMemory
RefusesQuery (Some query) e = Refuses 0 (HasNoNul query.sql) (length (frontend_frame (Query query.sql)).body) e

-- how long Parse and Bind are
abbrev pub parse_size : Extended → ℕ
parse_size x = length (frontend_frame (Parse (name_of x.statement) x.sql x.arguments.types)).body

abbrev pub bind_size : ℕ → ArgumentsSeen → ℕ
bind_size number arguments = length (frontend_frame (Bind (name_of number) arguments.values)).body

-- a number of arguments or of types that two bytes can't carry
abbrev pub IsTooMany : ArgumentsSeen → ℕ → Type 0
IsTooMany arguments n = ((n ≡ length arguments.values) × (65535 < n)) ⊎ ((length arguments.values ≤ 65535) × (n ≡ length arguments.types) × (65535 < n))

abbrev pub AreFew : ArgumentsSeen → Type 0
AreFew arguments = (length arguments.values ≤ 65535) × (length arguments.types ≤ 65535)

-- the length of Parse, or else of Bind, that is too long
abbrev pub IsTooLong : Extended → ℕ → Type 0
IsTooLong x n = ((n ≡ parse_size x) × (body_max < n)) ⊎ ((parse_size x ≤ body_max) × (n ≡ bind_size x.statement x.arguments) × (body_max < n))

-- no zero byte stands in the text, nor in the name of a type
abbrev pub AreTexts : Extended → Type 0
AreTexts x = HasNoNul x.sql × HaveNames x.arguments

-- why a query with arguments is refused, the first cause that holds: too many arguments or types, a zero byte in a text, a message that is too long, or no number
-- that is left for its name
abbrev pub RefusesExtended : Extended → Error → Type 0
RefusesExtended x (errors.Protocol (protocol.Caller (callers.TooMany n))) = IsTooMany x.arguments n
RefusesExtended x (errors.Protocol (protocol.Caller callers.Nul)) = AreFew x.arguments × (AreTexts x → ⊥)
RefusesExtended x (errors.Protocol (protocol.Caller (callers.TooLong n))) = AreFew x.arguments × AreTexts x × IsTooLong x n
RefusesExtended x (errors.Protocol (protocol.Caller callers.NoStatementNumber)) = AreFew x.arguments × AreTexts x × (parse_size x ≤ body_max) × (bind_size x.statement x.arguments ≤ body_max) × (x.is_numbered ≡ false)
RefusesExtended x errors.OutOfMemory = Unit {0}
RefusesExtended x _ = ⊥

-- why names are refused under which nothing can be asked for: too many arguments come before that
abbrev pub RefusesNames : ArgumentsSeen → Error → Type 0
RefusesNames arguments e = Refuses (length arguments.values) (HaveNames arguments) 0 e

-- the same of a statement to prepare that is kept
abbrev pub RefusesDeclared : List Declared → Error → Type 0
RefusesDeclared declared e = Refuses 0 (AreNamed declared) 0 e

abbrev pub RefusesBind : Bound → Error → Type 0
RefusesBind bound e = Refuses (length bound.arguments.values) (Unit {0}) (bind_size bound.statement bound.arguments) e

-- the same of what is prepared once more before it
abbrev pub RefusesAgain : Bound → Option (List ℕ) → Error → Type 0
RefusesAgain bound None e = ⊥
RefusesAgain bound (Some sql) e = Refuses (length bound.arguments.types) (HasNoNul sql) (length (frontend_frame (Parse (name_of bound.statement) sql bound.arguments.types)).body) e

abbrev pub RefusesRun : Bound → Error → Type 0
RefusesRun bound e = RefusesNames bound.arguments e ⊎ (RefusesAgain bound bound.again e ⊎ RefusesBind bound e)

-- a piece that is too long for a frame
abbrev pub RefusesPieces : List (List ℕ) → Error → Type 0
RefusesPieces [] e = e ≡ errors.OutOfMemory
RefusesPieces (piece ∷ pieces) e = Refuses 0 (Unit {0}) (length piece) e ⊎ RefusesPieces pieces e

abbrev pub RefusesFeed : Feed → Error → Type 0
RefusesFeed feed e = RefusesQuery (Some feed.query) e ⊎ RefusesPieces feed.pieces e

abbrev pub IsRefusal : Request → Error → Type 0
IsRefusal (requests.Describe extended) e = RefusesExtended extended e
IsRefusal (requests.Run bound) e = RefusesRun bound e
IsRefusal (requests.CopyIn feed) e = RefusesFeed feed e
IsRefusal (requests.Prepare prepared) e = RefusesDeclared (declared_for prepared) e
IsRefusal request e = RefusesQuery (query_of request) e

-- the message that ends a copy from the client which no one feeds ("COPY Operations")
abbrev pub copy_fail : FrontendMessage
copy_fail = CopyFail (codes "PgCopyIn dropped without calling finish() or fail()")
