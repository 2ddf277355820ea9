-- What is looked up before a statement is described and behind that, and what the rows of a lookup make of what was learnt.
use Rattle.std.specs.Prelude.{◌≡◌, ◌≢◌, ◌⊎◌, ℕ, ◌+◌, ◌-◌, ◌^◌, min, not, is_some, ◌&&◌, Bool, true, false, List, [], ◌∷◌, ◌++◌, unwrap_or, option_map, Option, Some, None, Result, Err, if◌then◌else◌}
use Rattle.std.specs.List.{AllByRecursion}
use Rattle.pg_wire.specs.declared.error.Error.{Error}
use Rattle.pg_wire.specs.declared.error.Error.TheVariants as errors
use Rattle.pg_wire.specs.Frame.{Frame}
use Rattle.pg_wire.specs.Backend.{Values, DataRow, backend_frame, HasBackendFrame}
use Rattle.pg_request.specs.declared.naming.Declared.{Declared}
use Rattle.pg_request.specs.Asked.{RefusesType, declared_names}
use Rattle.pg_request.specs.Queries.{ArgumentsSeen, holes_by, names_by}
use Rattle.pg_columns.specs.declared.column.PgColumn.{PgColumn}
use Rattle.pg_call.specs.declared.kind.Keeping.{Keeping}
use Rattle.pg_call.specs.declared.kind.Keeping.TheVariants as keepings
use Rattle.pg_call.specs.declared.statement.Bound.{Bound}
use Rattle.pg_call.specs.declared.statement.Goal.{Goal}
use Rattle.pg_call.specs.declared.statement.Goal.TheVariants as goals
use Rattle.pg_call.specs.declared.statement.Described.{Described}
use Rattle.pg_call.specs.declared.statement.Extended.{Extended}
use Rattle.pg_call.specs.declared.request.Request.{Request}
use Rattle.pg_call.specs.declared.request.Request.TheVariants as requests
use Rattle.pg_call.specs.declared.request.Sort.{Sort}
use Rattle.pg_call.specs.declared.request.Sort.TheVariants as sorts
use Rattle.pg_call.specs.Requests.{CanBeSaid, IsRefusal, declared_for, filled_bound, filled_for, looked_behind, numbered_by, sort_of}
use Rattle.pg_rule.specs.declared.rule.Rule.{Rule}
use Rattle.pg_rule.specs.declared.cache.Entry.{Entry}
use Rattle.pg_rule.specs.Caches.{entry_at}
use Rattle.pg_resolve.specs.Settling.{Has}
use Rattle.pg_learning.specs.declared.learnt.Learnt.{Learnt}
use Rattle.pg_learning.specs.Learning.{FailsSeeking, Seeks, TakesRow, begun_with}
use Rattle.pg_learning.specs.Naming.{begun_names, oids_under, unknown_name}
use Rattle.pg_learning.specs.Telling.{learnt_columns}
use Rattle.pg_call.specs.declared.calling.Call.{Call}
use Rattle.pg_call.specs.declared.calling.Call.TheVariants as calls
use Rattle.pg_call.specs.Hearing.{asked_in}
use Rattle.pg_conn.specs.Connections.{ConnOf, IsUnresolved, cleaned, ended, handed, idle, resolved}

-- ---- which lookup comes next

-- the names of columns are told of a statement that is prepared, and of no other
abbrev pub wants_names : Goal → Bool
wants_names goals.Prepare = true
wants_names (goals.Run how) = false

-- the columns that were described, none of what gives no rows
abbrev pub columns_told : Option (List PgColumn) → List PgColumn
columns_told columns = unwrap_or columns []

-- what was described, with what was looked up of its columns
abbrev pub described_with : Learnt → Described → Described
described_with a d = record d { columns = option_map (learnt_columns a) d.columns }

abbrev pub telling : Learnt → Extended → Extended
telling a x = record x { described = option_map (described_with a) x.described }

-- behind the description itself, lookups begin
abbrev pub begun_for : Extended → Described → Learnt → Learnt
begun_for x d a = if x.is_looked_up then a else begun_with d.parameters (columns_told d.columns) a

-- what a statement has by name alone: the types of its arguments before it is described, and behind that those within the arguments with which it is run
abbrev pub holes_for : Goal → ArgumentsSeen → List Declared
holes_for (goals.Run how) arguments = arguments.holes
holes_for goals.Prepare arguments = []

abbrev pub wanted_by : Extended → Option Described → List Declared
wanted_by x None = x.arguments.names
wanted_by x (Some d) = holes_for x.goal x.arguments

abbrev pub wanted_in : Request → List Declared
wanted_in (requests.Describe x) = wanted_by x x.described
wanted_in (requests.Run bound) = bound.arguments.holes
wanted_in told = []

-- the lookup for it by this text
abbrev pub lookup_for : Request → List ℕ → Request
lookup_for (requests.Describe x) text = requests.Look (record { text = text; extended = record x { is_looked_up = true } })
lookup_for (requests.Run bound) text = requests.Fill (record { text = text; bound = bound })
lookup_for told text = told

-- ---- types that are known by their names alone

-- where nothing was looked up for them yet, lookups begin
abbrev pub begun_by : Bool → List Declared → Learnt → Learnt
begun_by looked names a = if looked then a else begun_names names a

-- what is asked by the text of a lookup, where there is one, and else what is asked with their OIDs, each of which is known
abbrev pub IsFound : List Declared → (List ℕ → Request) → (List ℕ → Request) → Learnt → Option (List ℕ) → Request → Type 0
IsFound names looks knows b (Some text) next = next ≡ looks text
IsFound names looks knows b None next = (unknown_name b.types names ≡ None) × (next ≡ knows (oids_under b.types names))

abbrev pub LooksNamed : Bool → List Declared → (List ℕ → Request) → (List ℕ → Request) → Learnt → Request → Learnt → Type 0
LooksNamed looked names looks knows a next b = (text : Option (List ℕ)) × Seeks [] false (begun_by looked names a) text b × IsFound names looks knows b text next

-- where there are none, what was told is asked
abbrev pub LooksAny : Bool → List Declared → Request → (List ℕ → Request) → (List ℕ → Request) → Learnt → Request → Learnt → Type 0
LooksAny looked [] told looks knows a next b = (next ≡ told) × (b ≡ a)
LooksAny looked (name ∷ names) told looks knows a next b = LooksNamed looked (name ∷ names) looks knows a next b

-- ---- the next lookup for what was told, or none

-- the lookups for what it is run with
abbrev pub LooksInto : Extended → Learnt → Request → Learnt → Type 0
LooksInto x m next b = LooksAny false (holes_for x.goal x.arguments) (requests.Describe x) (λ text. requests.Describe (record x { filling = Some text })) (λ oids. requests.Describe (filled_for oids x)) m next b

-- they come behind those for what was described, whose columns tell then what was looked up
abbrev pub LooksBehind : Extended → Option (List ℕ) → Learnt → Request → Learnt → Type 0
LooksBehind x (Some text) m next b = (next ≡ lookup_for (requests.Describe x) text) × (b ≡ m)
LooksBehind x None m next b = LooksInto (telling m x) m next b

abbrev pub LooksFor : Extended → Option Described → Learnt → Request → Learnt → Type 0
LooksFor x None a next b = LooksAny x.is_looked_up x.arguments.names (requests.Describe x) (lookup_for (requests.Describe x)) (λ oids. requests.Describe (numbered_by oids x)) a next b
LooksFor x (Some d) a next b = (text : Option (List ℕ)) × (m : Learnt) × Seeks (columns_told d.columns) (wants_names x.goal) (begun_for x d a) text m × LooksBehind x text m next b

abbrev pub LooksIn : Request → Learnt → Request → Learnt → Type 0
LooksIn (requests.Describe x) a next b = LooksFor x x.described a next b
LooksIn (requests.Run bound) a next b = LooksAny bound.is_looked_up bound.arguments.holes (requests.Run bound) (lookup_for (requests.Run bound)) (λ oids. requests.Run (filled_bound oids bound)) a next b
LooksIn told a next b = (next ≡ told) × (b ≡ a)

-- ---- a lookup that can't be asked

-- a statement that was described, or what has types that are known by their names alone
abbrev pub MayLookFor : Extended → Option Described → Type 0
MayLookFor x None = x.arguments.names ≢ []
MayLookFor x (Some d) = Unit {0}

abbrev pub MayLook : Request → Type 0
MayLook (requests.Describe x) = MayLookFor x x.described
MayLook (requests.Run bound) = bound.arguments.holes ≢ []
MayLook told = ⊥

-- no text: that of a lookup that can't be asked
abbrev pub no_text : List ℕ
no_text = []

-- it makes nothing of the statements that are kept
abbrev pub vain_lookup : Request → Request
vain_lookup (requests.Run bound) = lookup_for (requests.Run (looked_behind bound)) no_text
vain_lookup told = lookup_for told no_text

-- it isn't asked: memory is wanting, rows wait for types that nothing more asks for, or a name has no OID
abbrev pub IsUnasked : Request → Learnt → Request → Learnt → Type 0
IsUnasked told a next b = MayLook told × (next ≡ vain_lookup told) × (b.types ≡ a.types) × (b.tables ≡ a.tables)

-- ---- the next lookup, or none, or that it fails

abbrev pub LooksUp : Request → Learnt → Request → Learnt → Type 0
LooksUp told a next b = LooksIn told a next b ⊎ IsUnasked told a next b

-- what is asked next stands where an exchange has handed on this
abbrev pub AsksNext : {A : Type 0} → Request → ConnOf A → Request → ConnOf A → Type 0
AsksNext told a next b = (learnt : Learnt) × LooksUp told a.learnt next learnt × (b ≡ handed next (record a { learnt = learnt }))

-- no OID is known under one of these names
abbrev pub MissesName : List Declared → Learnt → Error → Type 0
MissesName names a e = RefusesType (unknown_name a.types names) e

-- memory is wanting, rows wait for types that nothing more asks for, or a name has no OID
abbrev pub IsUnlookedFor : {A : Type 0} → List Declared → ConnOf A → ConnOf A → Error → Type 0
IsUnlookedFor names a b e = (b ≡ record a { learnt = b.learnt }) × (b.learnt.types ≡ a.learnt.types) × (b.learnt.tables ≡ a.learnt.tables) × ((e ≡ errors.OutOfMemory) ⊎ (FailsSeeking b.learnt.seeking e ⊎ MissesName names b.learnt e))

abbrev pub IsUnlooked : {A : Type 0} → Request → ConnOf A → ConnOf A → Error → Type 0
IsUnlooked told a b e = IsUnlookedFor (wanted_in told) a b e

-- the call is over, as behind an exchange that has done nothing
abbrev pub unlooked : {A : Type 0} → ConnOf A → ConnOf A
unlooked c = ended (record c { call = calls.Idle; groups = 0; earlier = min (c.earlier + c.groups) (2 ^ 64 - 1) })

-- ---- what rows make of it

-- rows were taken one after another, of which the last one may have been refused
abbrev pub LearnsRows : List Values → Learnt → Learnt → Type 0
LearnsRows [] a b = b ≡ a
LearnsRows (values ∷ rows) a c = (b : Learnt) × (result : Result (Unit {0}) Error) × TakesRow values a b result × LearnsRows rows b c

abbrev pub AreHeard : List Frame → List Values → Type 0
AreHeard hs rows = AllByRecursion (λ values. Has hs (backend_frame (DataRow values))) rows

-- of what was heard, these rows were taken
abbrev pub Learns : List Frame → Learnt → Learnt → Type 0
Learns hs a b = (rows : List Values) × AreHeard hs rows × LearnsRows rows a b

-- the last message is a row that wasn't taken, and left so much learnt
abbrev pub FailsRow : List Frame → Learnt → Error → Type 0
FailsRow hs behind e = (front : List Frame) × (values : Values) × (before : Learnt) × (hs ≡ front ++ backend_frame (DataRow values) ∷ []) × HasBackendFrame (DataRow values) × TakesRow values before behind (Err e)

-- with so much learnt, a lookup of these types isn't asked since rows wait for types that nothing more asks for, or since one of them has no OID; or its last row wasn't taken
abbrev pub FailsFor : List Declared → List Frame → Learnt → Error → Type 0
FailsFor names hs learnt e = FailsSeeking learnt.seeking e ⊎ (FailsRow hs learnt e ⊎ MissesName names learnt e)

-- the types that a lookup is for
abbrev pub looks_for : Request → Option (List Declared)
looks_for (requests.Look lookup) = Some (wanted_by lookup.extended lookup.extended.described)
looks_for (requests.Fill filling) = Some filling.bound.arguments.holes
looks_for request = None

abbrev pub LookFails : Request → List Frame → Learnt → Error → Type 0
LookFails r hs learnt e = (names : List Declared) × (looks_for r ≡ Some names) × FailsFor names hs learnt e

-- the front is a row of the lookup that runs, which is taken; where it can't be for want of memory, nothing has changed
abbrev pub TakesFront : Frame → Learnt → Learnt → Result (Unit {0}) Error → Type 0
TakesFront f a b result = ((values : Values) × (f ≡ backend_frame (DataRow values)) × HasBackendFrame (DataRow values) × TakesRow values a b result) ⊎ ((b ≡ a) × (result ≡ Err errors.OutOfMemory))

-- ---- before the first exchange of a call

-- what has types that are known by their names alone: a statement that isn't described yet, or the arguments with which one that is kept is run
abbrev pub if_named : Request → List Declared → Option Described → Option Request
if_named told (name ∷ names) None = Some told
if_named told names described = None

abbrev pub if_kept : Keeping → Bound → Option Request
if_kept (keepings.Hits number) bound = if_named (requests.Run bound) bound.arguments.holes None
if_kept keeping bound = None

abbrev pub named_in : Request → Option Request
named_in (requests.Describe x) = if_named (requests.Describe x) x.arguments.names x.described
named_in (requests.Run bound) = if_kept bound.keeping bound
named_in request = None

abbrev pub named_by : Call → Option Request
named_by (calls.Asked request) = named_in request
named_by call = None

-- whether there is such a thing, by what is asked: of a query the arguments, where a statement of its text is kept, and else the statement
abbrev pub has_names : List Declared → Bool
has_names [] = false
has_names (name ∷ names) = true

abbrev pub asks_query : Option ArgumentsSeen → Option Entry → Bool
asks_query arguments None = has_names (names_by arguments)
asks_query arguments (Some entry) = has_names (holes_by arguments)

abbrev pub is_kept : Keeping → Bool
is_kept (keepings.Hits number) = true
is_kept keeping = false

abbrev pub asks_run : Request → Bool
asks_run (requests.Run bound) = is_kept bound.keeping && has_names bound.arguments.holes
asks_run request = false

abbrev pub asks_as : Rule → Sort → Bool
asks_as rule (sorts.Query how query) = asks_query query.arguments (entry_at query.sql rule.cache.entries)
asks_as rule (sorts.Describe x) = has_names x.arguments.names && not (is_some x.described)
asks_as rule (sorts.Prepare p) = has_names (declared_names (declared_for p)) && (not (is_some p.columns) && not (is_some (entry_at p.sql rule.cache.entries)))
asks_as rule (sorts.Plain request) = asks_run request
asks_as rule sorts.Clear = false

abbrev pub asks_names : Rule → Request → Bool
asks_names rule request = asks_as rule (sort_of request)

abbrev pub asks_by : Rule → Call → Bool
asks_by rule (calls.Asked request) = asks_names rule request
asks_by rule call = false

-- what is asked first stands as an exchange that frames can say, and what has to be looked up before it is asked as if it had been handed on
abbrev pub AsksNamed : {A : Type 0} → Option Request → ConnOf A → ConnOf A → Type 0
AsksNamed None a b = b ≡ a
AsksNamed (Some told) a b = CanBeSaid told × ((next : Request) × AsksNext told (resolved a) next b)

abbrev pub AsksFirst : {A : Type 0} → ConnOf A → ConnOf A → Type 0
AsksFirst a b = AsksNamed (named_by (resolved a).call) a b

-- it is refused as it is, before anything is looked up for it
abbrev pub RefusesFirst : {A : Type 0} → Option Request → ConnOf A → ConnOf A → Error → Type 0
RefusesFirst None a b e = ⊥
RefusesFirst (Some told) a b e = IsRefusal told e × (b ≡ cleaned (idle (resolved a)))

-- or a lookup for it can't be asked
abbrev pub UnlooksFirst : {A : Type 0} → Option Request → ConnOf A → ConnOf A → Error → Type 0
UnlooksFirst None a b e = ⊥
UnlooksFirst {A} (Some told) a b e = CanBeSaid told × MayLook told × ((m : ConnOf A) × IsUnlooked told (idle (resolved a)) m e × (b ≡ unlooked m))

-- or there was no memory for the exchange
abbrev pub FailsFirst : {A : Type 0} → ConnOf A → ConnOf A → Error → Type 0
FailsFirst a b e = (asks_by a.rule a.call ≡ true) × (((e ≡ errors.OutOfMemory) × IsUnresolved a b) ⊎ (RefusesFirst (asked_in (resolved a).call) a b e ⊎ UnlooksFirst (asked_in (resolved a).call) a b e))
