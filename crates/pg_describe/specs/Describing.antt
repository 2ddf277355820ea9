-- A statement that is described in full: it is prepared, and then the catalog is asked of its columns whether they may be null (PostgreSQL manual,
-- "Message Flow", "Extended Query"; "System Catalogs", pg_attribute).
use Rattle.std.specs.Prelude.{◌≡◌, ◌⊎◌, List, [], length, Option, Some, None, Result, Ok, Err}
use Rattle.futures.specs.declared.task.Poll.{Poll}
use Rattle.futures.specs.declared.task.Poll.TheVariants.{Ready, Pending}
use Rattle.pg_wire.specs.declared.error.Error.{Error}
use Rattle.pg_stream.specs.Links.{LinkSeen}
use Rattle.pg_request.specs.Queries.{QueryText}
use Rattle.pg_resolve.specs.Nullable.{RefusesColumns}
use Rattle.pg_rows.specs.Rows.{RowSeen}
use Rattle.pg_call.specs.declared.kind.How.TheVariants as hows
use Rattle.pg_call.specs.declared.kind.Kind.TheVariants as kinds
use Rattle.pg_call.specs.declared.request.Request.TheVariants as requests
use Rattle.pg_call.specs.declared.statement.Prepared.{Prepared}
use Rattle.pg_call.specs.declared.answer.Turn.{Turn}
use Rattle.pg_call.specs.Answers.{TurnFits, rows_turn, statement_turn}
use Rattle.pg_conn.specs.Connections.{ConnOf, seen_by, started_next}
use Rattle.pg_conn.specs.declared.statement.PgStatement.{PgStatement}
use Rattle.pg_conn.specs.States.{IsCalling, PollsPrepare, TellsPrepared, turn_of}
use Rattle.pg_conn.specs.Turns.{PollsCall, PollsMore}
use Rattle.pg_describe.specs.declared.description.Describe.{Describe}
use Rattle.pg_learning.specs.declared.learnt.Learnt.{Learnt}
use Rattle.pg_nullable.specs.Nulls.{AsksNulls}
use Rattle.pg_describe.specs.Flags.{AreFlags, RefusesFlags}

-- what a turn tells of a statement that was prepared, with what was learnt
abbrev pub TellsTurn : Learnt → Turn → Result PgStatement Error → Type 0
TellsTurn learnt turn answer = (told : Result Prepared Error) × (turn ≡ statement_turn told) × TellsPrepared learnt told answer

-- ---- one poll of a description

-- what the answer to the query on nulls makes of it
abbrev pub TellsNulls : PgStatement → List RowSeen → Result Describe Error → Type 0
TellsNulls p rows (Ok d) = (d.statement ≡ p) × AreFlags rows d.nullable.items
TellsNulls p rows (Err e) = RefusesFlags rows e

abbrev pub HearsNulls : PgStatement → Poll (Result (List RowSeen) Error) → Poll (Result Describe Error) → Option PgStatement → Type 0
HearsNulls p Pending answer told = (answer ≡ Pending) × (told ≡ Some p)
HearsNulls p (Ready (Err e)) answer told = (answer ≡ Ready (Err e)) × (told ≡ None)
HearsNulls p (Ready (Ok rows)) answer told = (told ≡ None) × ((d : Result Describe Error) × (answer ≡ Ready d) × TellsNulls p rows d)

-- an answer to it gives rows, or fails
abbrev pub FitsNulls : Poll Turn → Type 0
FitsNulls Pending = Unit {0}
FitsNulls (Ready turn) = TurnFits (kinds.Run hows.FetchAll) turn

-- the same, by what the core answers
abbrev pub HearsTurn : PgStatement → Poll Turn → Poll (Result Describe Error) → Option PgStatement → Type 0
HearsTurn p turn answer told = (rows : Poll (Result (List RowSeen) Error)) × (turn ≡ turn_of rows_turn rows) × HearsNulls p rows answer told

-- there is no column, so nothing is asked
abbrev pub TellsAtOnce : PgStatement → Poll (Result Describe Error) → Option PgStatement → Type 0
TellsAtOnce p answer told = (p.columns ≡ []) × (told ≡ None) × ((d : Describe) × (answer ≡ Ready (Ok d)) × (d.statement ≡ p) × (d.nullable.items ≡ []))

-- there are too many columns: the preparation stands
abbrev pub TellsTooMany : PgStatement → Poll (Result Describe Error) → Option PgStatement → Type 0
TellsTooMany p answer told = (told ≡ None) × ((e : Error) × (answer ≡ Ready (Err e)) × RefusesColumns (length p.columns) e)

-- what comes behind the preparation
abbrev pub GoesOn : {A : Type 0} → (A → LinkSeen) → PgStatement → ConnOf A → ConnOf A → Poll (Result Describe Error) → Option PgStatement → Type 0
GoesOn seen p a b answer told =
    ((b ≡ a) × TellsAtOnce p answer told)
    ⊎ (((b ≡ a) × TellsTooMany p answer told)
    ⊎ ((query : QueryText) × (turn : Poll Turn) × AsksNulls p.columns query × PollsMore (seen_by seen (started_next (requests.FetchAll query) a)) (seen_by seen b) turn × HearsTurn p turn answer told))

abbrev pub GoesOnBehind : {A : Type 0} → (A → LinkSeen) → Poll (Result PgStatement Error) → ConnOf A → ConnOf A → Poll (Result Describe Error) → Option PgStatement → Type 0
GoesOnBehind seen Pending a b answer told = (b ≡ a) × (answer ≡ Pending) × (told ≡ None)
GoesOnBehind seen (Ready (Err e)) a b answer told = (b ≡ a) × (answer ≡ Ready (Err e)) × (told ≡ None)
GoesOnBehind seen (Ready (Ok p)) a b answer told = GoesOn seen p a b answer told

-- the statement is prepared in the first polls; once that is told, the query on nulls runs
abbrev pub PollsDescribe : {A : Type 0} → (A → LinkSeen) → Option PgStatement → ConnOf A → ConnOf A → Poll (Result Describe Error) → Option PgStatement → Type 0
PollsDescribe {A} seen None a b answer told = (m : ConnOf A) × (first : Poll (Result PgStatement Error)) × PollsPrepare (seen_by seen a) (seen_by seen m) first × GoesOnBehind seen first m b answer told
PollsDescribe seen (Some p) a b answer told = (turn : Poll Turn) × PollsCall (seen_by seen a) (seen_by seen b) turn × HearsTurn p turn answer told

-- the call that runs
abbrev pub IsDescribing : {A : Type 0} → Option PgStatement → ConnOf A → Type 0
IsDescribing None c = IsCalling kinds.Prepare c
IsDescribing (Some p) c = IsCalling (kinds.Run hows.FetchAll) c

-- it still runs where it waits
abbrev pub StaysDescribing : {A : Type 0} → Option PgStatement → ConnOf A → Poll (Result Describe Error) → Type 0
StaysDescribing told c Pending = IsDescribing told c
StaysDescribing told c (Ready answer) = Unit {0}
