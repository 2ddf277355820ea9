-- A listener that prepares a statement, and one that describes it in full: first it is prepared, and then the catalog is asked of its columns whether they may be
-- null (PostgreSQL manual, "Message Flow", "Extended Query"; "System Catalogs", pg_attribute).
use Rattle.std.specs.Prelude.{◌≡◌, ◌⊎◌, ◌≤◌, ℕ, Option, Some, None, Result, Ok, Err}
use Rattle.futures.specs.declared.task.Poll.{Poll}
use Rattle.futures.specs.declared.task.Poll.TheVariants.{Ready, Pending}
use Rattle.pg_wire.specs.declared.error.Error.{Error}
use Rattle.pg_stream.specs.Links.{LinkSeen}
use Rattle.pg_request.specs.Queries.{QueryText}
use Rattle.pg_call.specs.Answers.{statement_turn}
use Rattle.pg_call.specs.declared.answer.Turn.{Turn}
use Rattle.pg_call.specs.declared.kind.How.TheVariants as hows
use Rattle.pg_call.specs.declared.kind.Kind.{Kind}
use Rattle.pg_call.specs.declared.kind.Kind.TheVariants as kinds
use Rattle.pg_call.specs.declared.request.Request.{Request}
use Rattle.pg_call.specs.declared.request.Request.TheVariants as requests
use Rattle.pg_call.specs.declared.statement.Prepared.{Prepared}
use Rattle.pg_conn.specs.States.{TellsPoll, turn_of}
use Rattle.pg_conn.specs.declared.statement.PgStatement.{PgStatement}
use Rattle.pg_nullable.specs.Nulls.{AsksNulls}
use Rattle.pg_describe.specs.Describing.{HearsTurn, TellsAtOnce, TellsTooMany}
use Rattle.pg_describe.specs.declared.description.Describe.{Describe}
use Rattle.pg_listen.specs.Handed.{FillingOf}
use Rattle.pg_listening.specs.Failing.{BesideSeen}
use Rattle.pg_listening.specs.Sources.{SourceSeen}
use Rattle.pg_listening.specs.Hearing.{HearingOf, learnt_of}
use Rattle.pg_listening.specs.Querying.{IsQuerying, Queries}
use Rattle.pg_listening.specs.Listeners.{ListenerOf, QueriesIn, beside_by}
use Rattle.pg_conn.specs.Connections.{ConnOf}

-- it goes on where it waits
abbrev pub StaysQuerying : {C S A X : Type 0} → (C → ConnOf A) → Kind → Option Request → HearingOf C S A → Poll X → Type 0
StaysQuerying conn kind request h Pending = IsQuerying conn kind request h
StaysQuerying conn kind request h (Ready x) = Unit {0}

-- one poll of a prepare: its answer is what the core tells, with what its connection has learnt, and without what that makes of the statements that are kept
abbrev pub PreparesIn : {C S A : Type 0} → (A → LinkSeen) → (C → ConnOf A) → (C → ConnOf A → C) → (S → FillingOf A) → BesideSeen → Option Request → Option Request → HearingOf C S A → HearingOf C S A → Poll (Result PgStatement Error) → Type 0
PreparesIn seen conn with_conn filling o request rest a b answer = (told : Poll (Result Prepared Error)) × TellsPoll (learnt_of conn b) told answer × QueriesIn seen conn with_conn filling o request rest a b (turn_of statement_turn told)

-- ---- one poll of a description

-- one poll of one of its two calls
abbrev pub QueriesFrom : {B C S A : Type 0} → (A → LinkSeen) → (C → ConnOf A) → (C → ConnOf A → C) → (S → FillingOf A) → (B → SourceSeen) → ℕ → ℕ → Option Request → Option Request → ListenerOf B C S A → ListenerOf B C S A → Poll Turn → Type 0
QueriesFrom seen conn with_conn filling now left behind request rest a b turn = Queries seen conn with_conn filling (beside_by now a b) left behind request rest a.hearing b.hearing turn

-- of the query on nulls
abbrev pub PollsNulls : {B C S A : Type 0} → (A → LinkSeen) → (C → ConnOf A) → (C → ConnOf A → C) → (S → FillingOf A) → (B → SourceSeen) → ℕ → ℕ → PgStatement → Option Request → Option Request → ListenerOf B C S A → ListenerOf B C S A → Poll (Result Describe Error) → Option PgStatement → Type 0
PollsNulls seen conn with_conn filling now left behind p request rest a b answer told = (turn : Poll Turn) × QueriesFrom seen conn with_conn filling now left behind request rest a b turn × HearsTurn p turn answer told

-- it is asked behind the preparation
abbrev pub AsksBehind : {B C S A : Type 0} → (A → LinkSeen) → (C → ConnOf A) → (C → ConnOf A → C) → (S → FillingOf A) → (B → SourceSeen) → ℕ → ℕ → PgStatement → Option Request → ListenerOf B C S A → ListenerOf B C S A → Poll (Result Describe Error) → Option PgStatement → Type 0
AsksBehind seen conn with_conn filling now left behind p rest a b answer told = (query : QueryText) × AsksNulls p.columns query × PollsNulls seen conn with_conn filling now left behind p (Some (requests.FetchAll query)) rest a b answer told

-- nothing is, where there is no column, and where there are too many
abbrev pub GoesOn : {B C S A : Type 0} → (A → LinkSeen) → (C → ConnOf A) → (C → ConnOf A → C) → (S → FillingOf A) → (B → SourceSeen) → ℕ → ℕ → PgStatement → Option Request → ListenerOf B C S A → ListenerOf B C S A → Poll (Result Describe Error) → Option PgStatement → Type 0
GoesOn seen conn with_conn filling now left behind p rest a b answer told = ((b ≡ a) × (rest ≡ None) × (TellsAtOnce p answer told ⊎ TellsTooMany p answer told)) ⊎ AsksBehind seen conn with_conn filling now left behind p rest a b answer told

abbrev pub GoesOnBehind : {B C S A : Type 0} → (A → LinkSeen) → (C → ConnOf A) → (C → ConnOf A → C) → (S → FillingOf A) → (B → SourceSeen) → ℕ → ℕ → Poll (Result PgStatement Error) → Option Request → Option Request → ListenerOf B C S A → ListenerOf B C S A → Poll (Result Describe Error) → Option PgStatement → Type 0
GoesOnBehind seen conn with_conn filling now left behind Pending asked rest a b answer told = (b ≡ a) × (rest ≡ asked) × (answer ≡ Pending) × (told ≡ None)
GoesOnBehind seen conn with_conn filling now left behind (Ready (Err e)) asked rest a b answer told = (b ≡ a) × (rest ≡ asked) × (answer ≡ Ready (Err e)) × (told ≡ None)
GoesOnBehind seen conn with_conn filling now left behind (Ready (Ok p)) asked rest a b answer told = GoesOn seen conn with_conn filling now left behind p rest a b answer told

-- the preparation is polled, and what comes behind it
pub record PollsPrepare {B C S A : Type 0} (seen : A → LinkSeen) (conn : C → ConnOf A) (with_conn : C → ConnOf A → C) (filling : S → FillingOf A) (now : B → SourceSeen) (left behind : ℕ) (request rest : Option Request) (a b : ListenerOf B C S A) (answer : Poll (Result Describe Error)) (told : Option PgStatement) : Type 0 where
  pub mid : ListenerOf B C S A
  pub fewer : ℕ
  pub asked : Option Request
  pub turn : Poll (Result Prepared Error)
  pub first : Poll (Result PgStatement Error)
  pub less : fewer ≤ left
  pub queries : QueriesFrom seen conn with_conn filling now left fewer request asked a mid (turn_of statement_turn turn)
  pub tells : TellsPoll (learnt_of conn mid.hearing) turn first
  pub goes : GoesOnBehind seen conn with_conn filling now fewer behind first asked rest mid b answer told

-- the statement is prepared in the first polls; once that is told, the query on nulls runs
abbrev pub PollsDescribe : {B C S A : Type 0} → (A → LinkSeen) → (C → ConnOf A) → (C → ConnOf A → C) → (S → FillingOf A) → (B → SourceSeen) → ℕ → ℕ → Option PgStatement → Option Request → Option Request → ListenerOf B C S A → ListenerOf B C S A → Poll (Result Describe Error) → Option PgStatement → Type 0
PollsDescribe seen conn with_conn filling now left behind None request rest a b answer told = PollsPrepare seen conn with_conn filling now left behind request rest a b answer told
PollsDescribe seen conn with_conn filling now left behind (Some p) request rest a b answer told = PollsNulls seen conn with_conn filling now left behind p request rest a b answer told

-- within the calls of a link of one poll
abbrev pub DescribesIn : {B C S A : Type 0} → (A → LinkSeen) → (C → ConnOf A) → (C → ConnOf A → C) → (S → FillingOf A) → (B → SourceSeen) → Option PgStatement → Option Request → Option Request → ListenerOf B C S A → ListenerOf B C S A → Poll (Result Describe Error) → Option PgStatement → Type 0
DescribesIn seen conn with_conn filling now before request rest a b answer told = (behind : ℕ) × PollsDescribe seen conn with_conn filling now 256 behind before request rest a b answer told

-- the call that is yet to be asked, or runs
abbrev pub IsDescribing : {C S A : Type 0} → (C → ConnOf A) → Option PgStatement → Option Request → HearingOf C S A → Type 0
IsDescribing conn None request h = IsQuerying conn kinds.Prepare request h
IsDescribing conn (Some p) request h = IsQuerying conn (kinds.Run hows.FetchAll) request h

-- it goes on where it waits
abbrev pub StaysDescribing : {C S A X : Type 0} → (C → ConnOf A) → Option PgStatement → Option Request → HearingOf C S A → Poll X → Type 0
StaysDescribing conn told request h Pending = IsDescribing conn told request h
StaysDescribing conn told request h (Ready x) = Unit {0}
