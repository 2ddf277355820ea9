-- What the calls on databases ask and answer.
use Rattle.std.specs.Prelude.{◌≡◌, ◌⊎◌, ℕ, List, Bool, true, Option, Some, Result, Ok, Err}
use Rattle.futures.specs.declared.task.Poll.{Poll}
use Rattle.futures.specs.declared.task.Poll.TheVariants.{Ready, Pending}
use Rattle.pg_wire.specs.declared.error.Error.{Error}
use Rattle.pg_stream.specs.Links.{LinkSeen}
use Rattle.pg_options.specs.declared.settings.PgSettings.{PgSettings}
use Rattle.pg_values.specs.declared.format.PgValueFormat.{PgValueFormat}
use Rattle.pg_values.specs.Values.{ReadsBy, IsBool, IsBoolText}
use Rattle.pg_arguments.specs.Types.{TypeParts}
use Rattle.pg_rows.specs.Rows.{Misreads, Reads}
use Rattle.pg_call.specs.declared.kind.Kind.{Kind}
use Rattle.pg_call.specs.declared.answer.CallAnswer.{CallAnswer}
use Rattle.pg_call.specs.declared.answer.CallAnswer.TheVariants as answers
use Rattle.pg_call.specs.declared.answer.Turn.{Turn}
use Rattle.pg_call.specs.declared.answer.Turn.TheVariants as turns
use Rattle.pg_conn.specs.Connections.{ConnOf}
use Rattle.pg_migrating.specs.Errands.{AsksAt, AsksOf}
use Rattle.pg_migrating.specs.Sessions.{CameTo, Fails, Goes, IsNewSession, Opening, SessionSeen, Stands, is_over}
use Rattle.pg_migrating.specs.declared.errand.Errand.{Errand}
use Rattle.pg_migrating.specs.declared.errand.Task.{Task}

-- ---- a call of one statement

-- its session is new, for this task on the database that a URL names
abbrev pub AsksFor : {D S A : Type 0} → Opening D S A → Task → PgSettings → List ℕ → SessionSeen S A → Type 0
AsksFor o task env url s = (asked : Result Errand Error) × IsNewSession o asked s × AsksOf (AsksAt task) env url asked

-- what is made of its end
abbrev pub EndsBy : {X : Type 0} → (CallAnswer → X → Type 0) → (CallAnswer → Error → Type 0) → Turn → Result X Error → Type 0
EndsBy reads misreads (turns.Ok answer) (Ok x) = reads answer x
EndsBy reads misreads (turns.Ok answer) (Err e) = misreads answer e
EndsBy reads misreads (turns.Err e) (Err f) = f ≡ e
EndsBy reads misreads turn result = ⊥

-- What a poll tells: at Ok, what is read of the answer that its own call has come to; else that call's error, or that there was no call, or that its
-- answer can't be read.
abbrev pub TellsBy : {D S A X : Type 0} → (CallAnswer → X → Type 0) → (CallAnswer → Error → Type 0) → (A → LinkSeen) → Opening D S A → Result Errand Error → D → SessionSeen S A → D → Poll (Result X Error) → Type 0
TellsBy reads misreads seen o asked d s e Pending = Stands seen o asked d s e
TellsBy {D} {S} {A} reads misreads seen o asked d s e (Ready (Ok x)) = (answer : CallAnswer) × (conn : ConnOf A) × CameTo seen o asked d e (turns.Ok answer) conn × reads answer x
TellsBy {D} {S} {A} reads misreads seen o asked d s e (Ready (Err error)) = ((conn : ConnOf A) × CameTo seen o asked d e (turns.Err error) conn)
    ⊎ Fails seen o asked d e error
    ⊎ ((answer : CallAnswer) × (conn : ConnOf A) × CameTo seen o asked d e (turns.Ok answer) conn × misreads answer error)

-- it goes on while it waits, and then nothing is left of it
abbrev pub Stays : {D S A X : Type 0} → Opening D S A → Kind → SessionSeen S A → Poll X → Type 0
Stays o kind s Pending = Goes o kind s
Stays o kind s (Ready x) = is_over s ≡ true

-- ---- the answers

-- nothing is told of it
abbrev pub is_done : CallAnswer → Unit {0} → Type 0
is_done answer u = Unit {0}

abbrev pub never : CallAnswer → Error → Type 0
never answer e = ⊥

abbrev pub boolean : TypeParts → PgValueFormat → Option (List ℕ) → Bool → Type 0
boolean of = ReadsBy IsBool IsBoolText

-- the bool of the row
abbrev pub Says : CallAnswer → Bool → Type 0
Says (answers.OneRow (Some row)) b = Reads boolean row 0 b
Says answer b = ⊥

abbrev pub HidesBool : CallAnswer → Error → Type 0
HidesBool (answers.OneRow (Some row)) e = Misreads boolean row 0 e
HidesBool answer e = ⊥
