-- The states of calls: what is known of the call that runs, and what a poll of it answers.
use Rattle.std.specs.Prelude.{◌≡◌, ℕ, Bool, true, false, List, [], Option, Some, None, Result, Ok, Err}
use Rattle.futures.specs.declared.task.Poll.{Poll}
use Rattle.futures.specs.declared.task.Poll.TheVariants.{Ready, Pending}
use Rattle.pg_wire.specs.declared.error.Error.{Error}
use Rattle.pg_wire.specs.declared.error.Error.TheVariants as errors
use Rattle.pg_stream.specs.Links.{LinkSeen}
use Rattle.pg_wire.specs.Frame.{Frame}
use Rattle.pg_wire.specs.Frontend.{FrontendMessage}
use Rattle.pg_request.specs.declared.preparation.Preparation.{Preparation}
use Rattle.pg_call.specs.declared.kind.Kind.{Kind}
use Rattle.pg_call.specs.declared.kind.Kind.TheVariants as kinds
use Rattle.pg_call.specs.declared.answer.CallAnswer.TheVariants as answers
use Rattle.pg_call.specs.declared.ledger.Ledger.{Ledger}
use Rattle.pg_call.specs.declared.request.Request.{Request}
use Rattle.pg_call.specs.declared.request.Request.TheVariants as requests
use Rattle.pg_call.specs.declared.kind.Keeping.TheVariants as keepings
use Rattle.pg_call.specs.declared.statement.Prepared.{Prepared}
use Rattle.pg_call.specs.declared.answer.CallItem.{CallItem}
use Rattle.pg_call.specs.declared.answer.Turn.{Turn}
use Rattle.pg_call.specs.declared.answer.Turn.TheVariants as turns
use Rattle.pg_call.specs.Requests.{kind_of, main_kind}
use Rattle.pg_call.specs.Answers.{TurnFits, TurnIsPlain, statement_turn}
use Rattle.pg_call.specs.Calls.{CallIs}
use Rattle.pg_call.specs.Hearing.{IsOpen}
use Rattle.pg_learning.specs.declared.learnt.Learnt.{Learnt}
use Rattle.pg_learning.specs.Telling.{learnt_columns}
use Rattle.pg_conn.specs.declared.statement.PgStatement.{PgStatement}
use Rattle.pg_conn.specs.Connections.{ConnOf, ConnSeen, seen_by, begun_by, is_over}
use Rattle.pg_conn.specs.Looking.{columns_told}
use Rattle.pg_conn.specs.Turns.{HasRoom, PollsCall}

-- an exchange of this kind runs, which has come where it is by messages queued, frames heard and items shown, and has room for its cleanup
abbrev pub IsExchanging : {A : Type 0} → Kind → ConnOf A → Type 0
IsExchanging kind c = (start : Ledger) × (r : Request) × (said : List FrontendMessage) × (hs : List Frame) × (items : List CallItem) × (kind_of r ≡ kind) × CallIs start r said hs items c.ledger c.call × HasRoom c

-- the same of a call of this kind, of which an exchange runs
abbrev pub IsCalling : {A : Type 0} → Kind → ConnOf A → Type 0
IsCalling kind c = (start : Ledger) × (r : Request) × (said : List FrontendMessage) × (hs : List Frame) × (items : List CallItem) × (main_kind r ≡ kind) × CallIs start r said hs items c.ledger c.call × HasRoom c

-- the call still runs where it waits or has shown an item
abbrev pub StaysCalling : {A : Type 0} → Kind → ConnOf A → Turn → Type 0
StaysCalling kind b (turns.Item item) = IsCalling kind b
StaysCalling kind b (turns.Opened opened) = IsCalling kind b × IsOpen b.call
StaysCalling kind b _ = Unit {0}

-- what a poll answers is of the call's kind
abbrev pub PollFits : {A : Type 0} → Kind → ConnOf A → Poll Turn → Type 0
PollFits kind b Pending = IsCalling kind b
PollFits kind b (Ready turn) = TurnFits kind turn × StaysCalling kind b turn

-- a poll's answer as the core's
abbrev pub turn_of : {X : Type 0} → (X → Turn) → Poll X → Poll Turn
turn_of f Pending = Pending
turn_of f (Ready x) = Ready (f x)

-- ---- a call without items and without an answer of its own

abbrev pub IsCallingPlainly : {A : Type 0} → ConnOf A → Type 0
IsCallingPlainly c = (kind : Kind) × TurnIsPlain kind × IsCalling kind c

abbrev pub PollFitsPlainly : {A : Type 0} → ConnOf A → Poll Turn → Type 0
PollFitsPlainly b answer = (kind : Kind) × TurnIsPlain kind × PollFits kind b answer

-- ---- what the state of a call keeps

-- Until it is over its call is of this kind, and has room for its cleanup: by some messages queued, frames heard and items shown, which nobody has to name.
abbrev pub KeepsCalling : {A : Type 0} → Kind → Option Request → ConnOf A → Type 0
KeepsCalling kind request c = is_over request c.call ≡ false → (IsCalling kind (begun_by request c) → ⊥) → ⊥

-- the same of a call without items and without an answer of its own
abbrev pub KeepsCallingPlainly : {A : Type 0} → Option Request → ConnOf A → Type 0
KeepsCallingPlainly request c = is_over request c.call ≡ false → (IsCallingPlainly (begun_by request c) → ⊥) → ⊥

-- whether a poll has ended its call
abbrev pub ends_call : Poll Turn → Bool
ends_call Pending = false
ends_call (Ready (turns.Item item)) = false
ends_call (Ready (turns.Opened opened)) = false
ends_call (Ready (turns.Ok answer)) = true
ends_call (Ready (turns.Err e)) = true

-- it has answered
abbrev pub is_ready : {X : Type 0} → Poll X → Bool
is_ready Pending = false
is_ready (Ready x) = true

-- ---- a statement that is prepared

-- a text of whose parameters no type is said
abbrev pub untyped : List ℕ → Preparation
untyped sql = record { sql = sql; types = [] }

-- what is asked for one, of which nothing is described yet
abbrev pub to_prepare : Preparation → Request
to_prepare p = requests.Prepare (record { sql = p.sql; parameters = []; columns = None; keeping = keepings.Stays; declared = Some p.types })

-- what its caller is told of it: the text, the parameters, and the columns with what was learnt of them
abbrev pub statement_of : Learnt → Prepared → PgStatement
statement_of learnt p = record { sql = p.sql; parameters = p.parameters; columns = learnt_columns learnt (columns_told p.columns) }

-- or memory is wanting
abbrev pub TellsStatement : Learnt → Prepared → Result PgStatement Error → Type 0
TellsStatement learnt p (Ok statement) = statement ≡ statement_of learnt p
TellsStatement learnt p (Err e) = e ≡ errors.OutOfMemory

abbrev pub TellsPrepared : Learnt → Result Prepared Error → Result PgStatement Error → Type 0
TellsPrepared learnt (Ok p) answer = TellsStatement learnt p answer
TellsPrepared learnt (Err e) answer = answer ≡ Err e

abbrev pub TellsPoll : Learnt → Poll (Result Prepared Error) → Poll (Result PgStatement Error) → Type 0
TellsPoll learnt Pending answer = answer ≡ Pending
TellsPoll learnt (Ready told) (Ready answer) = TellsPrepared learnt told answer
TellsPoll learnt (Ready told) Pending = ⊥

-- one poll of a prepare: its answer is what the core tells, with what was learnt, and without what that makes of the statements that are kept
abbrev pub PollsPrepare : ConnSeen → ConnSeen → Poll (Result PgStatement Error) → Type 0
PollsPrepare a b answer = (told : Poll (Result Prepared Error)) × TellsPoll b.learnt told answer × PollsCall a b (turn_of statement_turn told)

-- its call still runs where it waits
abbrev pub StaysPreparing : {A : Type 0} → ConnOf A → Poll (Result PgStatement Error) → Type 0
StaysPreparing b Pending = IsCalling kinds.Prepare b
StaysPreparing b (Ready answer) = Unit {0}

-- ---- a close

-- its state is over where the connection was handed out, or where its call has ended
abbrev pub is_closed : {A : Type 0} → Option Request → Option (ConnOf A) → Bool
is_closed request None = true
is_closed request (Some c) = is_over request c.call

-- the call of this connection is the close's
abbrev pub IsClosing : {A : Type 0} → Option Request → Option (ConnOf A) → Type 0
IsClosing request None = Unit {0}
IsClosing request (Some c) = IsCalling kinds.Close (begun_by request c)

-- and it is so until the close is over
abbrev pub KeepsClosing : {A : Type 0} → Option Request → Option (ConnOf A) → Type 0
KeepsClosing request conn = is_closed request conn ≡ false → (IsClosing request conn → ⊥) → ⊥

abbrev pub closing_turn : {X : Type 0} → Result X Error → Turn
closing_turn (Ok x) = turns.Ok answers.Unit
closing_turn (Err e) = turns.Err e

-- what is left of a close: the connection as it stands, or its link alone
abbrev pub KeepsConn : {A : Type 0} → ConnOf A → Option (ConnOf A) → Poll (Result A Error) → Type 0
KeepsConn b new (Ready (Ok link)) = (new ≡ None) × (link ≡ b.stream.link)
KeepsConn b new _ = new ≡ Some b

-- one poll of a close on this connection
abbrev pub PollsClose : {A : Type 0} → (A → LinkSeen) → ConnOf A → Option (ConnOf A) → Poll (Result A Error) → Type 0
PollsClose {A} seen a new answer = (b : ConnOf A) × PollsCall (seen_by seen a) (seen_by seen b) (turn_of closing_turn answer) × (IsCalling kinds.Close a → PollFits kinds.Close b (turn_of closing_turn answer)) × KeepsConn b new answer
