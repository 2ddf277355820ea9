-- One call on what holds a connection, and what is known of it.
use Rattle.std.specs.Prelude.{◌≡◌, ◌⊎◌, ◌+◌, ◌-◌, ◌^◌, ℕ, min, Bool, true, false, Option, Some, None, Result, Ok, Err}
use Rattle.futures.specs.declared.task.Poll.{Poll}
use Rattle.futures.specs.declared.task.Poll.TheVariants.{Ready, Pending}
use Rattle.pg_wire.specs.declared.error.Error.{Error}
use Rattle.pg_stream.specs.Links.{LinkSeen}
use Rattle.pg_call.specs.declared.calling.Call.{Call}
use Rattle.pg_call.specs.declared.kind.Kind.{Kind}
use Rattle.pg_call.specs.declared.answer.CallItem.{CallItem}
use Rattle.pg_call.specs.declared.answer.CallAnswer.{CallAnswer}
use Rattle.pg_call.specs.declared.answer.Turn.{Turn}
use Rattle.pg_call.specs.declared.answer.Turn.TheVariants as turns
use Rattle.pg_call.specs.declared.request.Request.{Request}
use Rattle.pg_call.specs.Answers.{OpensFor}
use Rattle.pg_call.specs.Items.{yields}
use Rattle.pg_conn.specs.Connections.{ConnOf, left, rolled_back, runs, started_call}
use Rattle.pg_conn.specs.States.{IsCalling}
use Rattle.pg_migrating.specs.Calls.{Waits, Called}

-- What is to be asked: a request, or why there is none. Behind the first poll it is gone.
abbrev pub Question : Type 0
Question = Option (Result Request Error)

abbrev pub no_question : Question
no_question = None

-- the call is over where its question was handed on, and no call runs
abbrev pub is_asked : {Q : Type 0} → Option Q → Call → Bool
is_asked (Some asked) call = true
is_asked None call = runs call

-- the connection once the first poll has begun the call: one that still runs is given up
abbrev pub asked_by : {A : Type 0} → Question → ConnOf A → ConnOf A
asked_by None c = c
asked_by (Some (Ok request)) c = started_call request c
asked_by (Some (Err e)) c = left c

abbrev pub refusal : Question → Result (Unit {0}) Error
refusal (Some (Err e)) = Err e
refusal _ = Ok tt

-- the groups that a call has queued in all of its exchanges
abbrev pub groups_of : {A : Type 0} → ConnOf A → ℕ
groups_of c = min (c.earlier + c.groups) (2 ^ 64 - 1)

-- what is left of it: nothing changes where it was never polled, and what was opened and not committed is rolled back
abbrev pub left_of : {Q A : Type 0} → Bool → Option Q → ConnOf A → ConnOf A
left_of true question c = rolled_back c
left_of false None c = left c
left_of false (Some asked) c = c

-- ---- the kind of the call

abbrev pub CallsFor : {A : Type 0} → Kind → Question → ConnOf A → Type 0
CallsFor kind None c = IsCalling kind c
CallsFor kind (Some (Ok request)) c = IsCalling kind (started_call request c)
CallsFor kind (Some (Err e)) c = Unit {0}

-- a kind that shows no items, and opens no copy from the client
abbrev pub IsQuiet : Kind → Type 0
IsQuiet kind = ((item : CallItem) → yields kind item ≡ true → ⊥) × (OpensFor kind → ⊥)

-- so a turn of it is its end
abbrev pub IsEnd : Turn → Type 0
IsEnd (turns.Item item) = ⊥
IsEnd (turns.Opened opened) = ⊥
IsEnd turn = Unit {0}

abbrev pub EndsAs : Turn → Result (Unit {0}) Error → Type 0
EndsAs (turns.Ok answer) (Ok u) = Unit {0}
EndsAs (turns.Err e) (Err f) = f ≡ e
EndsAs _ _ = ⊥

abbrev pub CallsQuietly : {A : Type 0} → Question → ConnOf A → Type 0
CallsQuietly question c = (kind : Kind) × IsQuiet kind × CallsFor kind question c

-- ---- how far it has come

-- The call of this question was begun on the connection a, or is yet to be. It stands at b.
abbrev pub StandsAt : {A : Type 0} → (A → LinkSeen) → Result Request Error → ConnOf A → Question → ConnOf A → Type 0
StandsAt seen asked a (Some question) b = (question ≡ asked) × (b ≡ a)
StandsAt seen asked a None b = (r : Request) × (asked ≡ Ok r) × Waits seen r a b

-- the request was asked, and has come to this
abbrev pub Answers : {A : Type 0} → (A → LinkSeen) → Result Request Error → ConnOf A → ConnOf A → Turn → Type 0
Answers seen asked a b turn = (r : Request) × (asked ≡ Ok r) × Called seen r a b turn

-- or there was none: nothing is asked, and a call that still ran is given up
abbrev pub IsUnasked : {A : Type 0} → Result Request Error → ConnOf A → ConnOf A → Error → Type 0
IsUnasked asked a b e = (asked ≡ Err e) × (b ≡ left a)

-- what a poll says of all of it
abbrev pub Tells : {A : Type 0} → (A → LinkSeen) → Result Request Error → ConnOf A → ConnOf A → Poll Turn → Type 0
Tells seen asked a b Pending = StandsAt seen asked a None b
Tells seen asked a b (Ready (turns.Err e)) = Answers seen asked a b (turns.Err e) ⊎ IsUnasked asked a b e
Tells seen asked a b (Ready turn) = Answers seen asked a b turn

-- the same of a call that shows no items, and of whose answer only is told that it came
abbrev pub TellsEnd : {A : Type 0} → (A → LinkSeen) → Result Request Error → ConnOf A → ConnOf A → Poll (Result (Unit {0}) Error) → Type 0
TellsEnd seen asked a b Pending = StandsAt seen asked a None b
TellsEnd seen asked a b (Ready (Ok u)) = (answer : CallAnswer) × Answers seen asked a b (turns.Ok answer)
TellsEnd seen asked a b (Ready (Err e)) = Answers seen asked a b (turns.Err e) ⊎ IsUnasked asked a b e

-- and the call goes on quietly while it waits
abbrev pub StaysQuiet : {A X : Type 0} → ConnOf A → Poll X → Type 0
StaysQuiet c Pending = CallsQuietly None c
StaysQuiet c (Ready x) = Unit {0}

-- the same of a call of one kind
abbrev pub StaysFor : {A X : Type 0} → Kind → ConnOf A → Poll X → Type 0
StaysFor kind c Pending = CallsFor kind None c
StaysFor kind c (Ready x) = Unit {0}
