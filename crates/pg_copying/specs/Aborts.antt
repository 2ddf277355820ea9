-- A copy from the client that is given up by a message of its own (PostgreSQL manual, "Message Flow", "COPY Operations").
use Rattle.std.specs.Prelude.{◌≡◌, ◌⊎◌, Bool, true, false, not, List, ℕ, length, bytes_eq, codes, Result, Ok, Err}
use Rattle.futures.specs.declared.task.Poll.{Poll}
use Rattle.futures.specs.declared.task.Poll.TheVariants.{Ready, Pending}
use Rattle.pg_wire.specs.declared.error.Error.{Error}
use Rattle.pg_wire.specs.declared.error.Error.TheVariants as errors
use Rattle.pg_wire.specs.Bytes.{HasNoNul}
use Rattle.pg_wire.specs.Encoding.{Refuses}
use Rattle.pg_wire.specs.Frontend.{CopyFail, frontend_frame}
use Rattle.pg_wire.specs.Reports.{code_of}
use Rattle.pg_stream.specs.Links.{LinkSeen}
use Rattle.pg_call.specs.Answers.{unit_turn}
use Rattle.pg_call.specs.declared.kind.Kind.TheVariants as kinds
use Rattle.pg_call.specs.declared.request.Request.TheVariants as requests
use Rattle.pg_call.specs.declared.answer.CallAnswer.TheVariants as answers
use Rattle.pg_call.specs.declared.answer.Turn.{Turn}
use Rattle.pg_call.specs.declared.answer.Turn.TheVariants as turns
use Rattle.pg_conn.specs.Connections.{ConnOf, begun, copy_aborted, runs, seen_by, started_next}
use Rattle.pg_conn.specs.Feeding.{IsFed}
use Rattle.pg_conn.specs.States.{IsCalling, turn_of}
use Rattle.pg_conn.specs.Turns.{PollsCall, PollsMore}
use Rattle.pg_copying.specs.declared.copy_abort.Stage.{Stage}
use Rattle.pg_copying.specs.declared.copy_abort.Stage.TheVariants as stages

-- the error by which a server tells that the client has given the copy up: query_canceled ("PostgreSQL Error Codes")
abbrev pub is_cancel : Error → Bool
is_cancel (errors.Database details) = bytes_eq (code_of details) (codes "57014")
is_cancel _ = false

-- what the end of a flush says, which reads the copy's reply: whether the reply is read to its end, or up to that error, or another one ended it
abbrev pub TellsFailure : Turn → Result Bool Error → Type 0
TellsFailure (turns.Ok answers.Unit) (Ok over) = over ≡ true
TellsFailure (turns.Err e) (Ok over) = (over ≡ false) × (is_cancel e ≡ true)
TellsFailure (turns.Err e) (Err f) = (f ≡ e) × (is_cancel e ≡ false)
TellsFailure _ _ = ⊥

-- behind that error the rest of the reply is read by one more flush, whose numbers go on
abbrev pub EndsAbort : {A : Type 0} → (A → LinkSeen) → ConnOf A → ConnOf A → Result Bool Error → Poll (Result (Unit {0}) Error) → Stage → Type 0
EndsAbort seen m b (Ok true) answer stage = (b ≡ m) × (answer ≡ Ready (Ok tt))
EndsAbort seen m b (Err e) answer stage = (b ≡ m) × (answer ≡ Ready (Err e))
EndsAbort seen m b (Ok false) answer stage = (stage ≡ stages.Failed) × PollsMore (seen_by seen (started_next requests.Flush m)) (seen_by seen b) (turn_of unit_turn answer)

abbrev pub HearsFailure : {A : Type 0} → (A → LinkSeen) → ConnOf A → ConnOf A → Poll Turn → Poll (Result (Unit {0}) Error) → Stage → Type 0
HearsFailure seen m b Pending answer stage = (b ≡ m) × (answer ≡ Pending) × (stage ≡ stages.Failing)
HearsFailure seen m b (Ready turn) answer stage = (told : Result Bool Error) × TellsFailure turn told × EndsAbort seen m b told answer stage

-- a message that no frame can carry, or for which memory is wanting, does nothing
abbrev pub RefusesAbort : List ℕ → Error → Type 0
RefusesAbort message e = Refuses 0 (HasNoNul message) (length (frontend_frame (CopyFail message)).body) e

-- one poll: the first queues the CopyFail
abbrev pub PollsAbort : {A : Type 0} → (A → LinkSeen) → List ℕ → Stage → ConnOf A → ConnOf A → Poll (Result (Unit {0}) Error) → Stage → Type 0
PollsAbort {A} seen message stages.Open a b answer stage =
    ((e : Error) × (answer ≡ Ready (Err e)) × RefusesAbort message e × (b ≡ a) × (stage ≡ stages.Open))
    ⊎ ((m : ConnOf A) × (turn : Poll Turn) × PollsMore (seen_by seen (started_next requests.Flush (begun (copy_aborted message a)))) (seen_by seen m) turn × HearsFailure seen m b turn answer stage)
PollsAbort {A} seen message stages.Failing a b answer stage = (m : ConnOf A) × (turn : Poll Turn) × PollsCall (seen_by seen a) (seen_by seen m) turn × HearsFailure seen m b turn answer stage
PollsAbort seen message stages.Failed a b answer stage = PollsCall (seen_by seen a) (seen_by seen b) (turn_of unit_turn answer) × (stage ≡ stages.Failed)

-- the call that runs: the copy's, and then a flush
abbrev pub IsAborting : {A : Type 0} → Stage → ConnOf A → Type 0
IsAborting stages.Open c = IsFed c
IsAborting _ c = IsCalling kinds.Flush c

-- it still runs where it waits
abbrev pub StaysAborting : {A : Type 0} → Stage → ConnOf A → Poll (Result (Unit {0}) Error) → Type 0
StaysAborting stage c Pending = IsAborting stage c
StaysAborting stage c (Ready answer) = Unit {0}

-- it is over where its flush has ended
abbrev pub is_aborted : {A : Type 0} → Stage → ConnOf A → Bool
is_aborted stages.Open c = false
is_aborted stages.Failing c = not (runs c.call)
is_aborted stages.Failed c = not (runs c.call)
