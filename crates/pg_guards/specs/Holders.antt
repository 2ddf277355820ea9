-- What guards and their states make of the connection that is held.
use Rattle.std.specs.Prelude.{◌≡◌, ℕ, Bool, true, false, ◌||◌, ltb, Option, Some, None, Result, Ok, Err, if◌then◌else◌}
use Rattle.futures.specs.declared.task.Poll.{Poll}
use Rattle.futures.specs.declared.task.Poll.TheVariants.{Ready, Pending}
use Rattle.pg_wire.specs.declared.error.Error.{Error}
use Rattle.pg_stream.specs.Links.{LinkSeen}
use Rattle.pg_call.specs.declared.request.Request.{Request}
use Rattle.pg_call.specs.declared.request.Request.TheVariants as requests
use Rattle.pg_call.specs.declared.answer.CallAnswer.TheVariants as answers
use Rattle.pg_call.specs.declared.answer.Turn.{Turn}
use Rattle.pg_call.specs.declared.answer.Turn.TheVariants as turns
use Rattle.pg_conn.specs.Connections.{ConnOf, begun_by, is_over, left, rolled_back, seen_by}
use Rattle.pg_conn.specs.States.{IsCallingPlainly, KeepsCallingPlainly, turn_of}
use Rattle.pg_conn.specs.Turns.{PollsCall}

-- ---- a begin

-- a savepoint has no text of its own
abbrev pub is_misplaced : Option Request → ℕ → Bool
is_misplaced (Some (requests.BeginWith query)) depth = ltb 0 depth
is_misplaced _ depth = false

-- a begin is over where it has handed its holder on, where it was refused for its text, or where its call is over
abbrev pub is_done : {C A : Type 0} → (C → ConnOf A) → Bool → Option Request → Option C → Bool
is_done conn refused request None = true
is_done conn refused request (Some c) = refused || is_over request (conn c).call

-- the call of what is held is a begin's
abbrev pub IsBeginning : {C A : Type 0} → (C → ConnOf A) → Option Request → Option C → Type 0
IsBeginning conn request None = Unit {0}
IsBeginning conn request (Some c) = IsCallingPlainly (begun_by request (conn c))

-- until it is over its call is so, of whatever is held
abbrev pub KeepsBeginning : {C A : Type 0} → (C → ConnOf A) → Option Request → Option C → Type 0
KeepsBeginning {C} conn request held = (c : C) → held ≡ Some c → KeepsCallingPlainly request (conn c)

-- and still is while it waits
abbrev pub StaysBeginning : {C A X : Type 0} → (C → ConnOf A) → Option Request → Option C → Poll X → Type 0
StaysBeginning conn request held Pending = IsBeginning conn request held
StaysBeginning conn request held (Ready x) = Unit {0}

-- d holds the connection behind a poll: what was handed on at Ok does, and else the state
abbrev pub HeldBy : {C X : Type 0} → (X → C) → Option C → Poll (Result X Error) → C → Type 0
HeldBy holder kept (Ready (Ok x)) d = (kept ≡ None) × (holder x ≡ d)
HeldBy holder kept (Ready (Err e)) d = kept ≡ Some d
HeldBy holder kept Pending d = kept ≡ Some d

-- an answer that hands a holder on, as the core's
abbrev pub holder_turn : {X : Type 0} → Result X Error → Turn
holder_turn (Ok x) = turns.Ok answers.Unit
holder_turn (Err e) = turns.Err e

-- one poll of a begin on c: of its connection alone, whoever holds it then
abbrev pub PollsBegin : {C A X : Type 0} → (C → ConnOf A) → (C → ConnOf A → C) → (A → LinkSeen) → (X → C) → Option Request → C → Option C → Poll (Result X Error) → Type 0
PollsBegin {C} conn with_conn seen holder request c kept answer = (d : C) × HeldBy holder kept answer d × (d ≡ with_conn c (conn d))
    × PollsCall (seen_by seen (begun_by request (conn c))) (seen_by seen (conn d)) (turn_of holder_turn answer)

-- ---- a commit and a rollback

-- the transaction stays to be rolled back until the answer is Ok
abbrev pub stays_due : {X : Type 0} → Bool → Poll (Result X Error) → Bool
stays_due due (Ready (Ok x)) = false
stays_due due (Ready (Err e)) = due
stays_due due Pending = due

-- what is left of a connection: it is rolled back where that is due
abbrev pub left_due : {A : Type 0} → Bool → ConnOf A → ConnOf A
left_due due c = if due then rolled_back c else c

-- what is left of a connection where its begin is polled once, and all is given up
abbrev pub given_up : {A X : Type 0} → Poll (Result X Error) → ConnOf A → ConnOf A
given_up (Ready (Ok x)) c = rolled_back c
given_up (Ready (Err e)) c = left c
given_up Pending c = left c
