-- Calls about a lock that are answered by a truth value (PostgreSQL manual, "Advisory Lock Functions").
use Rattle.std.specs.Prelude.{◌≡◌, ◌⊎◌, ℕ, Bool, true, false, List, Option, Some, None, Result, Ok, Err}
use Rattle.futures.specs.declared.task.Poll.{Poll}
use Rattle.futures.specs.declared.task.Poll.TheVariants.{Ready, Pending}
use Rattle.pg_wire.specs.declared.error.Error.{Error}
use Rattle.pg_wire.specs.declared.error.Error.TheVariants as errors
use Rattle.pg_stream.specs.Links.{LinkSeen}
use Rattle.pg_locks.specs.declared.key.PgAdvisoryLockKey.{PgAdvisoryLockKey}
use Rattle.pg_locks.specs.Locks.{try_lock_statement, unlock_query, unlock_statement}
use Rattle.pg_rows.specs.Rows.{RowSeen}
use Rattle.pg_call.specs.declared.kind.How.TheVariants as hows
use Rattle.pg_call.specs.declared.kind.Kind.TheVariants as kinds
use Rattle.pg_call.specs.declared.request.Request.{Request}
use Rattle.pg_call.specs.declared.request.Request.TheVariants as requests
use Rattle.pg_call.specs.declared.answer.Turn.{Turn}
use Rattle.pg_call.specs.Answers.{TurnFits, one_turn}
use Rattle.pg_conn.specs.Connections.{ConnOf, left, seen_by, started_call}
use Rattle.pg_conn.specs.Flags.{flag_in}
use Rattle.pg_conn.specs.Holding.{took_held}
use Rattle.pg_conn.specs.States.{IsCalling, turn_of}
use Rattle.pg_conn.specs.Turns.{PollsCall}
use Rattle.pg_locks.specs.Keys.{with_key}
use Rattle.pg_locking.specs.Rooms.{IsHeldFor, IsUnheld, given_if}
use Rattle.pg_locking.specs.declared.flag_call.Asking.{Asking}
use Rattle.pg_locking.specs.declared.flag_call.Asking.TheVariants as askings

-- a lock is asked for, so that a guard holds it, or released
abbrev pub flag_text : Bool → PgAdvisoryLockKey → List ℕ
flag_text true key = try_lock_statement key
flag_text false key = unlock_statement key

abbrev pub flag_request : Bool → PgAdvisoryLockKey → Request
flag_request holds key = requests.FetchOne (with_key (flag_text holds key) key)

-- ---- its answer

-- what the first column tells: a null is no truth value
abbrev pub told_flag : Option (Option Bool) → Result Bool Error
told_flag (Some (Some flag)) = Ok flag
told_flag (Some None) = Err (errors.ColumnDecode 0)
told_flag None = Err (errors.ColumnDecode 0)

abbrev pub flag_answer : Poll (Result RowSeen Error) → Poll (Result Bool Error)
flag_answer Pending = Pending
flag_answer (Ready (Ok row)) = Ready (told_flag (flag_in row.values))
flag_answer (Ready (Err e)) = Ready (Err e)

abbrev pub ReadsFlag : Poll Turn → Poll (Result Bool Error) → Type 0
ReadsFlag turn answer = (row : Poll (Result RowSeen Error)) × (turn ≡ turn_of one_turn row) × (answer ≡ flag_answer row)

abbrev pub FitsOne : Poll Turn → Type 0
FitsOne Pending = Unit {0}
FitsOne (Ready turn) = TurnFits (kinds.Run hows.FetchOne) turn

-- what is left of the connection behind an answer: only a lock that is taken has a guard
abbrev pub kept_by : {A : Type 0} → Bool → Poll (Result Bool Error) → ConnOf A → ConnOf A
kept_by holds Pending m = m
kept_by holds (Ready (Ok true)) m = m
kept_by holds (Ready (Ok false)) m = given_if holds m
kept_by holds (Ready (Err e)) m = given_if holds m

abbrev pub asking_behind : {X : Type 0} → Poll X → Asking
asking_behind Pending = askings.Running
asking_behind (Ready x) = askings.Over

pub record HearsFlag {A : Type 0} (holds : Bool) (turn : Poll Turn) (m b : ConnOf A) (asking : Asking) (answer : Poll (Result Bool Error)) : Type 0 where
  pub reads : ReadsFlag turn answer
  pub keeps : b ≡ kept_by holds answer m
  pub asks : asking ≡ asking_behind answer

-- ---- its polls

abbrev pub PollsOn : {A : Type 0} → (A → LinkSeen) → Bool → ConnOf A → ConnOf A → Asking → Poll (Result Bool Error) → Type 0
PollsOn {A} seen holds a b asking answer = (m : ConnOf A) × (turn : Poll Turn) × PollsCall (seen_by seen a) (seen_by seen m) turn × HearsFlag holds turn m b asking answer

-- for want of memory nothing is asked
abbrev pub AsksNoFlag : {A : Type 0} → ConnOf A → ConnOf A → Asking → Poll (Result Bool Error) → Type 0
AsksNoFlag a b asking answer = IsUnheld a b × (asking ≡ askings.Over) × (answer ≡ Ready (Err errors.OutOfMemory))

-- one poll, from where the call had come to
abbrev pub PollsFlag : {A : Type 0} → (A → LinkSeen) → PgAdvisoryLockKey → Bool → Asking → ConnOf A → ConnOf A → Asking → Poll (Result Bool Error) → Type 0
PollsFlag {A} seen key holds askings.Asked a b asking answer =
    AsksNoFlag a b asking answer ⊎ ((h : ConnOf A) × IsHeldFor holds a h × PollsOn seen holds (started_call (flag_request holds key) h) b asking answer)
PollsFlag seen key holds askings.Running a b asking answer = PollsOn seen holds a b asking answer
PollsFlag seen key holds askings.Over a b asking answer = ⊥

-- the call that runs, which still does where it waits
abbrev pub IsAsking : {A : Type 0} → Asking → ConnOf A → Type 0
IsAsking askings.Asked c = Unit {0}
IsAsking askings.Running c = IsCalling (kinds.Run hows.FetchOne) c
IsAsking askings.Over c = ⊥

abbrev pub StaysAsking : {A X : Type 0} → Asking → ConnOf A → Poll X → Type 0
StaysAsking asking c Pending = IsAsking asking c
StaysAsking asking c (Ready x) = Unit {0}

-- what is left of the connection where the call is given up
abbrev pub left_asking : {A : Type 0} → Bool → Asking → ConnOf A → ConnOf A
left_asking holds askings.Asked c = c
left_asking holds askings.Running c = given_if holds (left c)
left_asking holds askings.Over c = c

-- ---- a lock that a guard holds is released

-- the guard gives its room up before the first poll
abbrev pub forgot_if : {A : Type 0} → Asking → ConnOf A → ConnOf A
forgot_if askings.Asked c = took_held None c
forgot_if askings.Running c = c
forgot_if askings.Over c = c

-- given up before that, it is released as by the drop of its guard
abbrev pub left_releasing : {A : Type 0} → PgAdvisoryLockKey → Asking → ConnOf A → ConnOf A
left_releasing key askings.Asked c = took_held (Some (unlock_query key)) c
left_releasing key askings.Running c = left c
left_releasing key askings.Over c = c
