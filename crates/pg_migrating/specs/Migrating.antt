-- How a migration runs on what holds a connection, by the clock that is handed in.
use Rattle.std.specs.Prelude.{◌≡◌, ◌⊎◌, ℕ, ℤ, ◌-◌, ◌<◌, nat_eq, not, ◌&&◌, is_some, Bool, true, false, List, [], ◌∷◌, Option, Some, None, Result, Ok, Err, if◌then◌else◌}
use Rattle.futures.specs.declared.task.Poll.{Poll}
use Rattle.futures.specs.declared.task.Poll.TheVariants.{Ready, Pending}
use Rattle.pg_wire.specs.declared.error.Error.{Error}
use Rattle.pg_wire.specs.declared.error.Error.TheVariants as errors
use Rattle.pg_stream.specs.Links.{LinkSeen}
use Rattle.pg_call.specs.declared.kind.How.TheVariants as hows
use Rattle.pg_call.specs.declared.answer.CallAnswer.{CallAnswer}
use Rattle.pg_call.specs.declared.answer.Turn.TheVariants as turns
use Rattle.pg_call.specs.declared.request.Request.{Request}
use Rattle.pg_conn.specs.Connections.{ConnOf}
use Rattle.pg_migrate.specs.Clocks.{ClockSeen, IsReading}
use Rattle.pg_migrate.specs.Orders.{Statement}
use Rattle.pg_migrate.specs.declared.migration.MigrateError.{MigrateError}
use Rattle.pg_migrate.specs.declared.migration.MigrateError.TheVariants as failed
use Rattle.pg_migrating.specs.declared.course.Course.{Course}
use Rattle.pg_migrating.specs.declared.course.Step.{Step}
use Rattle.pg_migrating.specs.declared.course.Step.TheVariants as steps
use Rattle.pg_migrating.specs.Calls.{Called}
use Rattle.pg_migrating.specs.Requests.{IsRequestOf, request_of}
use Rattle.pg_migrating.specs.Asking.{Question, Answers, CallsQuietly, IsUnasked, StandsAt, StaysQuiet, groups_of}
use Rattle.pg_migrating.specs.Courses.{WorkSeen, IsStepOf, before, first_step, is_open_at, rank, statement_at, statements_of}

-- ---- statements that ran

-- a call asked it, from a on, and was answered Ok on b
pub record Ran {A : Type 0} (seen : A → LinkSeen) (s : Statement) (a b : ConnOf A) : Type 0 where
  pub answer : CallAnswer
  pub called : Called seen (request_of hows.Execute a.rule.depth s) a b (turns.Ok answer)

-- one behind another
abbrev pub AllRan : {A : Type 0} → (A → LinkSeen) → List Statement → ConnOf A → ConnOf A → Type 0
AllRan seen [] a b = b ≡ a
AllRan {A} seen (s ∷ more) a b = (m : ConnOf A) × Ran seen s a m × AllRan seen more m b

-- ---- time

-- the clock is read once, and tells this time
abbrev pub IsRead : {K : Type 0} → (K → ClockSeen) → (K → ℕ → K → Type 0) → K → ℕ → K → Type 0
IsRead seen tells a time b = IsReading (seen a) (seen b) time × tells a time b

-- it is read twice, with so many nanoseconds between
pub record Took {K : Type 0} (seen : K → ClockSeen) (tells : K → ℕ → K → Type 0) (a b : K) (nanos : ℕ) : Type 0 where
  pub start : ℕ
  pub end : ℕ
  pub middle : K
  pub begins : IsRead seen tells a start middle
  pub ends : IsRead seen tells middle end b
  pub nanos_is : nanos ≡ end - start

-- the second time is read behind the last step whose time is taken
abbrev pub IsTimed : {K : Type 0} → (K → ClockSeen) → (K → ℕ → K → Type 0) → Course → Step → K → K → Type 0
IsTimed seen tells c steps.Time a b = Took seen tells a b c.nanos
IsTimed seen tells c step a b = IsRead seen tells a c.start b

-- ---- a migration

-- The statements before its step have run, each a call from its request to Ok, and the step's own is asked.
pub record Runs {A K : Type 0} (seen : A → LinkSeen) (sees : K → ClockSeen) (tells : K → ℕ → K → Type 0) (w : WorkSeen) (first : ConnOf A) (zero : K) (c : Course) (question : Question) (conn : ConnOf A) (clock : K) : Type 0 where
  pub asked : Result Request Error
  pub from : ConnOf A
  pub step : IsStepOf w.way w.migration.no_tx c.step
  pub open_is : c.is_open ≡ is_open_at w.migration.no_tx c.step
  pub earlier : AllRan seen (before w c.step) first from
  pub asks : IsRequestOf hows.Execute from.rule.depth (statement_at w c.nanos c.step) asked
  pub stands : StandsAt seen asked from question conn
  pub timed : IsTimed sees tells c c.step zero clock

-- it was not polled yet
pub record IsNew {A K : Type 0} (w : WorkSeen) (first : ConnOf A) (zero : K) (c : Course) (asked : Result Request Error) (conn : ConnOf A) (clock : K) : Type 0 where
  pub step : c.step ≡ first_step w.migration.no_tx
  pub open_is : c.is_open ≡ false
  pub asks : IsRequestOf hows.Execute first.rule.depth (statement_at w c.nanos c.step) asked
  pub conn_is : conn ≡ first
  pub clock_is : clock ≡ zero

-- where it stands between two polls, which began with this connection and this clock
abbrev pub StandsIn : {A K : Type 0} → (A → LinkSeen) → (K → ClockSeen) → (K → ℕ → K → Type 0) → WorkSeen → ConnOf A → K → Course → Question → ConnOf A → K → Type 0
StandsIn seen sees tells w first zero c (Some asked) conn clock = IsNew w first zero c asked conn clock
StandsIn seen sees tells w first zero c None conn clock = Runs seen sees tells w first zero c None conn clock

-- ---- its errors

abbrev pub is_script : Step → Bool
is_script steps.Script = true
is_script step = false

abbrev pub is_database : Error → Bool
is_database (errors.Database error) = true
is_database e = false

-- The migration's own script was answered by it: it is an ErrorResponse behind the script's own group, which is queued once all is read that is owed before it.
abbrev pub answers_script : Step → ℕ → Error → Bool
answers_script step groups e = is_script step && is_database e && not (nat_eq groups 0)

abbrev pub told_by : Step → ℤ → ℕ → Error → MigrateError
told_by step version groups e = if answers_script step groups e then failed.ExecuteMigration e version else failed.Execute e

abbrev pub told_as : {A : Type 0} → Step → ℤ → ConnOf A → Error → MigrateError
told_as step version conn e = told_by step version (groups_of conn) e

-- The call of a step ended by this error, or could not be asked; what was opened stays to be rolled back.
pub record Fails {A : Type 0} (seen : A → LinkSeen) (w : WorkSeen) (first : ConnOf A) (c : Course) (conn : ConnOf A) (error : MigrateError) : Type 0 where
  pub asked : Result Request Error
  pub from : ConnOf A
  pub cause : Error
  pub step : IsStepOf w.way w.migration.no_tx c.step
  pub open_is : c.is_open ≡ is_open_at w.migration.no_tx c.step
  pub earlier : AllRan seen (before w c.step) first from
  pub asks : IsRequestOf hows.Execute from.rule.depth (statement_at w c.nanos c.step) asked
  pub ends : Answers seen asked from conn (turns.Err cause) ⊎ IsUnasked asked from conn cause
  pub told : error ≡ told_as c.step w.migration.version conn cause

-- All statements have run, in order, and it took so long; nothing is left to be rolled back.
pub record Succeeds {A K : Type 0} (seen : A → LinkSeen) (sees : K → ClockSeen) (tells : K → ℕ → K → Type 0) (w : WorkSeen) (first : ConnOf A) (zero : K) (c : Course) (conn : ConnOf A) (clock : K) (nanos : ℕ) : Type 0 where
  pub all : AllRan seen (statements_of w nanos) first conn
  pub took : Took sees tells zero clock nanos
  pub closed : c.is_open ≡ false

-- what a poll tells
abbrev pub TellsRun : {A K : Type 0} → (A → LinkSeen) → (K → ClockSeen) → (K → ℕ → K → Type 0) → WorkSeen → ConnOf A → K → Course → ConnOf A → K → Poll (Result ℕ MigrateError) → Type 0
TellsRun seen sees tells w first zero c conn clock Pending = Runs seen sees tells w first zero c None conn clock
TellsRun seen sees tells w first zero c conn clock (Ready (Ok nanos)) = Succeeds seen sees tells w first zero c conn clock nanos
TellsRun seen sees tells w first zero c conn clock (Ready (Err e)) = Fails seen w first c conn e

-- ---- a step

-- what one step tells where the next one is asked, and where it ends the poll
abbrev pub TellsStep : {A K : Type 0} → (A → LinkSeen) → (K → ClockSeen) → (K → ℕ → K → Type 0) → WorkSeen → ConnOf A → K → Course → Question → ConnOf A → K → Option (Poll (Result ℕ MigrateError)) → Type 0
TellsStep seen sees tells w first zero c question conn clock None = Runs seen sees tells w first zero c question conn clock
TellsStep seen sees tells w first zero c question conn clock (Some answer) = TellsRun seen sees tells w first zero c conn clock answer

-- The clock is read again where the step is the last one whose time is taken.
abbrev pub StopsBy : {K : Type 0} → (K → ClockSeen) → (K → ℕ → K → Type 0) → Bool → Course → Course → K → K → Type 0
StopsBy seen tells false c d a b = (d ≡ c) × (b ≡ a)
StopsBy seen tells true c d a b = (end : ℕ) × IsRead seen tells a end b × (d ≡ record c { nanos = end - c.start })

-- another step is entered
abbrev pub entered : Bool → Step → Course → Course
entered no_tx step c = record c { step = step; is_open = is_open_at no_tx step }

-- and asked, behind which fewer steps may come
abbrev pub StepGoes : {A : Type 0} → Step → Step → Question → ConnOf A → Option (Poll (Result ℕ MigrateError)) → Type 0
StepGoes old new question conn None = (is_some question ≡ true) × CallsQuietly question conn × (rank new < rank old)
StepGoes old new question conn (Some answer) = (question ≡ None) × StaysQuiet conn answer

-- the step's call was answered Ok
pub record HasRun {A K : Type 0} (seen : A → LinkSeen) (sees : K → ClockSeen) (tells : K → ℕ → K → Type 0) (w : WorkSeen) (first : ConnOf A) (zero : K) (c : Course) (conn : ConnOf A) (clock : K) : Type 0 where
  pub from : ConnOf A
  pub step : IsStepOf w.way w.migration.no_tx c.step
  pub earlier : AllRan seen (before w c.step) first from
  pub ran : Ran seen (statement_at w c.nanos c.step) from conn
  pub timed : IsTimed sees tells c c.step zero clock
