-- How a database is dropped though there are sessions on it (PostgreSQL manual, "Server Signaling Functions").
use Rattle.std.specs.Prelude.{◌≡◌, ◌⊎◌, ℕ, ◌^◌, Bool, true, false, List, Option, Some, None, Result, Ok, Err}
use Rattle.futures.specs.declared.task.Poll.{Poll}
use Rattle.futures.specs.declared.task.Poll.TheVariants.{Ready, Pending}
use Rattle.pg_wire.specs.declared.error.Error.{Error}
use Rattle.pg_stream.specs.Links.{LinkSeen}
use Rattle.pg_wire.specs.declared.error.Error.TheVariants as errors
use Rattle.pg_options.specs.Numbers.{number_below}
use Rattle.pg_options.specs.Options.{ConnectOptions}
use Rattle.pg_options.specs.declared.settings.PgSettings.{PgSettings}
use Rattle.pg_rows.specs.Rows.{RowSeen, Misreads, Reads}
use Rattle.pg_call.specs.declared.kind.How.TheVariants as hows
use Rattle.pg_call.specs.declared.kind.Kind.TheVariants as kinds
use Rattle.pg_call.specs.declared.answer.CallAnswer.{CallAnswer}
use Rattle.pg_call.specs.declared.answer.CallAnswer.TheVariants as answers
use Rattle.pg_call.specs.declared.answer.Turn.TheVariants as turns
use Rattle.pg_call.specs.declared.request.Request.{Request}
use Rattle.pg_conn.specs.Connections.{ConnOf}
use Rattle.pg_migrate.specs.Orders.{Script}
use Rattle.pg_migrate.specs.Texts.{terminate_text}
use Rattle.pg_migrating.specs.Answers.{text}
use Rattle.pg_migrating.specs.Calls.{Called, Waits}
use Rattle.pg_migrating.specs.Requests.{request_of}
use Rattle.pg_migrating.specs.Errands.{AsksOf, IsErrand, RefusesErrand}
use Rattle.pg_migrating.specs.Names.{database_of}
use Rattle.pg_migrating.specs.Openings.{FailsToOpen}
use Rattle.pg_migrating.specs.Sessions.{CameTo, Comes, Fails, Goes, IsNewSession, Opening, SessionSeen, Stands}
use Rattle.pg_migrating.specs.declared.errand.Errand.{Errand}
use Rattle.pg_migrating.specs.declared.errand.Task.TheVariants as tasks
use Rattle.pg_migrating.specs.declared.forcing.ForceStep.{ForceStep}
use Rattle.pg_migrating.specs.declared.forcing.ForceStep.TheVariants as steps
use Rattle.pg_migrating.specs.declared.forcing.Forcing.{Forcing}

-- ---- what is asked

-- the version first, the drop last, and the name of the database for what stands between them
pub record IsForcing (o : ConnectOptions) (f : Forcing) : Type 0 where
  pub version : IsErrand tasks.Version o f.version
  pub last : IsErrand tasks.Remove o f.last
  pub database : f.database ≡ database_of o

-- why it is not asked; want of memory is free
abbrev pub AsksForce : ConnectOptions → Result Forcing Error → Type 0
AsksForce o (Ok f) = IsForcing o f
AsksForce o (Err e) = RefusesErrand tasks.Version o e ⊎ RefusesErrand tasks.Remove o e

abbrev pub version_in : Result Forcing Error → Result Errand Error
version_in (Ok f) = Ok f.version
version_in (Err e) = Err e

-- ---- the version

-- a number below 2^32, in decimal, as `server_version_num` is (PostgreSQL manual, "Preset Options")
abbrev pub IsNumber : RowSeen → ℕ → Type 0
IsNumber row n = (word : List ℕ) × Reads text row 0 word × (number_below (2 ^ 32) word ≡ Some n)

-- or why there is none: the value can't be read, or is no number; want of memory is free
abbrev pub HidesNumber : RowSeen → Error → Type 0
HidesNumber row e = (e ≡ errors.OutOfMemory) ⊎ Misreads text row 0 e ⊎ ((word : List ℕ) × Reads text row 0 word × (number_below (2 ^ 32) word ≡ None) × (e ≡ errors.Decode))

abbrev pub IsVersion : CallAnswer → ℕ → Type 0
IsVersion (answers.OneRow (Some row)) n = IsNumber row n
IsVersion answer n = ⊥

abbrev pub HidesVersion : CallAnswer → Error → Type 0
HidesVersion (answers.OneRow (Some row)) e = HidesNumber row e
HidesVersion answer e = ⊥

-- ---- the other sessions

-- what ends those on this database, by the version that an answer tells
abbrev pub Terminating : List ℕ → CallAnswer → Request → Type 0
Terminating database answer r = (version : ℕ) × IsVersion answer version × (r ≡ request_of hows.Execute 0 (Script (terminate_text version database)))

-- The version was asked and told, and this ends them, from the same connection.
pub record AsksTerminate {D S A : Type 0} (seen : A → LinkSeen) (o : Opening D S A) (f : Forcing) (d e : D) (middle : ConnOf A) (r : Request) : Type 0 where
  pub answer : CallAnswer
  pub comes : Comes seen o f.version d e (turns.Ok answer) middle
  pub asks : Terminating f.database answer r

-- it waits
pub record Terminates {D S A : Type 0} (seen : A → LinkSeen) (o : Opening D S A) (f : Forcing) (d e : D) (conn : ConnOf A) : Type 0 where
  pub middle : ConnOf A
  pub request : Request
  pub asks : AsksTerminate seen o f d e middle request
  pub waits : Waits seen request middle conn

-- it was answered Ok
pub record Terminated {D S A : Type 0} (seen : A → LinkSeen) (o : Opening D S A) (f : Forcing) (d e : D) : Type 0 where
  pub middle : ConnOf A
  pub conn : ConnOf A
  pub request : Request
  pub answer : CallAnswer
  pub asks : AsksTerminate seen o f d e middle request
  pub called : Called seen request middle conn (turns.Ok answer)

-- it was answered by an error
pub record IsNotTerminated {D S A : Type 0} (seen : A → LinkSeen) (o : Opening D S A) (f : Forcing) (d e : D) (error : Error) : Type 0 where
  pub middle : ConnOf A
  pub conn : ConnOf A
  pub request : Request
  pub asks : AsksTerminate seen o f d e middle request
  pub called : Called seen request middle conn (turns.Err error)

-- ---- all of it

-- what stands by for later
abbrev pub StandsBy : {D S A : Type 0} → Opening D S A → Result Forcing Error → List ℕ → SessionSeen S A → Type 0
StandsBy o (Ok f) database last = (database ≡ f.database) × IsNewSession o (Ok f.last) last
StandsBy o (Err e) database last = IsNewSession o (Err errors.OutOfMemory) last

-- its sessions are new, for the database that a URL names
abbrev pub AsksToForce : {D S A : Type 0} → Opening D S A → PgSettings → List ℕ → List ℕ → SessionSeen S A → SessionSeen S A → Type 0
AsksToForce o env url database s last = (asked : Result Forcing Error) × IsNewSession o (version_in asked) s × StandsBy o asked database last × AsksOf AsksForce env url asked

-- where it stands: it began with the dial d, and e is the dial now
abbrev pub StandsForce : {D S A : Type 0} → (A → LinkSeen) → Opening D S A → Result Forcing Error → D → ForceStep → List ℕ → SessionSeen S A → SessionSeen S A → D → Type 0
StandsForce seen o asked d steps.Version database s last e = Stands seen o (version_in asked) d s e × StandsBy o asked database last
StandsForce {D} {S} {A} seen o asked d steps.Terminate database s last e = (f : Forcing) × (asked ≡ Ok f) × ((conn : ConnOf A) × (s.conn ≡ Some conn) × Terminates seen o f d e conn) × StandsBy o asked database last
StandsForce {D} seen o asked d steps.Remove database s last e = (f : Forcing) × (asked ≡ Ok f) × ((middle : D) × Terminated seen o f d middle × Stands seen o (Ok f.last) middle last e)
StandsForce seen o asked d steps.Over database s last e = ⊥

-- the version was not told
abbrev pub FailsVersion : {D S A : Type 0} → (A → LinkSeen) → Opening D S A → Result Forcing Error → D → D → Error → Type 0
FailsVersion {D} {S} {A} seen o asked d e error = ((conn : ConnOf A) × CameTo seen o (version_in asked) d e (turns.Err error) conn)
    ⊎ Fails seen o (version_in asked) d e error
    ⊎ ((answer : CallAnswer) × (conn : ConnOf A) × CameTo seen o (version_in asked) d e (turns.Ok answer) conn × HidesVersion answer error)

-- the database was not dropped, from a connection of its own
abbrev pub FailsRemove : {D S A : Type 0} → (A → LinkSeen) → Opening D S A → Forcing → D → D → Error → Type 0
FailsRemove {D} {S} {A} seen o f d e error = (middle : D) × Terminated seen o f d middle × (((conn : ConnOf A) × Comes seen o f.last middle e (turns.Err error) conn) ⊎ FailsToOpen seen o.hands o.counts f.last.options middle e error)

abbrev pub FailsForce : {D S A : Type 0} → (A → LinkSeen) → Opening D S A → Result Forcing Error → D → D → Error → Type 0
FailsForce seen o asked d e error = FailsVersion seen o asked d e error
    ⊎ ((f : Forcing) × (asked ≡ Ok f) × (IsNotTerminated seen o f d e error ⊎ FailsRemove seen o f d e error))

-- the version was told, the other sessions were ended, and the database dropped from a connection of its own, in this order
abbrev pub SucceedsForce : {D S A : Type 0} → (A → LinkSeen) → Opening D S A → Result Forcing Error → D → D → Type 0
SucceedsForce {D} {S} {A} seen o asked d e = (f : Forcing) × (asked ≡ Ok f) × ((middle : D) × (answer : CallAnswer) × (conn : ConnOf A) × Terminated seen o f d middle × Comes seen o f.last middle e (turns.Ok answer) conn)

-- what a poll tells
abbrev pub TellsForce : {D S A : Type 0} → (A → LinkSeen) → Opening D S A → Result Forcing Error → D → ForceStep → List ℕ → SessionSeen S A → SessionSeen S A → D → Poll (Result (Unit {0}) Error) → Type 0
TellsForce seen o asked d step database s last e Pending = StandsForce seen o asked d step database s last e
TellsForce seen o asked d step database s last e (Ready (Ok u)) = SucceedsForce seen o asked d e
TellsForce seen o asked d step database s last e (Ready (Err error)) = FailsForce seen o asked d e error

-- what a step of it tells: another step is asked, or the poll ends
abbrev pub TellsForceStep : {D S A : Type 0} → (A → LinkSeen) → Opening D S A → Result Forcing Error → D → ForceStep → List ℕ → SessionSeen S A → SessionSeen S A → D → Option (Poll (Result (Unit {0}) Error)) → Type 0
TellsForceStep seen o asked d step database s last e None = StandsForce seen o asked d step database s last e
TellsForceStep seen o asked d step database s last e (Some answer) = TellsForce seen o asked d step database s last e answer

-- ---- its calls

abbrev pub GoesForce : {D S A : Type 0} → Opening D S A → ForceStep → SessionSeen S A → SessionSeen S A → Type 0
GoesForce o steps.Version s last = Goes o (kinds.Run hows.FetchOne) s × Goes o (kinds.Run hows.Execute) last
GoesForce o steps.Terminate s last = (s.start ≡ None) × Goes o (kinds.Run hows.Execute) s × Goes o (kinds.Run hows.Execute) last
GoesForce o steps.Remove s last = Goes o (kinds.Run hows.Execute) last
GoesForce o steps.Over s last = ⊥

-- it goes on while it waits
abbrev pub StaysForce : {D S A X : Type 0} → Opening D S A → ForceStep → SessionSeen S A → SessionSeen S A → Poll X → Type 0
StaysForce o step s last Pending = GoesForce o step s last
StaysForce o step s last (Ready x) = step ≡ steps.Over

-- and behind a step that has no answer yet the next one goes on
abbrev pub StepGoes : {D S A X : Type 0} → Opening D S A → ForceStep → ForceStep → SessionSeen S A → SessionSeen S A → Option (Poll X) → Type 0
StepGoes o next step s last None = (step ≡ next) × GoesForce o next s last
StepGoes o next step s last (Some answer) = StaysForce o step s last answer

abbrev pub is_forced : ForceStep → Bool
is_forced steps.Over = true
is_forced step = false

-- the connection that it is on
abbrev pub conn_at : {A : Type 0} → ForceStep → Option (ConnOf A) → Option (ConnOf A) → Option (ConnOf A)
conn_at steps.Version conn last = conn
conn_at steps.Terminate conn last = conn
conn_at step conn last = last
