-- The lock that keeps two runs of migrations on one database apart.
use Rattle.std.specs.Prelude.{◌≡◌, ℕ, ℤ, Bool, true, false, List, [], ◌∷◌, Option, Some, None, is_some, Result}
use Rattle.futures.specs.declared.task.Poll.{Poll}
use Rattle.futures.specs.declared.task.Poll.TheVariants.{Ready, Pending}
use Rattle.pg_wire.specs.declared.error.Error.{Error}
use Rattle.pg_stream.specs.Links.{LinkSeen}
use Rattle.pg_rows.specs.Rows.{Misreads, Reads}
use Rattle.pg_call.specs.declared.answer.CallAnswer.{CallAnswer}
use Rattle.pg_call.specs.declared.answer.CallAnswer.TheVariants as answers
use Rattle.pg_call.specs.declared.answer.Turn.TheVariants as turns
use Rattle.pg_call.specs.declared.kind.How.TheVariants as hows
use Rattle.pg_call.specs.declared.kind.Kind.TheVariants as kinds
use Rattle.pg_call.specs.declared.request.Request.{Request}
use Rattle.pg_conn.specs.Connections.{ConnOf}
use Rattle.pg_migrate.specs.Crc32.{lock_id}
use Rattle.pg_migrate.specs.Orders.{Statement, Int8, Prepared}
use Rattle.pg_migrate.specs.Texts.{current_database_text, lock_text, unlock_text}
use Rattle.pg_migrate.specs.declared.migration.MigrateError.{MigrateError}
use Rattle.pg_migrating.specs.Answers.{TellsBy, is_done, never, text}
use Rattle.pg_migrating.specs.Asking.{Question, Answers, CallsFor, CallsQuietly, StandsAt}
use Rattle.pg_migrating.specs.Requests.{IsRequestOf}
use Rattle.pg_migrating.specs.declared.lock.LockWay.{LockWay}
use Rattle.pg_migrating.specs.declared.lock.LockWay.TheVariants as ways

abbrev pub lock_statement : LockWay → ℤ → Statement
lock_statement ways.Lock id = Prepared lock_text (Int8 id ∷ [])
lock_statement ways.Unlock id = Prepared unlock_text (Int8 id ∷ [])

-- its key is that of the database's name, which is the first value of the row
abbrev pub IsNamed : CallAnswer → ℤ → Type 0
IsNamed (answers.OneRow (Some row)) id = (name : List ℕ) × Reads text row 0 name × (id ≡ lock_id name)
IsNamed _ id = ⊥

abbrev pub HidesName : CallAnswer → Error → Type 0
HidesName (answers.OneRow (Some row)) e = Misreads text row 0 e
HidesName _ e = ⊥

-- no unit comes of the name
abbrev pub goes_on : CallAnswer → Unit {0} → Type 0
goes_on answer u = ⊥

-- The name was asked on the connection a and answered on b, and this is asked of the lock.
pub record AsksLock {A : Type 0} (seen : A → LinkSeen) (way : LockWay) (a b : ConnOf A) (asked : Result Request Error) : Type 0 where
  pub name : Result Request Error
  pub asks_name : IsRequestOf hows.FetchOne 0 (Prepared current_database_text []) name
  pub answer : CallAnswer
  pub answered : Answers seen name a b (turns.Ok answer)
  pub id : ℤ
  pub named : IsNamed answer id
  pub asks : IsRequestOf hows.Execute 0 (lock_statement way id) asked

-- where it stands: the name is asked, or the lock is
abbrev pub StandsLock : {A : Type 0} → (A → LinkSeen) → LockWay → ConnOf A → Bool → Question → ConnOf A → Type 0
StandsLock seen way first false question conn = (asked : Result Request Error) × IsRequestOf hows.FetchOne 0 (Prepared current_database_text []) asked × StandsAt seen asked first question conn
StandsLock {A} seen way first true question conn = (from : ConnOf A) × (asked : Result Request Error) × AsksLock seen way first from asked × StandsAt seen asked from question conn

-- what a poll tells: of the name, which was not answered yet, or of the lock
abbrev pub TellsLock : {A : Type 0} → (A → LinkSeen) → LockWay → ConnOf A → Bool → ConnOf A → Poll (Result (Unit {0}) MigrateError) → Type 0
TellsLock seen way first false conn answer = (asked : Result Request Error) × IsRequestOf hows.FetchOne 0 (Prepared current_database_text []) asked × TellsBy goes_on HidesName seen asked first conn answer
TellsLock {A} seen way first true conn answer = (from : ConnOf A) × (asked : Result Request Error) × AsksLock seen way first from asked × TellsBy is_done never seen asked from conn answer

-- the kind of the call that it asks
abbrev pub CallsLock : {A : Type 0} → Bool → Question → ConnOf A → Type 0
CallsLock false question conn = CallsFor (kinds.Run hows.FetchOne) question conn
CallsLock true question conn = CallsQuietly question conn

-- it goes on while it waits
abbrev pub StaysLock : {A X : Type 0} → Bool → ConnOf A → Poll X → Type 0
StaysLock named conn Pending = CallsLock named None conn
StaysLock named conn (Ready x) = Unit {0}

-- what the poll of the name tells where the lock is asked, and where that poll ends
abbrev pub TellsName : {A : Type 0} → (A → LinkSeen) → LockWay → ConnOf A → Question → ConnOf A → Option (Poll (Result (Unit {0}) MigrateError)) → Type 0
TellsName seen way first question conn None = StandsLock seen way first true question conn
TellsName seen way first question conn (Some answer) = TellsLock seen way first false conn answer

abbrev pub NameGoes : {A : Type 0} → Bool → Question → ConnOf A → Option (Poll (Result (Unit {0}) MigrateError)) → Type 0
NameGoes named question conn None = (named ≡ true) × (is_some question ≡ true) × CallsQuietly question conn
NameGoes named question conn (Some answer) = (named ≡ false) × (question ≡ None) × StaysLock false conn answer
