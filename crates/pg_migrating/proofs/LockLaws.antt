-- How the name of a database leads to its lock.
use Rattle.std.proofs.Common.{◌≡◌, ℤ, [], Some, None, Bool, true, false, Result, Ok, Err, refl, subst, sym}
use Rattle.std.specs.Prelude.{is_some}
use Rattle.futures.specs.declared.task.Poll.{Poll}
use Rattle.futures.specs.declared.task.Poll.TheVariants.{Ready}
use Rattle.pg_wire.specs.declared.error.Error.{Error}
use Rattle.pg_stream.specs.Links.{LinkSeen}
use Rattle.pg_call.specs.declared.answer.Turn.{Turn}
use Rattle.pg_call.specs.declared.answer.Turn.TheVariants as turns
use Rattle.pg_call.specs.declared.calling.Call.{Call}
use Rattle.pg_call.specs.declared.kind.How.TheVariants as hows
use Rattle.pg_call.specs.declared.request.Request.{Request}
use Rattle.pg_conn.specs.Connections.{ConnOf}
use Rattle.pg_migrate.specs.Orders.{Prepared}
use Rattle.pg_migrate.specs.Texts.{current_database_text}
use Rattle.pg_migrate.specs.declared.migration.MigrateError.{MigrateError}
use Rattle.pg_migrate.specs.declared.migration.MigrateError.TheVariants as failed
use Rattle.pg_migrating.specs.Answers.{EndsBy}
use Rattle.pg_migrating.specs.Asking.{Question, Tells, is_asked}
use Rattle.pg_migrating.specs.Requests.{Asks, IsRequestOf}
use Rattle.pg_migrating.specs.Locks.{HidesName, IsNamed, NameGoes, StandsLock, TellsLock, goes_on, lock_statement}
use Rattle.pg_migrating.specs.declared.lock.LockWay.{LockWay}
use Rattle.pg_migrating.proofs.AnswerLaws.{tells_by}
use Rattle.pg_migrating.proofs.AskingLaws.{asks_quietly}

pub still_asked : (question : Question) (call : Call) → is_some question ≡ true → is_asked question call ≡ true
still_asked (Some asked) call e = refl
still_asked None call e = absurd cc

pub lock_asked : {A : Type 0} (seen : A → LinkSeen) (way : LockWay) (first b : ConnOf A) (turn : Turn) (id : ℤ) (name : Result Request Error) (question : Question) → EndsBy IsNamed HidesName turn (Ok id) → IsRequestOf hows.FetchOne 0 (Prepared current_database_text []) name → Tells seen name first b (Ready turn)
    → (asked : Result Request Error) → question ≡ Some asked → IsRequestOf hows.Execute 0 (lock_statement way id) asked → StandsLock seen way first true question b
lock_asked seen way first b (turns.Item item) id name question e n t asked q asks = absurd e
lock_asked seen way first b (turns.Opened opened) id name question e n t asked q asks = absurd e
lock_asked seen way first b (turns.Ok answer) id name question e n t asked q asks = rw q (b, asked, record { name = name; asks_name = n; answer = answer; answered = t; id = id; named = e; asks = asks }, (refl, refl))
lock_asked seen way first b (turns.Err error) id name question e n t asked q asks = absurd e

hidden : (turn : Turn) (m : MigrateError) → EndsBy {X = ℤ} IsNamed HidesName turn (Err m) → EndsBy {X = Unit {0}} goes_on HidesName turn (Err m)
hidden (turns.Item item) m e = absurd e
hidden (turns.Opened opened) m e = absurd e
hidden (turns.Ok answer) (failed.Execute error) e = e
hidden (turns.Ok answer) (failed.ExecuteMigration error version) e = absurd e
hidden (turns.Err error) (failed.Execute other) e = e
hidden (turns.Err error) (failed.ExecuteMigration other version) e = absurd e

pub name_hidden : {A : Type 0} (seen : A → LinkSeen) (way : LockWay) (first b : ConnOf A) (turn : Turn) (m : MigrateError) (name : Result Request Error) → EndsBy {X = ℤ} IsNamed HidesName turn (Err m) → IsRequestOf hows.FetchOne 0 (Prepared current_database_text []) name → Tells seen name first b (Ready turn) → TellsLock seen way first false b (Ready (Err m))
name_hidden seen way first b turn m name e n t = (name, n, tells_by goes_on HidesName seen name first b turn (Err m) (hidden turn m e) t)

-- the lock is asked, quietly
pub lock_goes : {A : Type 0} (way : LockWay) (id : ℤ) (named : Bool) (question : Question) (c : ConnOf A) → named ≡ true → Asks hows.Execute 0 (lock_statement way id) question → NameGoes named question c None
lock_goes way id named None c e asks = absurd asks
lock_goes way id named (Some asked) c e asks = (e, refl, asks_quietly 0 (lock_statement way id) asked c asks)

pub lock_stands : {A : Type 0} (seen : A → LinkSeen) (way : LockWay) (first b d : ConnOf A) (turn : Turn) (id : ℤ) (name : Result Request Error) (question : Question) → d ≡ b → EndsBy IsNamed HidesName turn (Ok id) → IsRequestOf hows.FetchOne 0 (Prepared current_database_text []) name → Tells seen name first b (Ready turn)
    → Asks hows.Execute 0 (lock_statement way id) question → StandsLock seen way first true question d
lock_stands seen way first b d turn id name None same e n t asks = absurd asks
lock_stands seen way first b d turn id name (Some asked) same e n t asks = rw same (lock_asked seen way first b turn id name (Some asked) e n t asked refl asks)

-- where the name is not known yet
pub names_first : {A : Type 0} (seen : A → LinkSeen) (way : LockWay) (first b : ConnOf A) (named : Bool) (question : Question) → named ≡ false → StandsLock seen way first named question b → StandsLock seen way first false question b
names_first seen way first b named question e s = subst (λ (x : Bool). StandsLock seen way first x question b) e s

-- and where it is
pub lock_told : {A : Type 0} (seen : A → LinkSeen) (v w : LockWay) (first c : ConnOf A) (named : Bool) (answer : Poll (Result (Unit {0}) MigrateError)) → v ≡ w → named ≡ true → TellsLock seen v first true c answer → TellsLock seen w first named c answer
lock_told seen v w first c named answer e n t = subst (λ (x : Bool). TellsLock seen w first x c answer) (sym n) (subst (λ (x : LockWay). TellsLock seen x first true c answer) e t)
