-- Steps about advisory locks (PostgreSQL manual, "Advisory Lock Functions"): which calls they are, what they tell, and of which locks the play has guards behind them.
use Rattle.std.specs.Prelude.{◌≡◌, ◌≢◌, ◌⊎◌, ℕ, ◌+◌, ◌-◌, ◌<◌, Bool, true, false, ◌&&◌, leb, List, [], ◌∷◌, ◌++◌, length, take, drop, if◌then◌else◌, Option, Some, None}
use Rattle.std.specs.List.{AllByRecursion}
use Rattle.pg_wire.specs.declared.error.Error.TheVariants as errors
use Rattle.pg_request.specs.declared.progress.CacheStep.{CacheStep}
use Rattle.pg_request.specs.declared.progress.CacheStep.TheVariants as cache
use Rattle.pg_locks.specs.declared.key.PgAdvisoryLockKey.{PgAdvisoryLockKey}
use Rattle.pg_locks.specs.Locks.{lock_statement, unlock_query}
use Rattle.pg_locks.specs.Keys.{with_key}
use Rattle.pg_conn.specs.Flags.{flag_in}
use Rattle.pg_report.specs.declared.outcome.Item.{Item}
use Rattle.pg_report.specs.declared.outcome.Item.TheVariants.{Row}
use Rattle.pg_report.specs.declared.outcome.Answer.TheVariants.{Unit as AnswersUnit, Held}
use Rattle.pg_report.specs.declared.outcome.End.{End}
use Rattle.pg_report.specs.declared.outcome.End.TheVariants as ends
use Rattle.pg_report.specs.declared.outcome.Outcome.{Outcome}
use Rattle.pg_script.specs.declared.step.Call.TheVariants as calls
use Rattle.pg_script.specs.declared.step.Step.{Step}
use Rattle.pg_play.specs.Calls.{untouched}
use Rattle.pg_play.specs.Chains.{preparing, summed}
use Rattle.pg_play.specs.Places.{is_fine}

-- the locks of which the play has guards, by their keys
abbrev pub Guards : Type 0
Guards = List PgAdvisoryLockKey

-- ---- a lock that is asked for, or released: a truth value is the answer

-- the step of the query of this text with the key's numbers, which takes one row
abbrev pub asking : Step → List ℕ → PgAdvisoryLockKey → Step
asking step text key = record step { call = calls.FetchOne (with_key text key) }

-- the truth value in the first column; a null is none
abbrev pub flag_told : Option (Option Bool) → End
flag_told (Some (Some flag)) = ends.Ok (Held flag)
flag_told (Some None) = ends.Err (errors.ColumnDecode 0)
flag_told None = ends.Err (errors.ColumnDecode 0)

abbrev pub flag_shown : List Item → End
flag_shown (Row values ∷ items) = flag_told (flag_in values)
flag_shown _ = ends.Err (errors.ColumnDecode 0)

abbrev pub flag_behind : End → List Item → End
flag_behind (ends.Ok answer) items = flag_shown items
flag_behind (ends.Err e) items = ends.Err e
flag_behind ends.Dropped items = ends.Dropped

-- the row is the answer, and isn't shown
abbrev pub told_flag : Outcome → Outcome
told_flag asked = record asked { items = []; end = flag_behind asked.end asked.items }

abbrev pub IsAsked : Step → List ℕ → PgAdvisoryLockKey → Outcome → List Step → List Outcome → Type 0
IsAsked step text key out parts told = (asked : Outcome) × (parts ≡ asking step text key ∷ []) × (told ≡ asked ∷ []) × (out ≡ told_flag asked)

-- ---- a lock that is waited for: its statement is prepared, and then run

-- the step that runs it, which has the polls that are left behind so many that waited
abbrev pub locking : Step → ℕ → PgAdvisoryLockKey → Step
locking step waits key = record step { call = calls.Execute (with_key (lock_statement key) key); polls = step.polls - waits }

-- what releases it, without waiting
abbrev pub releasing : Step → PgAdvisoryLockKey → Step
releasing step key = record step { call = calls.Release (unlock_query key) }

-- how many groups the call that runs it has queued once the lock is asked for: one where the statement is kept, and else one more, which describes it
abbrev pub lock_at : CacheStep → ℕ
lock_at cache.Same = 2
lock_at cache.Hit = 1
lock_at cache.Put = 1
lock_at cache.PutEvicting = 1

-- neither Ok nor an error of the server has answered it
abbrev pub is_open : End → Bool
is_open (ends.Ok answer) = false
is_open (ends.Err (errors.Database details)) = false
is_open _ = true

-- the session may hold the lock, though nobody has it
abbrev pub is_due : Outcome → Outcome → Bool
is_due first later = is_open later.end && leb (lock_at first.cache) later.groups

abbrev pub end_locked : End → End
end_locked (ends.Ok answer) = ends.Ok AnswersUnit
end_locked (ends.Err e) = ends.Err e
end_locked ends.Dropped = ends.Dropped

-- both calls in sum; of the statements that are kept the step tells what the first made
abbrev pub told_locked : Outcome → Outcome → Outcome
told_locked first later = record {
  items = [];
  end = end_locked later.end;
  groups = summed first.groups later.groups;
  heard = summed first.heard later.heard;
  cache = first.cache;
  waits = summed first.waits later.waits;
  moved = summed first.moved later.moved;
}

-- and the group of the release
abbrev pub told_released : Outcome → Outcome → Outcome → Outcome
told_released first later act = record (told_locked first later) { groups = summed (summed first.groups later.groups) act.groups }

-- The lock that was asked for and isn't had is released. Where it isn't even prepared, nothing comes behind that.
abbrev pub IsLocked : Step → PgAdvisoryLockKey → Outcome → List Step → List Outcome → Type 0
IsLocked step key out parts told =
    ((first : Outcome) × (is_fine first.end ≡ false) × (parts ≡ preparing step (lock_statement key) ∷ []) × (told ≡ first ∷ []) × (out ≡ first))
    ⊎ (((first later : Outcome) × (is_fine first.end ≡ true) × (is_due first later ≡ false) × (parts ≡ preparing step (lock_statement key) ∷ locking step first.waits key ∷ []) × (told ≡ first ∷ later ∷ []) × (out ≡ told_locked first later))
    ⊎ ((first later act : Outcome) × (is_fine first.end ≡ true) × (is_due first later ≡ true) × (parts ≡ preparing step (lock_statement key) ∷ locking step first.waits key ∷ releasing step key ∷ []) × (told ≡ first ∷ later ∷ act ∷ []) × (out ≡ told_released first later act)))

-- ---- guards

-- the lock was taken
abbrev pub is_had : End → Bool
is_had (ends.Ok (Held flag)) = flag
is_had (ends.Ok answer) = true
is_had (ends.Err e) = false
is_had ends.Dropped = false

-- behind that there is one more
abbrev pub guards_behind : PgAdvisoryLockKey → Guards → End → Guards
guards_behind key guards end = if is_had end then guards ++ key ∷ [] else guards

abbrev pub HasNone : PgAdvisoryLockKey → Guards → Type 0
HasNone key guards = AllByRecursion (λ other. other ≢ key) guards

-- where the first of this key stands
abbrev pub IsFirstAt : PgAdvisoryLockKey → Guards → Option ℕ → Type 0
IsFirstAt key guards None = HasNone key guards
IsFirstAt key guards (Some i) = (i < length guards) × (guards ≡ take i guards ++ key ∷ drop (i + 1) guards) × HasNone key (take i guards)

-- The first guard of a key is given up: its lock is released without waiting. Without one nothing is done.
abbrev pub GivesUp : Step → PgAdvisoryLockKey → Guards → Guards → Outcome → List Step → List Outcome → Type 0
GivesUp step key guards after out parts told =
    (HasNone key guards × (after ≡ guards) × (parts ≡ []) × (told ≡ []) × (out ≡ untouched (ends.Ok AnswersUnit)))
    ⊎ ((front later : Guards) × (guards ≡ front ++ key ∷ later) × HasNone key front × (after ≡ front ++ later) × (parts ≡ releasing step key ∷ []) × (told ≡ out ∷ []))
