-- Why a poll of a listener waits, and where a closed pool is noted.
use Rattle.std.specs.Prelude.{◌≡◌, ◌⊎◌, ◌≤◌, ℕ, true, List, [], Option, None, Result, Ok, Err, IfErr}
use Rattle.futures.specs.declared.task.Poll.{Poll}
use Rattle.futures.specs.declared.task.Poll.TheVariants.{Ready, Pending}
use Rattle.pg_wire.specs.declared.error.Error.{Error}
use Rattle.pg_stream.specs.Links.{LinkSeen}
use Rattle.pg_conn.specs.Connections.{ConnOf, ConnSeen}
use Rattle.pg_conn.specs.News.{PollsNews}
use Rattle.pg_pool.specs.Seats.{SeatSeen}
use Rattle.pg_listen.specs.Handed.{FillingOf}
use Rattle.pg_listen.specs.Pools.{Section}
use Rattle.pg_listening.specs.Listening.{OnHeld, PollsStatement}
use Rattle.pg_listening.specs.Hearing.{AsksAgain, HearingOf, HearsBy}
use Rattle.pg_listening.specs.Leaving.{IsFresh, NotesClosed, PollsOn, RefusesClosed}

module _ {S A : Type 0} (seen : A → LinkSeen) (filling : S → FillingOf A) where
  -- a start-up stays as it is; or it is over, or one began meanwhile
  abbrev pub StartsFrom : Option S → Option S → Type 0
  StartsFrom before behind = (behind ≡ before) ⊎ IsFresh seen filling behind

-- ---- why a poll waits

module _ {C S A : Type 0} (seen : A → LinkSeen) (conn : C → ConnOf A) where
  -- this was done with the connection that is held
  abbrev pub OnConn : (ConnSeen → ConnSeen → Type 0) → HearingOf C S A → HearingOf C S A → Type 0
  OnConn P a b = OnHeld P conn seen a.listening.conn b.listening.conn

module _ {S A : Type 0} (seen : A → LinkSeen) (filling : S → FillingOf A) where
  -- a start-up that was there before, or one over a link that was not called yet, was polled, and waits
  abbrev pub StartUpWaits : ℕ → ℕ → Option S → Option S → Type 0
  StartUpWaits left now before behind = (startup : Option S) × StartsFrom seen filling before startup × PollsOn seen filling left now startup behind

module _ {C S A : Type 0} (seen : A → LinkSeen) (conn : C → ConnOf A) (filling : S → FillingOf A) where
  -- A notification was waited for, or a statement's end, or a start-up's; this start-up was there before, if any.
  abbrev pub LastWaits : ℕ → ℕ → Option S → HearingOf C S A → HearingOf C S A → Type 0
  LastWaits left now startup a b = OnConn seen conn (λ c d. PollsNews left now c d Pending) a b ⊎ OnConn seen conn (λ c d. PollsStatement left c d Pending) a b ⊎ StartUpWaits seen filling left now startup b.startup

  -- Why a poll waits within so many calls of links, of which these are left: nothing was given, and what it did last waits, with the calls that were left to it.
  pub record WaitsBy (left now : ℕ) (a b : HearingOf C S A) : Type 0 where
    pub last : HearingOf C S A
    pub rest : ℕ
    pub fewer : rest ≤ left
    pub leads : HearsBy seen conn a last []
    pub waits : LastWaits rest now a.startup last b

-- this holds where it waits
abbrev pub OnPending : {X : Type 0} → Poll X → Type 0 → Type 0
OnPending Pending P = P
OnPending (Ready x) P = Unit {0}

-- ---- it listens again

module _ {C S A : Type 0} (seen : A → LinkSeen) (conn : C → ConnOf A) where
  -- a statement on the connection that is held was polled within so many calls of its link, and has ended well
  abbrev pub EndsWell : ℕ → HearingOf C S A → HearingOf C S A → Type 0
  EndsWell left a b = OnConn seen conn (λ c d. PollsStatement left c d (Ready (Ok tt))) a b

module _ {C S A : Type 0} (seen : A → LinkSeen) (conn : C → ConnOf A) (with_conn : C → ConnOf A → C) where
  -- The statement that listens to all of the channels was asked, in this poll or before it, and has ended well.
  pub record ListensAgain (channels : List (List ℕ)) (b : HearingOf C S A) : Type 0 where
    pub before : HearingOf C S A
    pub asked : HearingOf C S A
    pub left : ℕ
    pub channels_are : before.listening.channels ≡ channels
    pub asks : AsksAgain conn with_conn before asked
    pub ends : EndsWell seen conn left asked b

  -- a poll made the connection listen to all of the channels, or an earlier one had
  abbrev pub ReadiesBy : HearingOf C S A → HearingOf C S A → Type 0
  ReadiesBy a b = (a.is_ready ≡ true) ⊎ ListensAgain a.listening.channels b

-- this holds where None tells a loss
abbrev pub OnNone : {X : Type 0} → Poll (Result (Option X) Error) → Type 0 → Type 0
OnNone (Ready (Ok None)) P = P
OnNone answer P = Unit {0}

-- ---- a pool that was closed

abbrev pub NotesBy : {X : Type 0} → (A : Type 0) → ℕ → SeatSeen → Poll (Result X Error) → Type 0
NotesBy A most t (Ready (Err e)) = NotesClosed A most t e
NotesBy A most t answer = Unit {0}

-- the pool is asked first whether it was closed, and where it was, that is the answer
abbrev pub AsksClosed : {X : Type 0} → (A : Type 0) → ℕ → SeatSeen → Poll (Result X Error) → Type 0
AsksClosed A most s answer = (t : SeatSeen) × (found : Result (Unit {0}) Error) × Section {A = A} most (λ a b. RefusesClosed s t a b found) × IfErr found (λ e. answer ≡ Ready (Err e))
