-- Why a poll of a listener ends by an error.
use Rattle.std.specs.Prelude.{◌≡◌, ◌⊎◌, ◌≤◌, ℕ, [], ◌++◌, Option, Some, option_to_list, Result, Ok, Err}
use Rattle.futures.specs.declared.task.Poll.{Poll}
use Rattle.futures.specs.declared.task.Poll.TheVariants.{Ready, Pending}
use Rattle.pg_wire.specs.declared.error.Error.{Error}
use Rattle.pg_wire.specs.declared.error.Error.TheVariants as errors
use Rattle.pg_wire.specs.declared.error.IoCause.TheVariants as io
use Rattle.pg_stream.specs.Links.{LinkSeen}
use Rattle.pg_options.specs.Options.{ConnectOptions}
use Rattle.pg_startup.specs.Establishing.{RefusesStart, kept_link}
use Rattle.pg_conn.specs.Cleanliness.{is_clean}
use Rattle.pg_conn.specs.Connecting.{PollsConnect}
use Rattle.pg_conn.specs.Dials.{one_more}
use Rattle.pg_conn.specs.News.{PollsNews}
use Rattle.pg_pool.specs.Sections.{Acquires}
use Rattle.pg_pool.specs.Seats.{SeatSeen}
use Rattle.pg_conn.specs.Connections.{ConnOf}
use Rattle.pg_listen.specs.Handed.{FillingOf}
use Rattle.pg_listen.specs.Pools.{Section}
use Rattle.pg_listening.specs.Listening.{IsOpenPool, PollsStatement}
use Rattle.pg_listening.specs.Hearing.{AsksAgain, HearingOf, HearsBy, LosesHeld}
use Rattle.pg_listening.specs.Leaving.{RefusesClosed}
use Rattle.pg_listening.specs.Sources.{SourceSeen}
use Rattle.pg_listening.specs.Waiting.{OnConn, StartsFrom, WaitsBy}

-- ---- no connection is found

-- the dial counted a fault, or memory was refused to it
abbrev pub FailsDial : ℕ → ℕ → Error → Type 0
FailsDial a b (errors.Io io.Fault) = b ≡ one_more a
FailsDial a b errors.OutOfMemory = Unit {0}
FailsDial a b e = ⊥

-- the dial fails, or the options are refused before its link is touched, which is handed back then
abbrev pub FillsNone : {A : Type 0} → (A → LinkSeen) → ConnectOptions → ℕ → ℕ → Error → Option A → Type 0
FillsNone {A} seen options before behind e handed = FailsDial before behind e ⊎ ((link : A) × (handed ≡ Some link) × RefusesStart options (seen link).plan e)

-- the pool has neither a connection nor leave to make one
abbrev pub AcquiresNone : (A : Type 0) → ℕ → SeatSeen → Error → Type 0
AcquiresNone A most t e = Section {A = A} most (λ a b. (s : SeatSeen) × Acquires is_clean s t a b (Err e))

-- What lies beside a listener in one poll: its pool, by its maximum and its options, its participant behind the poll, and how many faults its dial had
-- counted before it and behind it.
pub record BesideSeen : Type 0 where
  pub most : ℕ
  pub options : ConnectOptions
  pub seat : SeatSeen
  pub before : ℕ
  pub behind : ℕ

abbrev pub beside_of : SourceSeen → SourceSeen → BesideSeen
beside_of a b = record { most = a.most; options = a.options; seat = b.seat; before = a.faults; behind = b.faults }

abbrev pub FindsNone : {A : Type 0} → (A → LinkSeen) → BesideSeen → Error → Option A → Type 0
FindsNone {A} seen o e handed = AcquiresNone A o.most o.seat e ⊎ (IsOpenPool e × FillsNone seen o.options o.before o.behind e handed)

-- ---- what is held fails

module _ {C S A : Type 0} (seen : A → LinkSeen) (conn : C → ConnOf A) where
  -- the read of a notification answered it
  abbrev pub ReadFails : ℕ → ℕ → HearingOf C S A → HearingOf C S A → Error → Type 0
  ReadFails left now a b e = OnConn seen conn (λ c d. PollsNews left now c d (Ready (Err e))) a b

  -- so did the statement of a change
  abbrev pub ChangeFails : ℕ → HearingOf C S A → HearingOf C S A → Error → Type 0
  ChangeFails left a b e = OnConn seen conn (λ c d. PollsStatement left c d (Ready (Err e))) a b

module _ {C S A : Type 0} (seen : A → LinkSeen) (conn : C → ConnOf A) (with_conn : C → ConnOf A → C) where
  -- so did the statement that listens to all of the channels, behind which its connection is lost
  pub record ListenFails (left : ℕ) (a b : HearingOf C S A) (e : Error) : Type 0 where
    pub asked : HearingOf C S A
    pub polled : HearingOf C S A
    pub asks : AsksAgain conn with_conn a asked
    pub ends : OnConn seen conn (λ c d. PollsStatement left c d (Ready (Err e))) asked polled
    pub lost : LosesHeld conn polled.listening.conn polled.lost b.lost

module _ {C S A : Type 0} (seen : A → LinkSeen) (filling : S → FillingOf A) where
  -- so did a start-up that was there before, or one over a link that was not called yet; what link it had is lost
  pub record StartUpFails (left now : ℕ) (startup : Option S) (a b : HearingOf C S A) (e : Error) : Type 0 where
    pub last : S
    pub ended : S
    pub from : StartsFrom seen filling startup (Some last)
    pub polls : PollsConnect seen left now (filling last).connecting (filling ended).connecting (Ready (Err e))
    pub lost : b.lost ≡ a.lost ++ option_to_list (kept_link (filling ended).connecting.startup.phase)

module _ {C S A : Type 0} (seen : A → LinkSeen) (conn : C → ConnOf A) where
  -- memory is wanting for the room of its link, or the statement on the connection that is held was polled, and answers this
  abbrev pub PollsAgain : ℕ → HearingOf C S A → HearingOf C S A → Poll (Result (Unit {0}) Error) → Type 0
  PollsAgain left a b answer = (answer ≡ Ready (Err errors.OutOfMemory)) ⊎ OnConn seen conn (λ c d. PollsStatement left c d answer) a b

module _ {C S A : Type 0} (conn : C → ConnOf A) where
  -- the error of that statement, behind which its connection was lost; or memory was wanting for that
  abbrev pub LosesBy : Error → HearingOf C S A → HearingOf C S A → Error → Type 0
  LosesBy e a b told = ((told ≡ e) × LosesHeld conn a.listening.conn a.lost b.lost) ⊎ (told ≡ errors.OutOfMemory)

module _ {C S A : Type 0} (seen : A → LinkSeen) (conn : C → ConnOf A) (with_conn : C → ConnOf A → C) (filling : S → FillingOf A) where
  -- memory is wanting, or what was polled last answered the error, with the calls of its link that were left to it
  abbrev pub LastFails : ℕ → ℕ → Option S → HearingOf C S A → HearingOf C S A → Error → Type 0
  LastFails left now startup a b e = (e ≡ errors.OutOfMemory) ⊎ ReadFails seen conn left now a b e ⊎ ChangeFails seen conn left a b e ⊎ ListenFails seen conn with_conn left a b e ⊎ StartUpFails seen filling left now startup a b e

  -- Why a poll ends by an error within so many calls of links, of which these are left: nothing was given, and what it did last has failed.
  pub record FailsOn (left now : ℕ) (a b : HearingOf C S A) (e : Error) : Type 0 where
    pub last : HearingOf C S A
    pub rest : ℕ
    pub fewer : rest ≤ left
    pub leads : HearsBy seen conn a last []
    pub apart : IsOpenPool e
    pub fails : LastFails rest now a.startup last b e

-- ---- and what lies beside

module _ {C S A : Type 0} (seen : A → LinkSeen) (conn : C → ConnOf A) where
  -- no connection was found, and what link was dialled is lost
  pub record FailsToFind (o : BesideSeen) (a b : HearingOf C S A) (e : Error) : Type 0 where
    pub last : HearingOf C S A
    pub link : Option A
    pub leads : HearsBy seen conn a last []
    pub lost : b.lost ≡ last.lost ++ option_to_list link
    pub none : FindsNone seen o e link

module _ {C S A : Type 0} (seen : A → LinkSeen) (conn : C → ConnOf A) (with_conn : C → ConnOf A → C) (filling : S → FillingOf A) where
  -- or the pool was closed, which it is asked before anything else
  abbrev pub Fails : BesideSeen → ℕ → ℕ → HearingOf C S A → HearingOf C S A → Error → Type 0
  Fails o left now a b e = FailsOn seen conn with_conn filling left now a b e ⊎ FailsToFind seen conn o a b e ⊎ Section {A = A} o.most (λ c d. (s : SeatSeen) × RefusesClosed s o.seat c d (Err e))

-- ---- why a poll answers

module _ {C S A : Type 0} (seen : A → LinkSeen) (conn : C → ConnOf A) (with_conn : C → ConnOf A → C) (filling : S → FillingOf A) where
  -- why it waits, or fails, where it works on what is held alone
  abbrev pub CausedOn : {X : Type 0} → ℕ → ℕ → HearingOf C S A → HearingOf C S A → Poll (Result X Error) → Type 0
  CausedOn left now a b Pending = WaitsBy seen conn filling left now a b
  CausedOn left now a b (Ready (Err e)) = FailsOn seen conn with_conn filling left now a b e
  CausedOn left now a b (Ready (Ok x)) = Unit {0}

  -- why any other waits, or fails; at its Ok its dial has counted no fault
  abbrev pub CausedBy : {X : Type 0} → BesideSeen → ℕ → ℕ → HearingOf C S A → HearingOf C S A → Poll (Result X Error) → Type 0
  CausedBy o left now a b Pending = WaitsBy seen conn filling left now a b
  CausedBy o left now a b (Ready (Err e)) = Fails seen conn with_conn filling o left now a b e
  CausedBy o left now a b (Ready (Ok x)) = o.behind ≡ o.before

-- this holds of the error that it ends by
abbrev pub OnFailed : {X : Type 0} → (Error → Type 0) → Poll (Result X Error) → Type 0
OnFailed P (Ready (Err e)) = P e
OnFailed P answer = Unit {0}
