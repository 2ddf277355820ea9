-- A listener with where its connections come from.
use Rattle.std.specs.Prelude.{◌≡◌, ◌≢◌, ◌⊎◌, ◌||◌, ℕ, Bool, true, false, List, [], ◌∷◌, Option, Some, None, is_some, IsSome, Result, Ok, Err}
use Rattle.futures.specs.declared.task.Poll.{Poll}
use Rattle.futures.specs.declared.task.Poll.TheVariants.{Ready, Pending}
use Rattle.pg_wire.specs.declared.error.Error.{Error}
use Rattle.pg_wire.specs.declared.error.Error.TheVariants as errors
use Rattle.pg_wire.specs.declared.message.notification_response.Notification.{Notification}
use Rattle.pg_stream.specs.Links.{LinkSeen}
use Rattle.pg_options.specs.Options.{ConnectOptions}
use Rattle.pg_call.specs.declared.answer.Turn.{Turn}
use Rattle.pg_call.specs.declared.request.Request.{Request}
use Rattle.pg_listening.specs.Changes.{changed}
use Rattle.pg_listening.specs.declared.channel_change.ChannelChange.{ChannelChange}
use Rattle.pg_pool.specs.Seats.{SeatSeen}
use Rattle.pg_listen.specs.Handed.{FillingOf, HeldOf, PoolSeen, ReleasedOf}
use Rattle.pg_listening.specs.Failing.{BesideSeen, CausedBy, Fails, beside_of}
use Rattle.pg_listening.specs.Sources.{PoolSourceOf, SourceSeen, pool_source}
use Rattle.pg_listening.specs.Hearing.{HearingOf, HearsBy, channels_at_ok, fresh_hearing, is_changing, stored_first}
use Rattle.pg_listening.specs.Leaving.{NotesClosed, OnReleased}
use Rattle.pg_listening.specs.Querying.{Queries}
use Rattle.pg_listening.specs.Waiting.{WaitsBy}
use Rattle.pg_conn.specs.Connections.{ConnOf}
use Rattle.pg_conn.specs.Dials.{DialSeen}

-- where its connections come from, and what it hears
pub record ListenerOf (B C S A : Type 0) : Type 0 where
  pub source : B
  pub hearing : HearingOf C S A

-- what lies beside it in a poll from one of its states to the other
abbrev pub beside_by : {B C S A : Type 0} → (B → SourceSeen) → ListenerOf B C S A → ListenerOf B C S A → BesideSeen
beside_by now a b = beside_of (now a.source) (now b.source)

-- the notification that a stream's poll gave
abbrev pub told_by : Poll (Option (Result Notification Error)) → List Notification
told_by (Ready (Some (Ok news))) = news ∷ []
told_by answer = []

-- it is over behind an error
abbrev pub ends_by : Bool → Poll (Option (Result Notification Error)) → Bool
ends_by is_over (Ready (Some (Err e))) = true
ends_by is_over answer = is_over

-- None tells that it was over, and is the only answer then
abbrev pub AnswersNone : Bool → Poll (Option (Result Notification Error)) → Type 0
AnswersNone true answer = answer ≡ Ready None
AnswersNone false answer = answer ≢ Ready None

-- a poll has ended its call
abbrev pub is_answered : {X : Type 0} → Poll X → Bool
is_answered Pending = false
is_answered (Ready x) = true

-- ---- changes of the channels

-- a change that its first poll begins, or one that has begun, goes on
abbrev pub goes_on : {C S A : Type 0} → Option ChannelChange → HearingOf C S A → Bool
goes_on change h = is_some change || is_changing h

-- the channels that a change stores before its statement is asked, and those that its Ok makes
abbrev pub stored_by : {C S A : Type 0} → Option ChannelChange → HearingOf C S A → List (List ℕ)
stored_by (Some change) h = stored_first change h.listening.channels
stored_by None h = h.listening.channels

abbrev pub wanted_by : {C S A : Type 0} → Option ChannelChange → HearingOf C S A → List (List ℕ)
wanted_by (Some change) h = changed change h.listening.channels
wanted_by None h = channels_at_ok h

-- An Ok makes these. An Err leaves those that were stored before its statement was asked; where memory was wanting for that, all are as they were. Where it
-- waits, it is to make the same.
abbrev pub MakesChange : {C S A : Type 0} → Option ChannelChange → HearingOf C S A → HearingOf C S A → Poll (Result (Unit {0}) Error) → Type 0
MakesChange change a b (Ready (Ok u)) = b.listening.channels ≡ wanted_by change a
MakesChange change a b (Ready (Err e)) = (b.listening.channels ≡ stored_by change a) ⊎ ((b.listening.channels ≡ a.listening.channels) × (e ≡ errors.OutOfMemory))
MakesChange change a b Pending = (b.listening.channels ≡ stored_by change a) × (channels_at_ok b ≡ wanted_by change a) × (is_changing b ≡ true)

-- ---- why a poll answers

-- why it waits or fails, within the calls of one poll
abbrev pub Caused : {C S A X : Type 0} → (A → LinkSeen) → (C → ConnOf A) → (C → ConnOf A → C) → (S → FillingOf A) → BesideSeen → HearingOf C S A → HearingOf C S A → Poll (Result X Error) → Type 0
Caused seen conn with_conn filling o a b answer = (now : ℕ) × CausedBy seen conn with_conn filling o 256 now a b answer

-- the same behind the begin of a change, which asks nothing of a link
abbrev pub CausedBehind : {C S A X : Type 0} → (A → LinkSeen) → (C → ConnOf A) → (C → ConnOf A → C) → (S → FillingOf A) → BesideSeen → ℕ → ℕ → HearingOf C S A → HearingOf C S A → Poll (Result X Error) → Type 0
CausedBehind {C} {S} {A} seen conn with_conn filling o left now a b answer = (begun : HearingOf C S A) × HearsBy seen conn a begun [] × CausedBy seen conn with_conn filling o left now begun b answer

abbrev pub CausedBegun : {C S A X : Type 0} → (A → LinkSeen) → (C → ConnOf A) → (C → ConnOf A → C) → (S → FillingOf A) → BesideSeen → HearingOf C S A → HearingOf C S A → Poll (Result X Error) → Type 0
CausedBegun seen conn with_conn filling o a b answer = (now : ℕ) × CausedBehind seen conn with_conn filling o 256 now a b answer

-- or all of its calls were made, and connections were lost in them
abbrev pub WaitsOrSpent : {C S A : Type 0} → (A → LinkSeen) → (C → ConnOf A) → (S → FillingOf A) → HearingOf C S A → HearingOf C S A → Type 0
WaitsOrSpent seen conn filling a b = (now : ℕ) × (WaitsBy seen conn filling 256 now a b ⊎ (now ≡ 0))

-- and why it fails
abbrev pub FailsWithin : {C S A : Type 0} → (A → LinkSeen) → (C → ConnOf A) → (C → ConnOf A → C) → (S → FillingOf A) → BesideSeen → HearingOf C S A → HearingOf C S A → Error → Type 0
FailsWithin seen conn with_conn filling o a b e = (now : ℕ) × Fails seen conn with_conn filling o 256 now a b e

-- one poll of what it asks for its user
abbrev pub QueriesIn : {C S A : Type 0} → (A → LinkSeen) → (C → ConnOf A) → (C → ConnOf A → C) → (S → FillingOf A) → BesideSeen → Option Request → Option Request → HearingOf C S A → HearingOf C S A → Poll Turn → Type 0
QueriesIn seen conn with_conn filling o request rest a b answer = (now : ℕ) × Queries seen conn with_conn filling o 256 now request rest a b answer

-- this holds of the error that a stream gives
abbrev pub OnTold : {X : Type 0} → (Error → Type 0) → Poll (Option (Result X Error)) → Type 0
OnTold P (Ready (Some (Err e))) = P e
OnTold P answer = Unit {0}

-- ---- the calls that begin and end it

-- a connection is held
abbrev pub holds : {B C S A : Type 0} → Option (ListenerOf B C S A) → Bool
holds None = false
holds (Some l) = is_some l.hearing.listening.conn

-- it hears no more than it had, and its channels stay
abbrev pub IsHeardOn : {B C S A : Type 0} → (A → LinkSeen) → (C → ConnOf A) → ListenerOf B C S A → ListenerOf B C S A → Type 0
IsHeardOn seen conn a b = HearsBy seen conn a.hearing b.hearing [] × (b.hearing.listening.channels ≡ a.hearing.listening.channels)

-- the listener is handed on where it has a connection, and else stays; why it waits or fails
abbrev pub Connects : {B C S A : Type 0} → (A → LinkSeen) → (C → ConnOf A) → (C → ConnOf A → C) → (S → FillingOf A) → (B → SourceSeen) → Option (ListenerOf B C S A) → Option (ListenerOf B C S A) → Poll (Result (ListenerOf B C S A) Error) → Type 0
Connects seen conn with_conn filling now None after answer = ⊥
Connects seen conn with_conn filling now (Some a) None (Ready (Ok b)) = IsHeardOn seen conn a b × IsSome b.hearing.listening.conn
Connects {B} {C} {S} {A} seen conn with_conn filling now (Some a) (Some b) (Ready (Err e)) = IsHeardOn seen conn a b × FailsWithin seen conn with_conn filling (beside_by now a b) a.hearing b.hearing e × NotesClosed A (now a.source).most (now b.source).seat e
Connects seen conn with_conn filling now (Some a) (Some b) Pending = IsHeardOn seen conn a b × ((left : ℕ) × WaitsBy seen conn filling 256 left a.hearing b.hearing)
Connects seen conn with_conn filling now (Some a) after answer = ⊥

-- it listens on where its pool was closed
abbrev pub ignoring_close : {B C S A : Type 0} → ListenerOf B C S A → ListenerOf B C S A
ignoring_close l = record l { hearing = record l.hearing { ignores_close = true } }

-- the first participant of a pool of this name, which has called nothing yet
abbrev pub IsFirst : ℕ → SeatSeen → Type 0
IsFirst name s = (s.number ≡ 0) × (s.name ≡ name) × (s.receipts ≡ []) × (s.ids ≡ [])

-- it stands over a new pool of these options, which it alone has with its first participant, and ignores a close of it
abbrev pub StandsAlone : {D A : Type 0} → (D → DialSeen) → ℕ → ℕ → ConnectOptions → D → ListenerOf (PoolSourceOf PoolSeen SeatSeen D) (HeldOf A) (FillingOf A) A → Type 0
StandsAlone seen most name options dial l = (seat : SeatSeen) × IsFirst name seat × (l.source ≡ pool_source (λ p. p) (λ s. s) seen most (record { name = name; options = options }) seat dial) × (l.hearing ≡ fresh_hearing name true)

-- such a one is to connect, where the options could be read
abbrev pub BeginsAlone : {D A : Type 0} → (D → DialSeen) → ℕ → ℕ → Result ConnectOptions Error → D → Option (ListenerOf (PoolSourceOf PoolSeen SeatSeen D) (HeldOf A) (FillingOf A) A) → Bool → Type 0
BeginsAlone {D} {A} seen most name options dial listener is_over = (read : ConnectOptions) × (l : ListenerOf (PoolSourceOf PoolSeen SeatSeen D) (HeldOf A) (FillingOf A) A) × (options ≡ Ok read) × (listener ≡ Some l) × StandsAlone seen most name read dial l × (is_over ≡ false)

-- it is handed on
abbrev pub HandsOn : {W : Type 0} → Option W → Option W → Poll (Result W Error) → Type 0
HandsOn None after answer = ⊥
HandsOn (Some a) after answer = (answer ≡ Ready (Ok a)) × (after ≡ None)

abbrev pub goes_on_in : {B C S A : Type 0} → Option ChannelChange → Option (ListenerOf B C S A) → Bool
goes_on_in change None = false
goes_on_in change (Some l) = goes_on change l.hearing

-- it waits behind the begin of its statement, or fails behind it
abbrev pub WaitsBegun : {C S A : Type 0} → (A → LinkSeen) → (C → ConnOf A) → (S → FillingOf A) → HearingOf C S A → HearingOf C S A → Type 0
WaitsBegun {C} {S} {A} seen conn filling a b = (now : ℕ) × (begun : HearingOf C S A) × HearsBy seen conn a begun [] × WaitsBy seen conn filling 256 now begun b

abbrev pub FailsBegun : {C S A : Type 0} → (A → LinkSeen) → (C → ConnOf A) → (C → ConnOf A → C) → (S → FillingOf A) → BesideSeen → HearingOf C S A → HearingOf C S A → Error → Type 0
FailsBegun {C} {S} {A} seen conn with_conn filling o a b e = (now : ℕ) × (begun : HearingOf C S A) × HearsBy seen conn a begun [] × Fails seen conn with_conn filling o 256 now begun b e

-- It is there until it was released. Then something is answered exactly where a connection was held, which is the one that was released.
abbrev pub Releases : {B C S A : Type 0} → (A → LinkSeen) → (C → ConnOf A) → (C → ConnOf A → C) → (C → HeldOf A) → (S → FillingOf A) → (B → SourceSeen) → Option (ListenerOf B C S A) → Option (ListenerOf B C S A) → Poll (Result (Option (ReleasedOf A)) Error) → Type 0
Releases {B} {C} {S} {A} seen conn with_conn handed filling now (Some a) None (Ready (Ok x)) = (last : ListenerOf B C S A) × HearsBy seen conn a.hearing last.hearing [] × (is_some x ≡ is_some last.hearing.listening.conn) × OnReleased handed conn with_conn (now last.source).most last.hearing.listening.conn x
Releases seen conn with_conn handed filling now (Some a) (Some b) (Ready (Err e)) = HearsBy seen conn a.hearing b.hearing [] × FailsBegun seen conn with_conn filling (beside_by now a b) a.hearing b.hearing e
Releases seen conn with_conn handed filling now (Some a) (Some b) Pending = HearsBy seen conn a.hearing b.hearing [] × (is_changing b.hearing ≡ true) × WaitsBegun seen conn filling a.hearing b.hearing
Releases seen conn with_conn handed filling now before after answer = ⊥

-- what is answered where it lets its connection go at once
abbrev pub LetsGo : {B C S A : Type 0} → (C → HeldOf A) → (C → ConnOf A) → (C → ConnOf A → C) → (B → SourceSeen) → Option (ListenerOf B C S A) → Option (ReleasedOf A) → Type 0
LetsGo handed conn with_conn now None released = released ≡ None
LetsGo handed conn with_conn now (Some l) released = OnReleased handed conn with_conn (now l.source).most l.hearing.listening.conn released
