-- What becomes of a connection that a pool handed out, or of the leave to make one.
use Rattle.std.specs.Prelude.{◌≡◌, ◌⊎◌, ℕ, true, false, Option, Some, None, Result, Ok, Err}
use Rattle.futures.specs.declared.task.Poll.{Poll}
use Rattle.futures.specs.declared.task.Poll.TheVariants.{Ready, Pending}
use Rattle.pg_wire.specs.declared.error.Error.{Error}
use Rattle.pg_wire.specs.declared.error.Error.TheVariants as errors
use Rattle.pg_wire.specs.declared.pool.PoolAct.TheVariants.{Dropped}
use Rattle.pg_stream.specs.Links.{LinkSeen}
use Rattle.pg_stream.specs.Notifications.{none_kept}
use Rattle.pg_startup.specs.Establishing.{IsStarting, establish_by, kept_link}
use Rattle.pg_conn.specs.Cleanliness.{is_clean}
use Rattle.pg_conn.specs.Connecting.{PollsConnect}
use Rattle.pg_conn.specs.Connections.{ConnOf, left}
use Rattle.pg_conn.specs.Dials.{IsUncalled}
use Rattle.pg_conn.specs.News.{with_kept}
use Rattle.pg_pool.specs.Seats.{SeatSeen}
use Rattle.pg_pool.specs.PoolHistory.{without}
use Rattle.pg_pool.specs.declared.handed.Released.TheVariants as released
use Rattle.pg_pool.specs.Sections.{ClosedAt, IsAdded, IsLeft, Releases, is_held}
use Rattle.pg_listen.specs.Handed.{FillingOf, HeldOf, ReleasedOf, TicketSeen}
use Rattle.pg_listen.specs.Pools.{CoreOf, Section}
use Rattle.pg_listening.specs.Listening.{IsOpenPool}
use Rattle.pg_listening.specs.declared.source.Found.{Found}
use Rattle.pg_listening.specs.declared.source.Found.TheVariants as found

-- it was out, and is noted as gone; or the participant doesn't hold it, and nothing is noted
abbrev pub Drops : {A : Type 0} → SeatSeen → SeatSeen → CoreOf A → CoreOf A → ℕ → Type 0
Drops s t a b id = ((is_held s a id ≡ true) × IsAdded s t a b (Dropped id) (without id s.ids) a.kept) ⊎ ((is_held s a id ≡ false) × IsLeft s t a b)

-- the connection that was held was released, which keeps no notifications any longer, and runs no call
abbrev pub OnReleased : {C A : Type 0} → (C → HeldOf A) → (C → ConnOf A) → (C → ConnOf A → C) → ℕ → Option C → Option (ReleasedOf A) → Type 0
OnReleased handed conn with_conn most None None = Unit {0}
OnReleased handed conn with_conn most (Some c) (Some released) = Section most (λ a b. (s : SeatSeen) × (t : SeatSeen) × Releases is_clean s t a b (handed (with_conn c (with_kept none_kept (left (conn c))))) released)
OnReleased handed conn with_conn most c released = ⊥

-- a connection, if there is one, was given back
abbrev pub GivesBack : {A : Type 0} → ℕ → SeatSeen → SeatSeen → Option (HeldOf A) → Option (ReleasedOf A) → Type 0
GivesBack most s t None None = Unit {0}
GivesBack most s t (Some held) (Some released) = Section most (λ a b. Releases is_clean s t a b held released)
GivesBack most s t held released = ⊥

-- the link of a connection that the pool keeps no longer
abbrev pub link_back : {A : Type 0} → Option (ReleasedOf A) → Option A
link_back (Some (released.Foreign conn)) = Some conn.stream.link
link_back (Some (released.Closed conn)) = Some conn.stream.link
link_back answer = None

-- it is of this pool
abbrev pub HeldIs : {C A : Type 0} → (C → HeldOf A) → ℕ → Option C → Type 0
HeldIs handed name None = Unit {0}
HeldIs handed name (Some c) = (handed c).name ≡ name

abbrev pub TicketIs : ℕ → Option TicketSeen → Type 0
TicketIs name None = Unit {0}
TicketIs name (Some ticket) = ticket.name ≡ name

-- a start-up goes on over a link, and its leave is of this pool
pub record Fills {S A : Type 0} (seen : A → LinkSeen) (filling : S → FillingOf A) (name : ℕ) (s : S) : Type 0 where
  pub goes : (filling s).connecting.startup.is_finished ≡ false
  pub leave : TicketIs name (filling s).ticket
  pub first : LinkSeen
  pub starting : IsStarting first (establish_by seen (filling s).connecting.startup)

abbrev pub StartsIn : {S A : Type 0} → (A → LinkSeen) → (S → FillingOf A) → ℕ → Option S → Type 0
StartsIn seen filling name None = Unit {0}
StartsIn seen filling name (Some s) = Fills seen filling name s

-- a start-up, if there is one, is over a link that was not called yet
abbrev pub IsFresh : {S A : Type 0} → (A → LinkSeen) → (S → FillingOf A) → Option S → Type 0
IsFresh seen filling None = Unit {0}
IsFresh {S} {A} seen filling (Some s) = (link : A) × (kept_link (filling s).connecting.startup.phase ≡ Some link) × IsUncalled (seen link)

-- what is found is of this pool
abbrev pub IsFound : {C S A : Type 0} → (A → LinkSeen) → (C → HeldOf A) → (S → FillingOf A) → ℕ → Found C S → Type 0
IsFound seen handed filling name (found.Held c) = (handed c).name ≡ name
IsFound seen handed filling name (found.Starting s) = Fills seen filling name s × IsFresh seen filling (Some s)

-- a start-up is there as long as it waits, and its connection is of this pool
abbrev pub FillsOn : {C S A : Type 0} → (A → LinkSeen) → (C → HeldOf A) → (S → FillingOf A) → ℕ → Option S → Poll (Result C (Error × Option A)) → Type 0
FillsOn {C} {S} seen handed filling name startup Pending = (s : S) × (startup ≡ Some s) × Fills seen filling name s
FillsOn seen handed filling name startup (Ready (Err e)) = (startup ≡ None) × IsOpenPool e.0
FillsOn seen handed filling name startup (Ready (Ok c)) = (startup ≡ None) × ((handed c).name ≡ name)

-- it was polled within so many calls of its link, of which these are left, and waits
abbrev pub PollsOn : {S A : Type 0} → (A → LinkSeen) → (S → FillingOf A) → ℕ → ℕ → Option S → Option S → Type 0
PollsOn seen filling left now (Some s) (Some t) = PollsConnect seen left now (filling s).connecting (filling t).connecting Pending
PollsOn seen filling left now before behind = ⊥

-- it was polled so, and has failed; the link that it had is this
pub record EndsStartUp {S A : Type 0} (seen : A → LinkSeen) (filling : S → FillingOf A) (left now : ℕ) (startup : Option S) (e : Error) (link : Option A) : Type 0 where
  pub last : S
  pub ended : S
  pub is : startup ≡ Some last
  pub polls : PollsConnect seen left now (filling last).connecting (filling ended).connecting (Ready (Err e))
  pub link_is : link ≡ kept_link (filling ended).connecting.startup.phase

-- what a poll of a start-up answers
abbrev pub PollsStartUp : {C S A : Type 0} → (A → LinkSeen) → (S → FillingOf A) → ℕ → ℕ → Option S → Option S → Poll (Result C (Error × Option A)) → Type 0
PollsStartUp seen filling left now before behind Pending = PollsOn seen filling left now before behind
PollsStartUp seen filling left now before behind (Ready (Err e)) = EndsStartUp seen filling left now before e.0 e.1
PollsStartUp seen filling left now before behind (Ready (Ok held)) = Unit {0}

-- the answer of a start-up that is over, and the link of one that has failed
abbrev pub ended : {A : Type 0} → Result (HeldOf A) Error → Option A → Result (HeldOf A) (Error × Option A)
ended (Ok held) link = Ok held
ended (Err e) link = Err (e, link)

-- the place of the entry of a pool that was closed
abbrev pub RefusesClosed : {A : Type 0} → SeatSeen → SeatSeen → CoreOf A → CoreOf A → Result (Unit {0}) Error → Type 0
RefusesClosed s t a b (Ok u) = ClosedAt s t a b (Ok None)
RefusesClosed s t a b (Err (errors.PoolClosed place)) = ClosedAt s t a b (Ok (Some place))
RefusesClosed s t a b (Err e) = ClosedAt s t a b (Err e)

-- that the pool was closed, as an error
abbrev pub as_refusal : Result (Option ℕ) Error → Result (Unit {0}) Error
as_refusal (Ok (Some place)) = Err (errors.PoolClosed place)
as_refusal (Ok None) = Ok tt
as_refusal (Err e) = Err e

-- what is noted of a pool that was closed: an entry of this participant stands at this place of its history, and its last receipt is for this entry
abbrev pub NotesClosed : (A : Type 0) → ℕ → SeatSeen → Error → Type 0
NotesClosed A most t (errors.PoolClosed place) = Section {A = A} most (λ a b. (s : SeatSeen) × RefusesClosed s t a b (Err (errors.PoolClosed place)))
NotesClosed A most t e = Unit {0}
