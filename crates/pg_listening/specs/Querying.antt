-- What a listener asks for its user, on the connection that it listens on.
use Rattle.std.specs.Prelude.{◌≡◌, ◌⊎◌, ◌≤◌, ℕ, [], Option, Some, None, IsSome}
use Rattle.futures.specs.declared.task.Poll.{Poll}
use Rattle.futures.specs.declared.task.Poll.TheVariants.{Ready, Pending}
use Rattle.pg_stream.specs.Links.{LinkSeen}
use Rattle.pg_call.specs.Requests.{main_kind}
use Rattle.pg_call.specs.declared.answer.Turn.{Turn}
use Rattle.pg_call.specs.declared.answer.Turn.TheVariants as turns
use Rattle.pg_call.specs.declared.kind.Kind.{Kind}
use Rattle.pg_call.specs.declared.request.Request.{Request}
use Rattle.pg_conn.specs.Connections.{ConnOf}
use Rattle.pg_conn.specs.Turns.{PollsWithin}
use Rattle.pg_listen.specs.Handed.{FillingOf}
use Rattle.pg_pool.specs.Seats.{SeatSeen}
use Rattle.pg_listening.specs.Listening.{CallsOn, FitsOn, Starts, TurnsOpen}
use Rattle.pg_listening.specs.Failing.{BesideSeen, Fails}
use Rattle.pg_listening.specs.Hearing.{HearingOf, HearsBy}
use Rattle.pg_listening.specs.Leaving.{NotesClosed}
use Rattle.pg_listening.specs.Waiting.{OnConn, ReadiesBy, WaitsBy}

module _ {C S A : Type 0} (conn : C → ConnOf A) where
  -- this is yet to be asked, or its call runs on the connection that is held
  abbrev pub IsQuerying : Kind → Option Request → HearingOf C S A → Type 0
  IsQuerying kind (Some request) h = main_kind request ≡ kind
  IsQuerying kind None h = CallsOn conn kind h.listening.conn

  -- the same behind a poll that answers this, where it goes on
  abbrev pub QueriesOn : Kind → Option Request → HearingOf C S A → Poll Turn → Type 0
  QueriesOn kind request b Pending = IsQuerying kind request b
  QueriesOn kind request b (Ready (turns.Err e)) = Unit {0}
  QueriesOn kind request b (Ready turn) = (request ≡ None) × FitsOn conn kind b.listening.conn (Ready turn)

module _ {C S A : Type 0} (seen : A → LinkSeen) (conn : C → ConnOf A) (with_conn : C → ConnOf A → C) where
  -- it was asked, on a connection that listens to all of the channels; or its call ran already
  abbrev pub IsAskedOn : Option Request → HearingOf C S A → HearingOf C S A → Type 0
  IsAskedOn None a asked = asked ≡ a
  IsAskedOn (Some request) a asked = (ready : HearingOf C S A) × ReadiesBy seen conn with_conn a ready × Starts conn with_conn request ready.listening.conn asked.listening.conn

  -- Its call was polled, within the calls of its link that were left to it. An error of the link is answered, and no loss.
  pub record Asked (left : ℕ) (request : Option Request) (a b : HearingOf C S A) (answer : Poll Turn) : Type 0 where
    pub asked : HearingOf C S A
    pub rest : ℕ
    pub fewer : rest ≤ left
    pub leads : HearsBy seen conn a asked []
    pub asks : IsAskedOn request a asked
    pub polls : OnConn seen conn (λ c d. PollsWithin rest c d answer) asked b
    pub apart : TurnsOpen answer

module _ {C S A : Type 0} (seen : A → LinkSeen) (conn : C → ConnOf A) (with_conn : C → ConnOf A → C) (filling : S → FillingOf A) where
  -- no connection was there to ask it on: it waits for one, or has failed to come by one
  abbrev pub Unasked : BesideSeen → ℕ → ℕ → HearingOf C S A → HearingOf C S A → Poll Turn → Type 0
  Unasked o left now a b Pending = WaitsBy seen conn filling left now a b
  Unasked o left now a b (Ready (turns.Err e)) = Fails seen conn with_conn filling o left now a b e
  Unasked o left now a b (Ready turn) = ⊥

module _ {C S A : Type 0} (seen : A → LinkSeen) (conn : C → ConnOf A) (with_conn : C → ConnOf A → C) where
  -- it is asked, on the connection that is held, and its call polled
  abbrev pub AsksNow : ℕ → Request → HearingOf C S A → HearingOf C S A → Poll Turn → Type 0
  AsksNow left request a b answer = (asked : HearingOf C S A) × HearsBy seen conn a asked [] × Starts conn with_conn request a.listening.conn asked.listening.conn × OnConn seen conn (λ c d. PollsWithin left c d answer) asked b

-- what is yet to be asked behind such a poll
abbrev pub rest_of : Poll Turn → Option Request → Option Request
rest_of Pending request = request
rest_of (Ready turn) request = None

module _ {C S A : Type 0} (seen : A → LinkSeen) (conn : C → ConnOf A) (with_conn : C → ConnOf A → C) (filling : S → FillingOf A) where
  -- one poll, behind which this is yet to be asked
  abbrev pub Queries : BesideSeen → ℕ → ℕ → Option Request → Option Request → HearingOf C S A → HearingOf C S A → Poll Turn → Type 0
  Queries o left now request rest a b answer = (Asked seen conn with_conn left request a b answer × (rest ≡ None)) ⊎ (IsSome request × Unasked seen conn with_conn filling o left now a b answer × (rest ≡ rest_of answer request))

-- where it tells that the pool was closed, this is noted
abbrev pub NotesTurn : (A : Type 0) → ℕ → SeatSeen → Poll Turn → Type 0
NotesTurn A most t (Ready (turns.Err e)) = NotesClosed A most t e
NotesTurn A most t answer = Unit {0}
