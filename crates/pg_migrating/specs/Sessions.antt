-- A session that is opened over a dial for one call.
use Rattle.std.specs.Prelude.{◌≡◌, ◌⊎◌, ◌&&◌, ℕ, Bool, true, false, is_none, Option, Some, None, Result, Ok, Err}
use Rattle.futures.specs.declared.task.Poll.{Poll}
use Rattle.futures.specs.declared.task.Poll.TheVariants.{Ready, Pending}
use Rattle.pg_wire.specs.declared.error.Error.{Error}
use Rattle.pg_stream.specs.Links.{LinkSeen}
use Rattle.pg_call.specs.declared.kind.Kind.{Kind}
use Rattle.pg_call.specs.declared.answer.Turn.{Turn}
use Rattle.pg_call.specs.declared.answer.Turn.TheVariants as turns
use Rattle.pg_call.specs.declared.request.Request.{Request}
use Rattle.pg_call.specs.Answers.{TurnFits}
use Rattle.pg_conn.specs.Connecting.{ConnectingOf}
use Rattle.pg_conn.specs.Connections.{ConnOf, runs, seen_by, started_call}
use Rattle.pg_conn.specs.Dials.{DialSeen}
use Rattle.pg_conn.specs.States.{IsCalling}
use Rattle.pg_conn.specs.Turns.{PollsWithin}
use Rattle.pg_migrating.specs.Calls.{Called, Waits}
use Rattle.pg_conn.specs.Dialling.{Handing}
use Rattle.pg_migrating.specs.Openings.{FailsToOpen, Opened, Polls, Starts}
use Rattle.pg_migrating.specs.declared.errand.Errand.{Errand}
use Rattle.pg_migrating.specs.declared.opening.Connected.{Connected}
use Rattle.pg_migrating.specs.declared.opening.Connected.TheVariants as connected
use Rattle.pg_migrating.specs.declared.opening.Stage.{Stage}
use Rattle.pg_migrating.specs.declared.opening.Stage.TheVariants as stages
use Rattle.pg_migrating.specs.declared.opening.Start.{Start}

-- What is known of the sessions over a dial: of the links, the words and the counts of the dial; and of a session S that has no connection yet, where it
-- stands for an errand or for why there is none, if it began with the first dial, and the second is the dial now; and of which kind its call is.
pub record Opening (D S A : Type 0) : Type 1 where
  pub hands : Handing D A
  pub counts : D → DialSeen
  pub stands : Result Errand Error → D → D → S → Type 0
  pub goes : Kind → S → Type 0

-- at most one of them is there
pub record SessionSeen (S A : Type 0) : Type 0 where
  pub start : Option S
  pub conn : Option (ConnOf A)

-- ---- the kind of its call

-- on whatever connection this is asked, it is a call of this kind
abbrev pub CallsAs : Type 0 → Kind → Request → Type 0
CallsAs A kind r = (c : ConnOf A) → IsCalling kind (started_call r c)

abbrev pub AsksAs : Type 0 → Kind → Result Errand Error → Type 0
AsksAs A kind (Ok errand) = CallsAs A kind errand.request
AsksAs A kind (Err e) = Unit {0}

-- it is still to be polled, and its call is of this kind
abbrev pub GoesBy : {D S A : Type 0} → Opening D S A → Kind → Option S → Option (ConnOf A) → Type 0
GoesBy o kind (Some s) None = o.goes kind s
GoesBy o kind None (Some c) = IsCalling kind c
GoesBy o kind start conn = ⊥

abbrev pub Goes : {D S A : Type 0} → Opening D S A → Kind → SessionSeen S A → Type 0
Goes o kind s = GoesBy o kind s.start s.conn

-- a session that has answered Ok has its connection
abbrev pub KeepsConn : {A : Type 0} → Turn → Option (ConnOf A) → Type 0
KeepsConn (turns.Ok answer) None = ⊥
KeepsConn turn conn = Unit {0}

-- what its call answers is of its kind, and it goes on while it waits
abbrev pub GoesOn : {D S A : Type 0} → Opening D S A → Kind → SessionSeen S A → Poll Turn → Type 0
GoesOn o kind s Pending = Goes o kind s
GoesOn o kind s (Ready turn) = (s.start ≡ None) × TurnFits kind turn × KeepsConn turn s.conn

-- nothing was done for it yet
pub record IsFresh {D S A : Type 0} (o : Opening D S A) (asked : Result Errand Error) (s : S) : Type 0 where
  pub stands : (d : D) → o.stands asked d d s
  pub goes : (kind : Kind) → AsksAs A kind asked → o.goes kind s

abbrev pub IsNewSession : {D S A : Type 0} → Opening D S A → Result Errand Error → SessionSeen S A → Type 0
IsNewSession {D} {S} {A} o asked s = (start : S) × (s ≡ record { start = Some start; conn = None }) × IsFresh o asked start

-- ---- how far it has come

-- Its connection was opened over the dial, and the call that was begun on it has come to this turn, on a connection that stands so.
pub record Comes {D S A : Type 0} (seen : A → LinkSeen) (o : Opening D S A) (errand : Errand) (d e : D) (turn : Turn) (conn : ConnOf A) : Type 0 where
  pub from : ConnOf A
  pub opened : Opened seen o.hands errand.options d e from
  pub called : Called seen errand.request from conn turn

-- or it waits there
pub record WaitsOn {D S A : Type 0} (seen : A → LinkSeen) (o : Opening D S A) (errand : Errand) (d e : D) (conn : ConnOf A) : Type 0 where
  pub from : ConnOf A
  pub opened : Opened seen o.hands errand.options d e from
  pub waits : Waits seen errand.request from conn

-- where a session of this errand stands: it began with the dial d, and e is the dial now
abbrev pub StandsBy : {D S A : Type 0} → (A → LinkSeen) → Opening D S A → Result Errand Error → D → Option S → Option (ConnOf A) → D → Type 0
StandsBy seen o asked d (Some s) None e = o.stands asked d e s
StandsBy seen o asked d None (Some c) e = (errand : Errand) × (asked ≡ Ok errand) × WaitsOn seen o errand d e c
StandsBy seen o asked d start conn e = ⊥

abbrev pub Stands : {D S A : Type 0} → (A → LinkSeen) → Opening D S A → Result Errand Error → D → SessionSeen S A → D → Type 0
Stands seen o asked d s e = StandsBy seen o asked d s.start s.conn e

-- its call has come to this turn
abbrev pub CameTo : {D S A : Type 0} → (A → LinkSeen) → Opening D S A → Result Errand Error → D → D → Turn → ConnOf A → Type 0
CameTo seen o asked d e turn conn = (errand : Errand) × (asked ≡ Ok errand) × Comes seen o errand d e turn conn

-- there is no call: there was no errand, and the dial is as it was; or no connection
abbrev pub Fails : {D S A : Type 0} → (A → LinkSeen) → Opening D S A → Result Errand Error → D → D → Error → Type 0
Fails seen o asked d e error = ((asked ≡ Err error) × (e ≡ d)) ⊎ ((errand : Errand) × (asked ≡ Ok errand) × FailsToOpen seen o.hands o.counts errand.options d e error)

-- what a poll tells
abbrev pub Tells : {D S A : Type 0} → (A → LinkSeen) → Opening D S A → Result Errand Error → D → SessionSeen S A → D → Poll Turn → Type 0
Tells seen o asked d s e Pending = Stands seen o asked d s e
Tells {D} {S} {A} seen o asked d s e (Ready (turns.Err error)) = ((conn : ConnOf A) × CameTo seen o asked d e (turns.Err error) conn) ⊎ Fails seen o asked d e error
Tells {D} {S} {A} seen o asked d s e (Ready turn) = (conn : ConnOf A) × (s.conn ≡ Some conn) × CameTo seen o asked d e turn conn

-- ---- its parts

abbrev pub without_conn : {S A : Type 0} → SessionSeen S A → SessionSeen S A
without_conn s = record s { conn = None }

abbrev pub is_over : {S A : Type 0} → SessionSeen S A → Bool
is_over s = is_none s.start && is_none s.conn

-- it has not ended
abbrev pub GoesStart : {D S A : Type 0} → Opening D S A → S → Type 0
GoesStart o s = (kind : Kind) × o.goes kind s

abbrev pub StartGoes : {D S A : Type 0} → Opening D S A → Option S → Type 0
StartGoes o None = Unit {0}
StartGoes o (Some s) = GoesStart o s

abbrev pub ConnRuns : {A : Type 0} → Option (ConnOf A) → Type 0
ConnRuns None = ⊥
ConnRuns (Some c) = runs c.call ≡ true

abbrev pub IsGoing : {D S A : Type 0} → Opening D S A → SessionSeen S A → Type 0
IsGoing o s = (kind : Kind) × Goes o kind s

-- what becomes of a session that has no connection, while the dial goes from d to e: it waits
abbrev pub WaitsBehind : {D S A : Type 0} → Opening D S A → D → S → D → S → Type 0
WaitsBehind {D} o d s e t = ((kind : Kind) → o.goes kind s → o.goes kind t) × ((asked : Result Errand Error) (first : D) → o.stands asked first d s → o.stands asked first e t)

-- its connection has begun what is asked
abbrev pub OpensBehind : {D S A : Type 0} → (A → LinkSeen) → Opening D S A → D → S → D → ConnOf A → Type 0
OpensBehind {D} {S} {A} seen o d s e c = ((kind : Kind) → o.goes kind s → IsCalling kind c) × ((asked : Result Errand Error) (first : D) → o.stands asked first d s → (errand : Errand) × (asked ≡ Ok errand) × ((from : ConnOf A) × Opened seen o.hands errand.options first e from × (c ≡ started_call errand.request from)))

-- or there is none
abbrev pub FailsBehind : {D S A : Type 0} → (A → LinkSeen) → Opening D S A → D → S → D → Error → Type 0
FailsBehind {D} seen o d s e error = (asked : Result Errand Error) (first : D) → o.stands asked first d s → Fails seen o asked first e error

abbrev pub ConnectsAs : {D S A C : Type 0} → (A → LinkSeen) → Opening D S A → (C → ConnOf A) → D → S → D → Connected S C → Type 0
ConnectsAs seen o held d s e (connected.Waits t) = WaitsBehind o d s e t
ConnectsAs seen o held d s e (connected.Opens c) = OpensBehind seen o d s e (held c)
ConnectsAs seen o held d s e (connected.Fails error) = FailsBehind seen o d s e error

-- and so of the session
abbrev pub OpensSession : {D S A : Type 0} → (A → LinkSeen) → Opening D S A → Option S → SessionSeen S A → SessionSeen S A → D → D → Poll (Result (Unit {0}) Error) → Type 0
OpensSession seen o None s t d e answer = (t ≡ s) × (e ≡ d) × (answer ≡ Ready (Ok tt))
OpensSession {D} {S} seen o (Some start) s t d e Pending = (next : S) × (t ≡ record s { start = Some next }) × WaitsBehind o d start e next
OpensSession {D} {S} {A} seen o (Some start) s t d e (Ready (Ok u)) = (conn : ConnOf A) × (t ≡ record s { start = None; conn = Some conn }) × OpensBehind seen o d start e conn
OpensSession seen o (Some start) s t d e (Ready (Err error)) = (t ≡ record s { start = None }) × FailsBehind seen o d start e error

-- of its call
abbrev pub PollsSession : {S A : Type 0} → (A → LinkSeen) → ℕ → Option (ConnOf A) → SessionSeen S A → SessionSeen S A → Poll Turn → Type 0
PollsSession seen left None s t answer = ⊥
PollsSession {S} {A} seen left (Some a) s t answer = (b : ConnOf A) × (t ≡ record s { conn = Some b }) × PollsWithin left (seen_by seen a) (seen_by seen b) answer

-- ---- over a dial

-- what it is opened for, or its start-up
abbrev pub stands_at : {D A : Type 0} → (A → LinkSeen) → Handing D A → Result Errand Error → D → D → Stage A → Type 0
stands_at seen hands asked d e (stages.Asked question) = (question ≡ asked) × (e ≡ d)
stands_at seen hands asked d e (stages.Begun request start) = (errand : Errand) × (asked ≡ Ok errand) × (request ≡ errand.request) × Starts seen hands errand.options d e start

abbrev pub goes_at : {A : Type 0} → Kind → Stage A → Type 0
goes_at {A} kind (stages.Asked asked) = AsksAs A kind asked
goes_at {A} kind (stages.Begun request start) = (start.startup.is_finished ≡ false) × CallsAs A kind request

abbrev pub over_dial : {D A : Type 0} → (A → LinkSeen) → Handing D A → (D → DialSeen) → Opening D (Start A) A
over_dial seen hands counts = record { hands = hands; counts = counts; stands = λ asked d e s. stands_at seen hands asked d e s.stage; goes = λ kind s. goes_at kind s.stage }

-- a poll of its start-up, behind which this is asked
abbrev pub Connects : {A : Type 0} → (A → LinkSeen) → Request → ConnectingOf A → Connected (Start A) (ConnOf A) → Type 0
Connects {A} seen r a (connected.Waits s) = (b : ConnectingOf A) × (s ≡ record { stage = stages.Begun r b }) × (b.startup.is_finished ≡ false) × Polls seen a b Pending
Connects {A} seen r a (connected.Opens c) = (b : ConnectingOf A) × (from : ConnOf A) × (c ≡ started_call r from) × Polls seen a b (Ready (Ok from))
Connects {A} seen r a (connected.Fails error) = (b : ConnectingOf A) × Polls seen a b (Ready (Err error))
