-- A start-up over a link: the question for TLS, and then the session's beginning (PostgreSQL manual, "Message Flow").
use Rattle.std.specs.Prelude.{◌≡◌, ℕ, ◌+◌, ◌-◌, ◌^◌, ◌≤◌, ◌⊎◌, min, Bool, true, false, List, [], ◌++◌, length, Option, Result, Ok, Err, Some, None}
use Rattle.futures.specs.declared.task.Poll.{Poll}
use Rattle.futures.specs.declared.task.Poll.TheVariants.{Ready, Pending}
use Rattle.pg_wire.specs.declared.error.Error.{Error}
use Rattle.pg_wire.specs.declared.error.Error.TheVariants as errors
use Rattle.pg_wire.specs.Frame.{Frame}
use Rattle.pg_wire.specs.Parts.{heard}
use Rattle.pg_options.specs.Options.{ConnectOptions}
use Rattle.pg_stream.specs.Links.{LinkPlan, LinkSeen, NoneFalls, GrewBy, NoWaits}
use Rattle.pg_stream.specs.Streams.{fresh_stream, HasNone, HeardCause}
use Rattle.pg_auth.specs.declared.tls.TlsPlan.{TlsPlan}
use Rattle.pg_auth.specs.declared.tls.TlsPlan.TheVariants.{Plain, Ask}
use Rattle.pg_auth.specs.Tls.{tls_plan}
use Rattle.pg_startup.specs.declared.asking.Asked.{Asked}
use Rattle.pg_startup.specs.declared.asking.Asked.TheVariants as asks
use Rattle.pg_startup.specs.declared.starting.Phase.{Phase}
use Rattle.pg_startup.specs.declared.starting.Phase.TheVariants as phases
use Rattle.pg_startup.specs.declared.stage.Stage.TheVariants as stages
use Rattle.pg_startup.specs.declared.stage.Session.{Session}
use Rattle.pg_startup.specs.Nuls.{first_nul_in}
use Rattle.pg_startup.specs.Startups.{startup_of, startup_texts, RefusesStartup}
use Rattle.pg_startup.specs.Exchange.{ClientSeen, Proof, client_of, proofs_text, Leads}
use Rattle.pg_startup.specs.Handshake.{ReadyOf, ready_by, HasBegun}
use Rattle.pg_startup.specs.Asking.{asking_by, HasAsked, Agrees, AskingFails, OneWriteWaits, OneReadWaits, AllCallsMade, AllCallsMoved}
use Rattle.pg_startup.specs.Flows.{Flows}
use Rattle.pg_startup.specs.Greeting.{GreetingOf, GreetingSeen, greeting_by, fresh_greeting, session_at, SaysMore, IsFrontRefused, PollsGreeting}

-- A start-up over a link, or over what is seen of one.
pub record EstablishOf (A : Type 0) : Type 0 where
  pub client : ClientSeen
  pub plan : TlsPlan
  -- the startup message
  pub message : List ℕ
  pub phase : Phase A
  pub is_finished : Bool

abbrev pub phase_by : {A : Type 0} → (A → LinkSeen) → Phase A → Phase LinkSeen
phase_by f (phases.Asking asking) = phases.Asking (asking_by f asking)
phase_by f (phases.Greeting greeting) = phases.Greeting (greeting_by f greeting)
phase_by f phases.Gone = phases.Gone

abbrev pub EstablishSeen : Type 0
EstablishSeen = EstablishOf LinkSeen

abbrev pub establish_by : {A : Type 0} → (A → LinkSeen) → EstablishOf A → EstablishSeen
establish_by f e = record { client = e.client; plan = e.plan; message = e.message; phase = phase_by f e.phase; is_finished = e.is_finished }

-- ---- its beginning

-- the message is queued at once, or once TLS is settled
abbrev pub FirstPhase : {A : Type 0} → A → TlsPlan → List ℕ → Phase A → Type 0
FirstPhase {A} link Plain message phase = (greeting : GreetingOf A) × SaysMore message (fresh_greeting link) greeting × (phase ≡ phases.Greeting greeting)
FirstPhase link (Ask required wish) message phase = phase ≡ phases.Asking (record { link = link; is_required = required; wish = wish; asked = asks.Sending 0 })

-- nothing is sent and nothing is read
abbrev pub IsBeginning : {A : Type 0} → A → ClientSeen → TlsPlan → List ℕ → EstablishOf A → Type 0
IsBeginning link c tls message e = (e.client ≡ c) × (e.plan ≡ tls) × (e.message ≡ message) × (e.is_finished ≡ false) × FirstPhase link tls message e.phase

-- why there is none: a startup message that can't be said, before a link that can't be upgraded
abbrev pub RefusesStart : ConnectOptions → LinkPlan → Error → Type 0
RefusesStart o made e = RefusesStartup o e ⊎ ((first_nul_in (startup_texts o) ≡ None) × (tls_plan o.ssl_mode made.can_upgrade made.is_local ≡ Err e))

-- ---- what it has made of a link

-- TLS is settled over a link that it began with
abbrev pub Settles : TlsPlan → LinkSeen → LinkSeen → Type 0
Settles Plain first now = now ≡ first
Settles (Ask required wish) first now = Agrees required wish first now

-- The session begins: the startup message and these proofs were said, and these frames taken.
pub record IsGreeting (c : ClientSeen) (plan : TlsPlan) (message : List ℕ) (first : LinkSeen) (g : GreetingSeen) : Type 0 where
  -- the link as it was behind the question for TLS
  pub settled : LinkSeen
  pub settles : Settles plan first settled
  pub proofs : List Proof
  pub frames : List Frame
  pub flows : Flows (fresh_stream settled) g.stream (message ++ proofs_text proofs) frames
  pub leads : Leads c stages.Request (heard frames) proofs g.stage
  pub counted : GrewBy (length (message ++ proofs_text proofs)) 0 g.said

abbrev pub IsUnderWay : ClientSeen → TlsPlan → List ℕ → LinkSeen → Phase LinkSeen → Type 0
IsUnderWay c wanted message first (phases.Asking asking) = (wanted ≡ Ask asking.is_required asking.wish) × HasAsked first asking.link asking.asked
IsUnderWay c wanted message first (phases.Greeting greeting) = IsGreeting c wanted message first greeting
IsUnderWay c wanted message first phases.Gone = ⊥

-- whatever link it began with
abbrev pub IsStarting : LinkSeen → EstablishSeen → Type 0
IsStarting first e = IsUnderWay e.client e.plan e.message first e.phase

-- ---- a poll

-- the link, while it is kept
abbrev pub HasLink : Phase LinkSeen → LinkSeen → Type 0
HasLink (phases.Asking asking) link = link ≡ asking.link
HasLink (phases.Greeting greeting) link = link ≡ greeting.stream.link
HasLink phases.Gone link = ⊥

-- a link is kept
abbrev pub IsKept : {A : Type 0} → Phase A → Type 0
IsKept phases.Gone = ⊥
IsKept _ = Unit {0}

abbrev pub IsAwaited : Asked → Type 0
IsAwaited (asks.Sending sent) = ⊥
IsAwaited _ = Unit {0}

-- all is sent, no whole frame is held, and the server is next, or its half of the handshake
abbrev pub IsServersTurn : Phase LinkSeen → Type 0
IsServersTurn (phases.Asking asking) = IsAwaited asking.asked
IsServersTurn (phases.Greeting greeting) = (greeting.stream.unsent ≡ []) × HasNone greeting.stream.held
IsServersTurn phases.Gone = ⊥

-- why a poll answers `Pending`: one write waited; or one read or handshake did, and the server is next; or its link calls are made
abbrev pub StartWaits : ℕ → ℕ → LinkSeen → LinkSeen → Phase LinkSeen → Type 0
StartWaits left now a b phase = OneWriteWaits a b ⊎ (OneReadWaits a b × IsServersTurn phase) ⊎ AllCallsMade left now a b

-- a poll called the link as often as its calls became fewer, and no count fell
pub record Called (left now : ℕ) (a b : LinkSeen) : Type 0 where
  pub counts : NoneFalls a b
  pub calls : GrewBy (left - now) a.calls b.calls

-- why it fails: the question for TLS does; or, before the session has begun, the stream does, or the message at the front is refused; want of
-- memory is free
abbrev pub StartFails : LinkSeen → LinkSeen → EstablishSeen → Phase LinkSeen → Error → Type 0
StartFails first a e (phases.Asking asking) error = (e.plan ≡ Ask asking.is_required asking.wish) × AskingFails asking.is_required first a asking.link error
StartFails first a e (phases.Greeting greeting) error = (error ≡ errors.OutOfMemory)
    ⊎ (IsGreeting e.client e.plan e.message first greeting × (session_at greeting.stage ≡ None) × (HeardCause (fresh_stream a) greeting.stream error ⊎ IsFrontRefused e.client greeting error))
StartFails first a e phases.Gone error = ⊥

-- the bytes of the question for TLS and of its answer
abbrev pub asked_in : TlsPlan → ℕ
asked_in Plain = 0
asked_in (Ask required wish) = 8

abbrev pub answered_in : TlsPlan → ℕ
answered_in Plain = 0
answered_in (Ask required wish) = 1

abbrev pub saturated : ℕ → ℕ
saturated n = min n (2 ^ 64 - 1)

-- the session has not begun
abbrev pub IsUnbegun : Phase LinkSeen → Type 0
IsUnbegun (phases.Asking asking) = Unit {0}
IsUnbegun (phases.Greeting greeting) = session_at greeting.stage ≡ None
IsUnbegun phases.Gone = ⊥

-- the exchange is over
abbrev pub IsReady : LinkSeen → EstablishSeen → ReadyOf LinkSeen → Type 0
IsReady first e ready = HasBegun e.client e.plan e.message first ready

-- it waits: what stands behind is under way, and the session has not begun
abbrev pub WaitsOn : LinkSeen → ℕ → ℕ → LinkSeen → EstablishSeen → Phase LinkSeen → Type 0
WaitsOn first left now a e phase = IsUnderWay e.client e.plan e.message first phase × ((b : LinkSeen) × HasLink phase b × Called left now a b × StartWaits left now a b phase) × IsUnbegun phase

-- it fails, no call of the link waited, and the link is kept
abbrev pub FailsOn : LinkSeen → ℕ → ℕ → LinkSeen → EstablishSeen → Phase LinkSeen → Error → Type 0
FailsOn first left now a e phase error = (b : LinkSeen) × HasLink phase b × Called left now a b × StartFails first a e phase error × NoWaits a b

-- what a poll makes of a start-up whose link stood so
abbrev pub StartsOn : LinkSeen → ℕ → ℕ → LinkSeen → EstablishSeen → Poll (Result (ReadyOf LinkSeen) Error) → Type 0
StartsOn first left now a e Pending = (e.is_finished ≡ false) × WaitsOn first left now a e e.phase
StartsOn first left now a e (Ready (Err error)) = (e.is_finished ≡ true) × FailsOn first left now a e e.phase error
StartsOn first left now a e (Ready (Ok ready)) = (e.is_finished ≡ true) × (e.phase ≡ phases.Gone) × Called left now a ready.stream.link × IsReady first e ready × NoWaits a ready.stream.link

abbrev pub ready_seen : {A : Type 0} → (A → LinkSeen) → Poll (Result (ReadyOf A) Error) → Poll (Result (ReadyOf LinkSeen) Error)
ready_seen f Pending = Pending
ready_seen f (Ready (Err e)) = Ready (Err e)
ready_seen f (Ready (Ok ready)) = Ready (Ok (ready_by f ready))

-- Whatever link the start-up began with, and whatever it had made of it: this is what the poll makes of it.
pub record PollsStart (left now : ℕ) (a b : EstablishSeen) (answer : Poll (Result (ReadyOf LinkSeen) Error)) : Type 0 where
  pub fewer : now ≤ left
  pub client : b.client ≡ a.client
  pub plan : b.plan ≡ a.plan
  pub message : b.message ≡ a.message
  pub on : (first link : LinkSeen) → IsStarting first a → HasLink a.phase link → StartsOn first left now link b answer

-- ---- within a poll

-- a session begins, within what is left of the link calls
abbrev pub IsOpen : LinkSeen → ℕ → ℕ → LinkSeen → EstablishSeen → Phase LinkSeen → Type 0
IsOpen first left now a e phase = (greeting : GreetingSeen) × (phase ≡ phases.Greeting greeting) × IsGreeting e.client e.plan e.message first greeting × Called left now a greeting.stream.link × AllCallsMoved left now a greeting.stream.link

abbrev pub SettledAs : LinkSeen → ℕ → ℕ → LinkSeen → EstablishSeen → Phase LinkSeen → Poll (Result (Unit {0}) Error) → Type 0
SettledAs first left now a e phase Pending = WaitsOn first left now a e phase
SettledAs first left now a e phase (Ready (Err error)) = FailsOn first left now a e phase error
SettledAs first left now a e phase (Ready (Ok u)) = IsOpen first left now a e phase

-- what the question for TLS makes of a start-up
abbrev pub SettlesOn : ℕ → ℕ → EstablishSeen → Phase LinkSeen → Poll (Result (Unit {0}) Error) → Type 0
SettlesOn left now e phase answer = (now ≤ left) × ((first link : LinkSeen) → IsStarting first e → HasLink e.phase link → SettledAs first left now link e phase answer)

-- what messages make of its session
abbrev pub GreetsIn : ClientSeen → ℕ → ℕ → Phase LinkSeen → Phase LinkSeen → Poll (Result Session Error) → Type 0
GreetsIn c left now a b answer = (g : GreetingSeen) → a ≡ phases.Greeting g → (h : GreetingSeen) × (b ≡ phases.Greeting h) × PollsGreeting c left now g h answer

abbrev pub IsBegun : LinkSeen → ℕ → ℕ → LinkSeen → EstablishSeen → Phase LinkSeen → Session → Type 0
IsBegun first left now a e phase session = (greeting : GreetingSeen) × (phase ≡ phases.Greeting greeting) × IsGreeting e.client e.plan e.message first greeting × Called left now a greeting.stream.link
    × (greeting.stage ≡ stages.Begun session) × NoWaits a greeting.stream.link

abbrev pub GoneAs : LinkSeen → ℕ → ℕ → LinkSeen → EstablishSeen → Phase LinkSeen → Poll (Result Session Error) → Type 0
GoneAs first left now a e phase Pending = WaitsOn first left now a e phase
GoneAs first left now a e phase (Ready (Err error)) = FailsOn first left now a e phase error
GoneAs first left now a e phase (Ready (Ok session)) = IsBegun first left now a e phase session

abbrev pub GoesOn : ℕ → ℕ → EstablishSeen → Phase LinkSeen → Poll (Result Session Error) → Type 0
GoesOn left now e phase answer = (now ≤ left) × ((first link : LinkSeen) → IsStarting first e → HasLink e.phase link → GoneAs first left now link e phase answer)

-- ---- what holds a link

abbrev pub kept_link : {A : Type 0} → Phase A → Option A
kept_link (phases.Asking asking) = Some asking.link
kept_link (phases.Greeting greeting) = Some greeting.stream.link
kept_link phases.Gone = None

abbrev pub IsGreetingPhase : {A : Type 0} → Phase A → Type 0
IsGreetingPhase (phases.Greeting greeting) = Unit {0}
IsGreetingPhase _ = ⊥

-- what is left of a start-up behind a poll that answered so
abbrev pub IsLeft : {A X : Type 0} → EstablishOf A → Poll (Result X Error) → Type 0
IsLeft e Pending = (e.is_finished ≡ false) × IsKept e.phase
IsLeft e (Ready (Ok x)) = (e.is_finished ≡ true) × (e.phase ≡ phases.Gone)
IsLeft e (Ready (Err error)) = (e.is_finished ≡ true) × IsKept e.phase

-- behind an `Ok` the session has begun to begin
abbrev pub GreetsWhere : {A X : Type 0} → Poll (Result X Error) → Phase A → Type 0
GreetsWhere (Ready (Ok x)) phase = IsGreetingPhase phase
GreetsWhere _ phase = Unit {0}

abbrev pub IsAskingPhase : {A : Type 0} → Phase A → Type 0
IsAskingPhase (phases.Asking asking) = Unit {0}
IsAskingPhase _ = ⊥

-- the session begins over the link of the question, or there is no memory for its message
abbrev pub Opens : {A : Type 0} → List ℕ → Phase A → Phase A → Result (Unit {0}) Error → Type 0
Opens {A} message (phases.Asking asking) b (Ok u) = (greeting : GreetingOf A) × SaysMore message (fresh_greeting asking.link) greeting × (b ≡ phases.Greeting greeting)
Opens message (phases.Asking asking) b (Err e) = (e ≡ errors.OutOfMemory) × (b ≡ phases.Greeting (fresh_greeting asking.link))
Opens message a b answer = Unit {0}

-- the session is handed out with the stream that it began on
abbrev pub Hands : {A : Type 0} → EstablishOf A → Session → ReadyOf A → Type 0
Hands {A} e session ready = (greeting : GreetingOf A) → e.phase ≡ phases.Greeting greeting
    → ready ≡ record { stream = greeting.stream; session = session; sent = saturated (greeting.said + asked_in e.plan); read = saturated (greeting.stream.taken + answered_in e.plan) }

-- a start-up begins as its options say
abbrev pub Begins : {A : Type 0} → ConnectOptions → List ℕ → LinkPlan → A → EstablishOf A → Type 0
Begins o nonce made link e = (first_nul_in (startup_texts o) ≡ None) × ((plan : TlsPlan) × (tls_plan o.ssl_mode made.can_upgrade made.is_local ≡ Ok plan) × IsBeginning link (client_of o nonce) plan (startup_of o) e)

-- what is prepared for it before its link is touched
pub record PreparedSeen : Type 0 where
  pub client : ClientSeen
  pub plan : TlsPlan
  pub message : List ℕ

abbrev pub IsPrepared : ConnectOptions → List ℕ → Result TlsPlan Error → PreparedSeen → Type 0
IsPrepared o nonce wants p = (first_nul_in (startup_texts o) ≡ None) × (wants ≡ Ok p.plan) × (p.client ≡ client_of o nonce) × (p.message ≡ startup_of o)

abbrev pub RefusesPreparing : ConnectOptions → Result TlsPlan Error → Error → Type 0
RefusesPreparing o wants e = RefusesStartup o e ⊎ ((first_nul_in (startup_texts o) ≡ None) × (wants ≡ Err e))
