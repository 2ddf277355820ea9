-- A start-up that is played.
use Rattle.std.specs.Prelude.{◌≡◌, ◌⊎◌, ℕ, ◌+◌, ◌*◌, ◌<◌, List, Result, Ok, Err, Some, None}
use Rattle.futures.specs.declared.task.Poll.{Poll}
use Rattle.futures.specs.declared.task.Poll.TheVariants.{Ready, Pending}
use Rattle.pg_wire.specs.declared.error.Error.{Error}
use Rattle.pg_wire.specs.declared.error.Error.TheVariants as errors
use Rattle.pg_options.specs.Options.{ConnectOptions}
use Rattle.pg_stream.specs.Links.{LinkPlan, LinkSeen, NoneFalls, RoseBy, Rose, GrewBy}
use Rattle.pg_auth.specs.Tls.{tls_plan}
use Rattle.pg_startup.specs.Nuls.{first_nul_in}
use Rattle.pg_startup.specs.Startups.{startup_of, startup_texts}
use Rattle.pg_startup.specs.Exchange.{client_of}
use Rattle.pg_startup.specs.Handshake.{ReadyOf, HasBegun}
use Rattle.pg_startup.specs.Establishing.{EstablishOf, EstablishSeen, establish_by, HasLink, IsServersTurn, IsStarting, kept_link, StartFails, RefusesStart}
use Rattle.pg_startup.specs.Lawful.{HearsLawful, Works}
use Rattle.pg_conn.specs.Connections.{ConnOf, ConnSeen, seen_by, fresh_connection}
use Rattle.pg_conn.specs.Connecting.{ConnectingOf}
use Rattle.pg_conn.specs.Turns.{HasAllRoom}

-- What a start-up is to do: the options and the nonce of the client, and what its link is made of.
pub record Opening : Type 0 where
  pub options : ConnectOptions
  pub nonce : List ℕ
  pub made : LinkPlan

abbrev pub opening_of : ConnectOptions → List ℕ → LinkPlan → Opening
opening_of o client_nonce link_plan = record { options = o; nonce = client_nonce; made = link_plan }

-- it does that
pub record IsOf (opening : Opening) (e : EstablishSeen) : Type 0 where
  pub none : first_nul_in (startup_texts opening.options) ≡ None
  pub planned : tls_plan opening.options.ssl_mode opening.made.can_upgrade opening.made.is_local ≡ Ok e.plan
  pub client : e.client ≡ client_of opening.options opening.nonce
  pub message : e.message ≡ startup_of opening.options

-- Each of so many polls is one wait of the link, or 256 moves of it, and the link waited no more.
pub record HasWaited (n : ℕ) (a b : LinkSeen) : Type 0 where
  pub write_waits : ℕ
  pub read_waits : ℕ
  pub spent : ℕ
  pub all : write_waits + read_waits + spent ≡ n
  pub writes : GrewBy write_waits a.write_waits b.write_waits
  pub reads : GrewBy read_waits a.read_waits b.read_waits
  pub moved : RoseBy (256 * spent) a.moved b.moved

-- fewer polls than so many answered `Pending`
abbrev pub HasWaitedLess : ℕ → LinkSeen → LinkSeen → Type 0
HasWaitedLess polls a b = (n : ℕ) × (n < polls) × HasWaited n a b

-- Over a link that it began with, so many polls have answered `Pending`. Where no write waited and the link moved less often than one poll
-- may, the server is next, or its half of the TLS handshake.
pub record IsPending (opening : Opening) (first last : LinkSeen) (n : ℕ) (e : EstablishSeen) : Type 0 where
  pub of : IsOf opening e
  pub starting : IsStarting first e
  pub kept : HasLink e.phase last
  pub counts : NoneFalls first last
  pub waited : HasWaited n first last
  pub next : 0 < n → (Rose first.write_waits last.write_waits → ⊥) → (RoseBy 256 first.moved last.moved → ⊥) → IsServersTurn e.phase

-- The error has its cause, over the link as it began and as it stands; where the link works and the server says what a lawful one does, it is
-- want of memory.
pub record HasFailed (opening : Opening) (polls : ℕ) (first last : LinkSeen) (e : EstablishSeen) (error : Error) : Type 0 where
  pub of : IsOf opening e
  pub kept : HasLink e.phase last
  pub counts : NoneFalls first last
  pub waited : HasWaitedLess polls first last
  pub fails : StartFails first first e e.phase error
  pub lawful : Works first last → HearsLawful e first last → error ≡ errors.OutOfMemory

-- Why a start-up of so many polls ends with an error: none of them has answered; or it is refused before its link is touched; or it fails.
abbrev pub StartEnds : Opening → ℕ → LinkSeen → LinkSeen → Error → Type 0
StartEnds opening polls first last error = ((error ≡ errors.StartupPending) × ((e : EstablishSeen) × IsPending opening first last polls e))
    ⊎ ((last ≡ first) × RefusesStart opening.options opening.made error)
    ⊎ ((e : EstablishSeen) × HasFailed opening polls first last e error)

-- The exchange is over, and the connection owes nothing.
pub record HasOpened (opening : Opening) (polls : ℕ) (first : LinkSeen) (a : ConnSeen) : Type 0 where
  pub e : EstablishSeen
  pub of : IsOf opening e
  pub ready : ReadyOf LinkSeen
  pub begun : HasBegun e.client e.plan e.message first ready
  pub counts : NoneFalls first a.stream.link
  pub waited : HasWaitedLess polls first a.stream.link
  -- so many locks may be held
  pub held : ℕ
  pub fresh : a ≡ record (fresh_connection opening.options.statement_cache_capacity ready.stream ready.sent ready.read) { held = held }
  pub room : HasAllRoom a

-- its connection is to keep as many statements as the options say
abbrev pub KeepsAsMany : {A : Type 0} → Opening → ConnectingOf A → Type 0
KeepsAsMany opening c = c.capacity ≡ opening.options.statement_cache_capacity

-- what a poll makes of a start-up of which so many have answered `Pending`
abbrev pub StartsOn : {A : Type 0} → (A → LinkSeen) → Opening → LinkSeen → ℕ → EstablishOf A → Poll (Result (ConnOf A) Error) → Type 0
StartsOn seen opening first n e Pending = (last : LinkSeen) × IsPending opening first last (n + 1) (establish_by seen e)
StartsOn seen opening first n e (Ready (Ok conn)) = HasOpened opening (n + 1) first (seen_by seen conn)
StartsOn seen opening first n e (Ready (Err error)) = (last : LinkSeen) × HasFailed opening (n + 1) first last (establish_by seen e) error

-- the connection, or the error with the link that is kept
abbrev pub Hands : {A : Type 0} → EstablishOf A → Result (ConnOf A) Error → Result (ConnOf A) (Error × A) → Type 0
Hands e (Ok conn) result = result ≡ Ok conn
Hands {A} e (Err error) result = (link : A) × (kept_link e.phase ≡ Some link) × (result ≡ Err (error, link))

-- what comes of a start-up
abbrev pub StartsAs : {A : Type 0} → (A → LinkSeen) → Opening → ℕ → LinkSeen → Result (ConnOf A) (Error × A) → Type 0
StartsAs seen opening polls first (Ok conn) = HasOpened opening polls first (seen_by seen conn)
StartsAs seen opening polls first (Err (error, link)) = StartEnds opening polls first (seen link) error
