-- All that a client and a server say up to the first ReadyForQuery (PostgreSQL manual, "Message Flow", "Start-up", "SSL Session
-- Encryption").
use Rattle.std.specs.Prelude.{◌≡◌, ℕ, ◌⊎◌, false, List, [], ◌∷◌, ◌++◌, length, Option, Some}
use Rattle.std.specs.Io.KnownBytes.{Appends}
use Rattle.pg_wire.specs.Frame.{Frame, text_of}
use Rattle.pg_wire.specs.Frontend.{ssl_request}
use Rattle.pg_wire.specs.Parts.{heard}
use Rattle.pg_stream.specs.declared.link.TlsWish.{TlsWish}
use Rattle.pg_stream.specs.Links.{LinkSeen, GrewBy}
use Rattle.pg_stream.specs.Streams.{StreamOf, stream_by, AreFrames}
use Rattle.pg_auth.specs.declared.tls.TlsPlan.{TlsPlan}
use Rattle.pg_auth.specs.declared.tls.TlsPlan.TheVariants.{Plain, Ask}
use Rattle.pg_startup.specs.declared.stage.Stage.TheVariants as stages
use Rattle.pg_startup.specs.declared.stage.Session.{Session}
use Rattle.pg_startup.specs.Exchange.{ClientSeen, Proof, proofs_text, Leads}

-- the question for TLS and the byte that answers it: S, or N where none is required
abbrev pub IsQuestion : TlsPlan → List ℕ → List ℕ → Type 0
IsQuestion Plain said read = (said ≡ []) × (read ≡ [])
IsQuestion (Ask required wish) said read = (said ≡ ssl_request) × ((read ≡ 83 ∷ []) ⊎ ((required ≡ false) × (read ≡ 78 ∷ [])))

-- These bytes are one exchange: the question, the startup message, and the messages of the server with the proofs that answer them.
pub record IsHandshake (c : ClientSeen) (plan : TlsPlan) (message said read : List ℕ) (session : Session) : Type 0 where
  pub asked : List ℕ
  pub answered : List ℕ
  pub question : IsQuestion plan asked answered
  pub proofs : List Proof
  pub frames : List Frame
  pub whole : AreFrames frames
  pub leads : Leads c stages.Request (heard frames) proofs (stages.Begun session)
  pub said_is : said ≡ asked ++ (message ++ proofs_text proofs)
  pub read_is : read ≡ answered ++ text_of frames

-- what the last TLS handshake that was made had to verify: behind S what the plan wishes, and behind N what it was before
abbrev pub IsSecured : TlsPlan → List ℕ → Option TlsWish → Option TlsWish → Type 0
IsSecured Plain answered before now = now ≡ before
IsSecured (Ask required wish) answered before now = (answered ≡ 83 ∷ [] → now ≡ Some wish) × (answered ≡ 78 ∷ [] → now ≡ before)

-- What a session begins with, over a link or over what is seen of one.
pub record ReadyOf (A : Type 0) : Type 0 where
  pub stream : StreamOf A
  pub session : Session
  -- bytes up to the end of start-up, up to u64's greatest value
  pub sent : ℕ
  pub read : ℕ

abbrev pub ready_by : {A : Type 0} → (A → LinkSeen) → ReadyOf A → ReadyOf LinkSeen
ready_by f r = record { stream = stream_by f r.stream; session = r.session; sent = r.sent; read = r.read }

-- Over a link that it began with, the exchange is over: what the link took is the front of what was said, what it gave are the bytes of
-- the exchange and those that the stream still holds, and both are counted. Its TLS had to verify what the plan wishes.
pub record HasBegun (c : ClientSeen) (plan : TlsPlan) (message : List ℕ) (first : LinkSeen) (ready : ReadyOf LinkSeen) : Type 0 where
  pub said : List ℕ
  pub read : List ℕ
  pub handshake : IsHandshake c plan message said read ready.session
  pub secured : IsSecured plan handshake.answered first.secured ready.stream.link.secured
  pub taken : List ℕ
  pub took : Appends first.taken ready.stream.link.taken taken
  pub unsent : said ≡ taken ++ ready.stream.unsent
  pub given : List ℕ
  pub gave : Appends first.given ready.stream.link.given given
  pub held : given ≡ read ++ ready.stream.held
  pub sent_counted : GrewBy (length said) 0 ready.sent
  pub read_counted : GrewBy (length read) 0 ready.read
