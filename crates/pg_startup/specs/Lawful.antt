-- A server that begins a session as it should, over a link that does its work (PostgreSQL manual, "Message Flow", "Start-up").
use Rattle.std.specs.Prelude.{◌≡◌, ◌⊎◌, ℕ, ◌-◌, ◌^◌, ◌<◌, ◌≤◌, List, ◌++◌, length, Some}
use Rattle.std.specs.List.{AllByRecursion}
use Rattle.pg_wire.specs.Bytes.{HasNoNul}
use Rattle.pg_wire.specs.Encoding.{Allows}
use Rattle.pg_wire.specs.Server.{IsPrefixOf}
use Rattle.pg_stream.specs.Links.{LinkSeen}
use Rattle.pg_stream.specs.Asynchronous.{IsSaid}
use Rattle.pg_auth.specs.declared.tls.TlsPlan.{TlsPlan}
use Rattle.pg_startup.specs.declared.asking.Asked.TheVariants as asks
use Rattle.pg_startup.specs.declared.stage.Session.{Session}
use Rattle.pg_startup.specs.declared.starting.Phase.{Phase}
use Rattle.pg_startup.specs.declared.starting.Phase.TheVariants as phases
use Rattle.pg_startup.specs.Asking.{OneWriteWaits, OneReadWaits, AllCallsMade}
use Rattle.pg_startup.specs.Exchange.{ClientSeen, Proof, proof_frame, proof_text}
use Rattle.pg_startup.specs.Handshake.{IsHandshake}
use Rattle.pg_startup.specs.Establishing.{EstablishSeen}

-- ---- the server

-- a frame can carry the proof: its text has no zero byte and isn't too long
abbrev pub CanBeSaid : Proof → Type 0
CanBeSaid proof = Allows 0 (HasNoNul (proof_text proof)) (length (proof_frame proof).body)

-- The server's bytes of an exchange with this client, up to the first ReadyForQuery: each of its frames is a message in its format, and the
-- client can say each of its proofs.
pub record IsLawful (c : ClientSeen) (plan : TlsPlan) (message read : List ℕ) : Type 0 where
  pub said : List ℕ
  pub session : Session
  pub handshake : IsHandshake c plan message said read session
  pub messages : AllByRecursion IsSaid handshake.frames
  pub sayable : AllByRecursion CanBeSaid handshake.proofs

-- these are all bytes that a link gave in between, which it tells
abbrev pub Gave : LinkSeen → LinkSeen → List ℕ → Type 0
Gave first now bytes = (before : List ℕ) × (first.given ≡ Some before) × (now.given ≡ Some (before ++ bytes))

-- What the link of a start-up gave since it began is a front of the bytes of such an exchange, and of whatever comes behind them.
pub record HearsLawful (e : EstablishSeen) (first now : LinkSeen) : Type 0 where
  pub given : List ℕ
  pub gave : Gave first now given
  pub read : List ℕ
  pub lawful : IsLawful e.client e.plan e.message read
  pub further : List ℕ
  pub front : IsPrefixOf given (read ++ further)

-- the link gave all of them
pub record HearsAll (e : EstablishSeen) (first now : LinkSeen) : Type 0 where
  pub hears : HearsLawful e first now
  pub all : hears.given ≡ hears.read ++ hears.further

-- ---- the link

-- a count that did not rise and doesn't stand at its type's end
abbrev pub Stays : ℕ → ℕ → Type 0
Stays before now = (now ≤ before) × (now < 2 ^ 64 - 1)

-- no call failed or met the link's end
pub record Works (a b : LinkSeen) : Type 0 where
  pub faults : Stays a.faults b.faults
  pub ends : Stays a.ends b.ends
  pub upgrade_faults : Stays a.upgrade_faults b.upgrade_faults

-- the handshake for TLS is the link's to make
abbrev pub IsUpgrading : Phase LinkSeen → Type 0
IsUpgrading (phases.Asking asking) = asking.asked ≡ asks.Upgrade
IsUpgrading _ = ⊥

-- a poll waits for a write, for that handshake, or for the calls of the next poll
abbrev pub WaitsForLink : ℕ → ℕ → LinkSeen → LinkSeen → Phase LinkSeen → Type 0
WaitsForLink left now a b phase = OneWriteWaits a b ⊎ (OneReadWaits a b × IsUpgrading phase) ⊎ AllCallsMade left now a b
