-- The question for TLS, before the startup message (PostgreSQL manual, "Message Flow", "SSL Session Encryption").
use Rattle.std.specs.Prelude.{◌≡◌, ℕ, ◌-◌, ◌<◌, ◌≤◌, nat_lt, if◌then◌else◌, Bool, true, false, ◌⊎◌, [], ◌∷◌, take, Option, Some, None, Result, Ok, Err}
use Rattle.std.specs.Io.KnownBytes.{Keeps, Appends}
use Rattle.futures.specs.declared.task.Poll.{Poll}
use Rattle.futures.specs.declared.task.Poll.TheVariants.{Ready, Pending}
use Rattle.pg_wire.specs.declared.error.Error.{Error}
use Rattle.pg_wire.specs.declared.error.Error.TheVariants as errors
use Rattle.pg_wire.specs.declared.error.IoCause.TheVariants as io
use Rattle.pg_wire.specs.declared.error.TlsCause.TheVariants as tls
use Rattle.pg_wire.specs.declared.error.ProtocolFault.TheVariants as protocol
use Rattle.pg_wire.specs.declared.error.ServerFault.TheVariants as faults
use Rattle.pg_wire.specs.Frontend.{ssl_request}
use Rattle.pg_stream.specs.Links.{LinkSeen, NoneFalls, Rose, GrewBy, NoWaits, Upgrades}
use Rattle.pg_stream.specs.declared.link.TlsWish.{TlsWish}
use Rattle.pg_stream.specs.declared.link.LinkUpgrade.TheVariants as upgrades
use Rattle.pg_startup.specs.declared.asking.Asked.{Asked}
use Rattle.pg_startup.specs.declared.asking.Asked.TheVariants as asks

-- A question over a link, or over what is seen of one.
pub record AskingOf (A : Type 0) : Type 0 where
  pub link : A
  pub is_required : Bool
  pub wish : TlsWish
  pub asked : Asked

abbrev pub AskingSeen : Type 0
AskingSeen = AskingOf LinkSeen

abbrev pub asking_by : {A : Type 0} → (A → LinkSeen) → AskingOf A → AskingSeen
asking_by f a = record { link = f a.link; is_required = a.is_required; wish = a.wish; asked = a.asked }

-- so many bytes of the request are sent
abbrev pub sent_to : ℕ → Asked
sent_to count = if nat_lt count 8 then asks.Sending count else asks.Answer

-- what a question has said and heard over a link that it began with
abbrev pub HasAsked : LinkSeen → LinkSeen → Asked → Type 0
HasAsked first now (asks.Sending sent) = (sent < 8) × Appends first.taken now.taken (take sent ssl_request) × Keeps first.given now.given × (now.secured ≡ first.secured)
HasAsked first now asks.Answer = Appends first.taken now.taken ssl_request × Keeps first.given now.given × (now.secured ≡ first.secured)
HasAsked first now asks.Upgrade = Appends first.taken now.taken ssl_request × Appends first.given now.given (83 ∷ []) × (now.secured ≡ first.secured)

-- the server has TLS, and the link was upgraded behind its answer as it was wished
abbrev pub IsUpgraded : TlsWish → LinkSeen → LinkSeen → Type 0
IsUpgraded wish first now = (before : LinkSeen) × HasAsked first before asks.Upgrade × Upgrades before now wish upgrades.Done

-- or it has none, and none is required
abbrev pub IsPlain : Bool → LinkSeen → LinkSeen → Type 0
IsPlain required first now = (required ≡ false) × Appends first.taken now.taken ssl_request × Appends first.given now.given (78 ∷ []) × (now.secured ≡ first.secured)

abbrev pub Agrees : Bool → TlsWish → LinkSeen → LinkSeen → Type 0
Agrees required wish first now = IsUpgraded wish first now ⊎ IsPlain required first now

-- the byte that the server has answered
abbrev pub Answered : LinkSeen → LinkSeen → ℕ → Type 0
Answered first now byte = Appends first.taken now.taken ssl_request × Appends first.given now.given (byte ∷ [])

-- why the question ends a start-up
abbrev pub AskingFails : Bool → LinkSeen → LinkSeen → LinkSeen → Error → Type 0
AskingFails required first a b (errors.Io io.Fault) = Rose a.faults b.faults
AskingFails required first a b (errors.Io io.End) = Rose a.ends b.ends × HasAsked first b asks.Answer
AskingFails required first a b (errors.Tls tls.UpgradeFailed) = Rose a.upgrade_faults b.upgrade_faults
AskingFails required first a b (errors.Tls tls.ServerRefused) = (required ≡ true) × Answered first b 78
AskingFails required first a b (errors.Protocol (protocol.Server (faults.SslAnswer byte))) = (byte ≡ 83 → ⊥) × (byte ≡ 78 → ⊥) × Answered first b byte
AskingFails required first a b _ = ⊥

-- one write waited and no other call, or one read or handshake did
abbrev pub OneWriteWaits : LinkSeen → LinkSeen → Type 0
OneWriteWaits a b = GrewBy 1 a.write_waits b.write_waits × (b.read_waits ≡ a.read_waits)

abbrev pub OneReadWaits : LinkSeen → LinkSeen → Type 0
OneReadWaits a b = GrewBy 1 a.read_waits b.read_waits × (b.write_waits ≡ a.write_waits)

-- it waits to be sent, or for the server: the byte, or its half of the handshake
abbrev pub AskingWaits : LinkSeen → LinkSeen → Asked → Type 0
AskingWaits a b (asks.Sending sent) = OneWriteWaits a b
AskingWaits a b _ = OneReadWaits a b

-- one call moved, and none waited
abbrev pub OneMoves : LinkSeen → LinkSeen → Type 0
OneMoves a b = GrewBy 1 a.moved b.moved × NoWaits a b

-- what the byte makes of the question: TLS, a plain session, or an error
abbrev pub HearsByte : {A : Type 0} → ℕ → AskingOf A → AskingOf A → Option (Poll (Result (Unit {0}) Error)) → Type 0
HearsByte byte a b None = (byte ≡ 83) × (b ≡ record a { asked = asks.Upgrade })
HearsByte byte a b (Some (Ready (Ok u))) = (byte ≡ 78) × (a.is_required ≡ false) × (b ≡ a)
HearsByte byte a b (Some (Ready (Err (errors.Tls tls.ServerRefused)))) = (byte ≡ 78) × (a.is_required ≡ true) × (b ≡ a)
HearsByte byte a b (Some (Ready (Err (errors.Protocol (protocol.Server (faults.SslAnswer told)))))) = (told ≡ byte) × (byte ≡ 83 → ⊥) × (byte ≡ 78 → ⊥) × (b ≡ a)
HearsByte byte a b _ = ⊥

-- whatever link it began with, what it has said and heard there leads on
abbrev pub AsksOn : AskingSeen → AskingSeen → Type 0
AsksOn a b = (first : LinkSeen) → HasAsked first a.link a.asked → HasAsked first b.link b.asked

abbrev pub EndsAsking : AskingSeen → AskingSeen → Result (Unit {0}) Error → Type 0
EndsAsking a b (Ok u) = (first : LinkSeen) → HasAsked first a.link a.asked → Agrees a.is_required a.wish first b.link
EndsAsking a b (Err e) = (first : LinkSeen) → HasAsked first a.link a.asked → AskingFails a.is_required first a.link b.link e

-- what one call of the link makes of it
abbrev pub AskedOnce : AskingSeen → AskingSeen → Option (Poll (Result (Unit {0}) Error)) → Type 0
AskedOnce a b None = OneMoves a.link b.link × AsksOn a b
AskedOnce a b (Some Pending) = AskingWaits a.link b.link b.asked × AsksOn a b
AskedOnce a b (Some (Ready (Ok u))) = OneMoves a.link b.link × EndsAsking a b (Ok u)
AskedOnce a b (Some (Ready (Err e))) = NoWaits a.link b.link × EndsAsking a b (Err e)

abbrev pub IsSameQuestion : AskingSeen → AskingSeen → Type 0
IsSameQuestion a b = NoneFalls a.link b.link × (b.is_required ≡ a.is_required) × (b.wish ≡ a.wish)

abbrev pub AsksOnce : AskingSeen → AskingSeen → Option (Poll (Result (Unit {0}) Error)) → Type 0
AsksOnce a b answer = IsSameQuestion a b × GrewBy 1 a.link.calls b.link.calls × AskedOnce a b answer

-- each link call of a poll moved bytes, or the handshake
abbrev pub AllCallsMoved : ℕ → ℕ → LinkSeen → LinkSeen → Type 0
AllCallsMoved left now a b = (now ≤ left) × GrewBy (left - now) a.moved b.moved × NoWaits a b

-- the link calls that were allowed are made, and each moved
abbrev pub AllCallsMade : ℕ → ℕ → LinkSeen → LinkSeen → Type 0
AllCallsMade left now a b = (now ≡ 0) × AllCallsMoved left now a b

-- what a poll within so many link calls makes of it
abbrev pub PolledAsking : ℕ → ℕ → AskingSeen → AskingSeen → Poll (Result (Unit {0}) Error) → Type 0
PolledAsking left now a b Pending = (AskingWaits a.link b.link b.asked ⊎ AllCallsMade left now a.link b.link) × AsksOn a b
PolledAsking left now a b (Ready (Ok u)) = AllCallsMoved left now a.link b.link × EndsAsking a b (Ok u)
PolledAsking left now a b (Ready (Err e)) = NoWaits a.link b.link × EndsAsking a b (Err e)

abbrev pub PollsAsking : ℕ → ℕ → AskingSeen → AskingSeen → Poll (Result (Unit {0}) Error) → Type 0
PollsAsking left now a b answer = (now ≤ left) × IsSameQuestion a b × GrewBy (left - now) a.link.calls b.link.calls × PolledAsking left now a b answer

-- more of the request is to be sent, where it is being sent
abbrev pub IsSendable : Asked → Type 0
IsSendable (asks.Sending sent) = sent < 8
IsSendable _ = Unit {0}
