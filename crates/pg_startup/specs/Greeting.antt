-- How a session begins, from the startup message on (PostgreSQL manual, "Message Flow", "Start-up").
use Rattle.std.specs.Prelude.{◌≡◌, ℕ, ◌<◌, ◌⊎◌, false, List, ◌++◌, length, Option, Some, None, Result, Ok, Err}
use Rattle.futures.specs.declared.task.Poll.{Poll}
use Rattle.futures.specs.declared.task.Poll.TheVariants.{Ready, Pending}
use Rattle.pg_wire.specs.declared.error.Error.{Error}
use Rattle.pg_wire.specs.Frame.{Frame, bytes_of, backend_tags, IsWhole}
use Rattle.pg_wire.specs.Parts.{heard, is_asynchronous}
use Rattle.pg_stream.specs.Links.{LinkSeen, GrewBy}
use Rattle.pg_stream.specs.declared.stream.Front.{Front}
use Rattle.pg_stream.specs.Streams.{StreamOf, stream_by, fresh_stream, fuel_of, Moves, AllMoved, NoneWaited, Passes, PendingCause, HeardCause, IsFrontOf}
use Rattle.pg_startup.specs.declared.stage.Session.{Session}
use Rattle.pg_startup.specs.declared.stage.Stage.{Stage}
use Rattle.pg_startup.specs.declared.stage.Stage.TheVariants as stages
use Rattle.pg_startup.specs.Exchange.{ClientSeen, Proof, proofs_text, Leads}
use Rattle.pg_startup.specs.Refusals.{RefusesMessage}
use Rattle.pg_startup.specs.Replies.{Hears}
use Rattle.pg_startup.specs.declared.reply.Reply.{Reply}

-- A session that begins over a link, or over what is seen of one: its stream, what is awaited, and how many bytes were said on it.
pub record GreetingOf (A : Type 0) : Type 0 where
  pub stream : StreamOf A
  pub stage : Stage
  pub said : ℕ

abbrev pub GreetingSeen : Type 0
GreetingSeen = GreetingOf LinkSeen

abbrev pub greeting_by : {A : Type 0} → (A → LinkSeen) → GreetingOf A → GreetingSeen
greeting_by f g = record { stream = stream_by f g.stream; stage = g.stage; said = g.said }

abbrev pub fresh_greeting : {A : Type 0} → A → GreetingOf A
fresh_greeting link = record { stream = fresh_stream link; stage = stages.Request; said = 0 }

abbrev pub with_left : {A : Type 0} → ℕ → GreetingOf A → GreetingOf A
with_left left g = record g { stream = record g.stream { left = left } }

-- more is said, and nothing else changes
abbrev pub SaysMore : {A : Type 0} → List ℕ → GreetingOf A → GreetingOf A → Type 0
SaysMore text a b = (b ≡ record a { stream = record a.stream { unsent = a.stream.unsent ++ text }; said = b.said }) × GrewBy (length text) a.said b.said

-- the message at the front is taken
abbrev pub TakesAt : {A : Type 0} → Front → Stage → GreetingOf A → GreetingOf A → Type 0
TakesAt front next a b = Passes front a.stream b.stream × (b ≡ record a { stream = b.stream; stage = next })

abbrev pub session_at : Stage → Option Session
session_at (stages.Begun session) = Some session
session_at _ = None

-- the message at the front is answered and taken
abbrev pub AnswersFront : {A : Type 0} → ClientSeen → Front → GreetingOf A → GreetingOf A → Type 0
AnswersFront {A} c front a b = (frame : Frame) × (rest : List ℕ) × (reply : Reply) × (between : GreetingOf A)
    × IsFrontOf a.stream.held front frame rest × Hears c a.stage frame reply × SaysMore reply.text a between × TakesAt front reply.next between b

-- it is refused
abbrev pub RefusesFront : {A : Type 0} → ClientSeen → Front → GreetingOf A → Error → Type 0
RefusesFront c front a e = (frame : Frame) × (rest : List ℕ) × IsFrontOf a.stream.held front frame rest × RefusesMessage c a.stage frame e

-- From one state to the next these proofs were said and these frames taken.
pub record Greets (c : ClientSeen) (a b : GreetingSeen) (said : List Proof) (frames : List Frame) : Type 0 where
  pub moves : Moves a.stream b.stream (proofs_text said) frames
  pub leads : Leads c a.stage (heard frames) said b.stage
  pub counted : GrewBy (length (proofs_text said)) a.said b.said

abbrev pub GreetsOn : ClientSeen → GreetingSeen → GreetingSeen → Type 0
GreetsOn c a b = (said : List Proof) × (frames : List Frame) × Greets c a b said frames

-- the message at the front, which is no asynchronous one, ends the start-up
abbrev pub IsFrontRefused : ClientSeen → GreetingSeen → Error → Type 0
IsFrontRefused c b e = (front : Frame) × (rest : List ℕ) × IsWhole backend_tags front × (is_asynchronous front ≡ false) × (b.stream.held ≡ bytes_of front ++ rest) × RefusesMessage c b.stage front e

-- why a poll answers so: once the session has begun, it is the answer
abbrev pub GreetCause : ClientSeen → GreetingSeen → GreetingSeen → Poll (Result Session Error) → Type 0
GreetCause c a b Pending = (session_at b.stage ≡ None) × PendingCause a.stream b.stream
GreetCause c a b (Ready (Ok session)) = AllMoved a.stream b.stream × (b.stage ≡ stages.Begun session)
GreetCause c a b (Ready (Err e)) = (session_at b.stage ≡ None) × (HeardCause a.stream b.stream e ⊎ IsFrontRefused c b e) × NoneWaited a.stream b.stream

-- one message taken, or the answer
abbrev pub GreetsOnce : ClientSeen → GreetingSeen → GreetingSeen → Option (Poll (Result Session Error)) → Type 0
GreetsOnce c a b None = GreetsOn c a b × AllMoved a.stream b.stream × (fuel_of b.stream < fuel_of a.stream)
GreetsOnce c a b (Some answer) = GreetsOn c a b × GreetCause c a b answer

abbrev pub GreetsTo : ClientSeen → GreetingSeen → GreetingSeen → Poll (Result Session Error) → Type 0
GreetsTo c a b answer = GreetsOnce c a b (Some answer)

-- a poll within so many link calls, of which so many are left
abbrev pub PollsGreeting : ClientSeen → ℕ → ℕ → GreetingSeen → GreetingSeen → Poll (Result Session Error) → Type 0
PollsGreeting c left now a b answer = GreetsTo c (with_left left a) b answer × (now ≡ b.stream.left)
