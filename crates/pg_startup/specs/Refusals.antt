-- Why a message of the server ends a start-up (PostgreSQL manual, "Message Flow", "Start-up"; RFC 5802).
use Rattle.std.specs.Prelude.{◌≡◌, ℕ, List, length, codes, Bool, true, false, IsFalse, ◌⊎◌, Some}
use Rattle.pg_wire.specs.declared.error.Error.{Error}
use Rattle.pg_wire.specs.declared.error.Error.TheVariants as errors
use Rattle.pg_wire.specs.declared.error.ConfigPart.TheVariants as parts
use Rattle.pg_wire.specs.declared.error.ProtocolFault.TheVariants as protocol
use Rattle.pg_wire.specs.declared.error.ServerFault.TheVariants as faults
use Rattle.pg_wire.specs.declared.message.authentication.Authentication.{Authentication}
use Rattle.pg_wire.specs.declared.message.authentication.Authentication.TheVariants as requests
use Rattle.pg_wire.specs.Bytes.{HasNoNul}
use Rattle.pg_wire.specs.Frame.{Frame, is_known}
use Rattle.pg_wire.specs.Encoding.{Refuses}
use Rattle.pg_wire.specs.Backend.{BackendMessage, ErrorResponse}
use Rattle.pg_wire.specs.Requests.{IsAsked}
use Rattle.pg_stream.specs.Parameters.{Carries}
use Rattle.pg_auth.specs.Md5Password.{md5_password}
use Rattle.pg_auth.specs.Scram.{IsPlain, client_first, first_outside}
use Rattle.pg_auth.specs.ScramAnswers.{IsAnswer, ArePlain, RefusesProof, RefusesVerifier}
use Rattle.pg_auth.specs.declared.scram.answer.ScramAnswer.{ScramAnswer}
use Rattle.pg_startup.specs.declared.stage.Stage.{Stage}
use Rattle.pg_startup.specs.declared.stage.Stage.TheVariants as stages
use Rattle.pg_startup.specs.Nuls.{first_nul}
use Rattle.pg_startup.specs.Exchange.{ClientSeen, Proof, Password, SaslInitial, SaslResponse, proof_frame, proof_text, offers_scram}

-- ---- a request for authentication

-- one that may not come at its place, or that is of a method which is not known here
abbrev pub out_of_turn : Authentication → Error
out_of_turn (requests.Other code) = errors.Protocol (protocol.Server (faults.Method code))
out_of_turn _ = errors.Protocol (protocol.Server (faults.Unlawful 0x52))

-- no frame can carry the proof, or there is no memory for it
abbrev pub RefusesSaying : Proof → Error → Type 0
RefusesSaying proof e = Refuses 0 (HasNoNul (proof_text proof)) (length (proof_frame proof).body) e

abbrev pub RefusesClear : List ℕ → Error → Type 0
RefusesClear password (errors.Configuration parts.Nul place) = first_nul password ≡ Some place
RefusesClear password e = HasNoNul password × RefusesSaying (Password password) e

-- the mechanisms before the user, the user before the password, and all before anything is said
abbrev pub RefusesScram : ClientSeen → Bool → Error → Type 0
RefusesScram c false e = e ≡ errors.Protocol (protocol.Server faults.Mechanisms)
RefusesScram c true (errors.Configuration parts.SaslUser place) = first_outside c.user ≡ Some place
RefusesScram c true (errors.Configuration parts.SaslPassword place) = IsPlain c.user × (first_outside c.password ≡ Some place)
RefusesScram c true errors.OutOfMemory = Unit {0}
RefusesScram c true e = ArePlain c.user c.password × RefusesSaying (SaslInitial (client_first c.user c.nonce)) e

abbrev pub RefusesFirst : ClientSeen → Authentication → Error → Type 0
RefusesFirst c requests.Ok e = ⊥
RefusesFirst c requests.CleartextPassword e = RefusesClear c.password e
RefusesFirst c (requests.Md5Password salt) e = RefusesSaying (Password (md5_password c.user c.password salt)) e
RefusesFirst c (requests.Sasl names) e = RefusesScram c (offers_scram names) e
RefusesFirst c request e = e ≡ out_of_turn request

-- the text refuses to be answered, or its answer can't be said
abbrev pub RefusesChallenge : ClientSeen → List ℕ → Error → Type 0
RefusesChallenge c text e = RefusesProof c.user c.password c.nonce text e
    ⊎ ((answer : ScramAnswer) × IsAnswer c.user c.password c.nonce text answer × RefusesSaying (SaslResponse answer.client_final) e)

abbrev pub RefusesRequest : ClientSeen → Stage → Authentication → Error → Type 0
RefusesRequest c stages.Request request e = RefusesFirst c request e
RefusesRequest c stages.Challenge (requests.SaslContinue text) e = RefusesChallenge c text e
RefusesRequest c stages.Challenge request e = e ≡ out_of_turn request
RefusesRequest c (stages.Signature answer) (requests.SaslFinal text) e = RefusesVerifier answer.verifier text e
RefusesRequest c (stages.Signature answer) request e = e ≡ out_of_turn request
RefusesRequest c stages.Verdict requests.Ok e = ⊥
RefusesRequest c stages.Verdict request e = e ≡ out_of_turn request
RefusesRequest c _ request e = ⊥

-- ---- a message

-- the tags of the messages that may come, but for the asynchronous ones
abbrev pub tags_at : Stage → List ℕ
tags_at (stages.Accepted keys) = codes "KZE"
tags_at (stages.Begun session) = codes ""
tags_at _ = codes "RE"

-- the message is not in its format, or may not come
abbrev pub IsStray : List ℕ → Frame → Error → Type 0
IsStray tags frame errors.OutOfMemory = Unit {0}
IsStray tags frame (errors.Protocol (protocol.Server (faults.Malformed tag))) = (tag ≡ frame.tag) × ((m : BackendMessage) → Carries frame m → ⊥)
IsStray tags frame (errors.Protocol (protocol.Server (faults.Unlawful tag))) = (tag ≡ frame.tag) × IsFalse (is_known tags frame.tag)
IsStray tags frame _ = ⊥

-- the server reports an error
abbrev pub Reports : Frame → Error → Type 0
Reports frame (errors.Database error) = Carries frame (ErrorResponse error)
Reports frame _ = ⊥

-- a request that can't be answered
pub record RefusesAsked (c : ClientSeen) (stage : Stage) (frame : Frame) (e : Error) : Type 0 where
  pub message : BackendMessage
  pub request : Authentication
  pub carries : Carries frame message
  pub asks : IsAsked request message
  pub refused : RefusesRequest c stage request e

-- the same of a message that is no request
abbrev pub RefusesUnasked : List ℕ → Frame → Error → Type 0
RefusesUnasked tags frame e = IsStray tags frame e ⊎ Reports frame e

abbrev pub RefusesMessage : ClientSeen → Stage → Frame → Error → Type 0
RefusesMessage c stage frame e = IsStray (tags_at stage) frame e ⊎ Reports frame e ⊎ RefusesAsked c stage frame e
