-- What the calls of a SCRAM exchange answer, and why each is refused.
use Rattle.std.specs.Prelude.{◌≡◌, ℕ, List, length, Some}
use Rattle.base64.specs.GeneralPurpose.{IsBytes}
use Rattle.pg_wire.specs.declared.error.Error.{Error}
use Rattle.pg_wire.specs.declared.error.Error.TheVariants as errors
use Rattle.pg_wire.specs.declared.error.ConfigPart.TheVariants as parts
use Rattle.pg_wire.specs.declared.error.ProtocolFault.TheVariants as protocol
use Rattle.pg_wire.specs.declared.error.ServerFault.TheVariants as faults
use Rattle.pg_auth.specs.declared.scram.answer.ScramAnswer.{ScramAnswer}
use Rattle.pg_auth.specs.Scram.{ServerFirst, IsServerFirst, Continues, IsPlain, first_outside, auth_message, client_final, client_proof, salted_password, server_signature, verifier_text}

-- why a client-first-message is refused
abbrev pub RefusesUser : List ℕ → Error → Type 0
RefusesUser user errors.OutOfMemory = Unit {0}
RefusesUser user (errors.Configuration parts.SaslUser place) = first_outside user ≡ Some place
RefusesUser user other = ⊥

-- the last message of the client, and the signature that it awaits
abbrev pub AnswersTo : List ℕ → List ℕ → List ℕ → List ℕ → ServerFirst → ScramAnswer → Type 0
AnswersTo user password nonce server_first server answer =
    let salted = salted_password password server in
    let message = auth_message user nonce server_first server.nonce in
    (answer.client_final ≡ client_final server.nonce (client_proof salted message)) × (answer.verifier ≡ server_signature salted message)

-- the answer to a server-first-message
pub record IsAnswer (user password nonce server_first : List ℕ) (answer : ScramAnswer) : Type 0 where
  pub user_plain : IsPlain user
  pub password_plain : IsPlain password
  pub server : ServerFirst
  pub reads : IsServerFirst server_first server
  pub continues : Continues nonce server.nonce
  pub answers : AnswersTo user password nonce server_first server answer

abbrev pub ArePlain : List ℕ → List ℕ → Type 0
ArePlain user password = IsPlain user × IsPlain password

-- why there is none: the user before the password, and both before the server's message
abbrev pub RefusesProof : List ℕ → List ℕ → List ℕ → List ℕ → Error → Type 0
RefusesProof user password nonce server_first errors.OutOfMemory = Unit {0}
RefusesProof user password nonce server_first (errors.Configuration parts.SaslUser place) = first_outside user ≡ Some place
RefusesProof user password nonce server_first (errors.Configuration parts.SaslPassword place) = IsPlain user × (first_outside password ≡ Some place)
RefusesProof user password nonce server_first (errors.Protocol (protocol.Server (faults.Malformed tag))) =
    (tag ≡ 0x52) × ArePlain user password × ((m : ServerFirst) → IsServerFirst server_first m → ⊥)
RefusesProof user password nonce server_first (errors.Protocol (protocol.Server faults.Nonce)) =
    ArePlain user password × ((m : ServerFirst) × IsServerFirst server_first m × ¬ (Continues nonce m.nonce))
RefusesProof user password nonce server_first other = ⊥

-- a server-final-message with the signature of some server
pub record IsVerifier (text signature : List ℕ) : Type 0 where
  pub size : length signature ≡ 32
  pub bytes : IsBytes signature
  pub spelled : text ≡ verifier_text signature

-- why a server-final-message is refused
abbrev pub RefusesVerifier : List ℕ → List ℕ → Error → Type 0
RefusesVerifier verifier server_final (errors.Protocol (protocol.Server (faults.Malformed tag))) =
    (tag ≡ 0x52) × ((signature : List ℕ) → IsVerifier server_final signature → ⊥)
RefusesVerifier verifier server_final (errors.Protocol (protocol.Server faults.Signature)) =
    (signature : List ℕ) × IsVerifier server_final signature × ¬ (signature ≡ verifier)
RefusesVerifier verifier server_final other = ⊥
