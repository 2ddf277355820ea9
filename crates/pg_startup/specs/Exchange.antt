-- How a client proves who it is (PostgreSQL manual, "Message Flow", "Start-up", and "SASL Authentication"; RFC 5802).
use Rattle.std.specs.Prelude.{◌≡◌, ℕ, List, [], ◌∷◌, ◌++◌, map, codes, Bool, ◌||◌, IsTrue, bytes_eq, unwrap_or}
use Rattle.std.specs.List.{list_any}
use Rattle.pg_wire.specs.Bytes.{HasNoNul}
use Rattle.pg_wire.specs.Frame.{Frame, text_of}
use Rattle.pg_wire.specs.Frontend.{password, sasl_first, sasl_next}
use Rattle.pg_wire.specs.Backend.{BackendMessage}
use Rattle.pg_wire.specs.Backend as backend
use Rattle.pg_wire.specs.Requests.{IsAsked}
use Rattle.pg_wire.specs.declared.message.authentication.Authentication.{Authentication}
use Rattle.pg_wire.specs.declared.message.authentication.Authentication.TheVariants as requests
use Rattle.pg_wire.specs.declared.message.backend_key_data.BackendKeyData.{BackendKeyData}
use Rattle.pg_stream.specs.Parameters.{Carries}
use Rattle.pg_options.specs.Options.{ConnectOptions}
use Rattle.pg_auth.specs.Md5Password.{md5_password}
use Rattle.pg_auth.specs.Scram.{client_first, verifier_text}
use Rattle.pg_auth.specs.ScramAnswers.{IsAnswer, ArePlain}
use Rattle.pg_auth.specs.declared.scram.answer.ScramAnswer.{ScramAnswer}
use Rattle.pg_startup.specs.declared.stage.Stage.{Stage}
use Rattle.pg_startup.specs.declared.stage.Stage.TheVariants as stages

-- Who the client says that it is, and what it proves it by.
pub record ClientSeen : Type 0 where
  pub user : List ℕ
  pub password : List ℕ
  pub nonce : List ℕ

-- the client that options name; a password that isn't set is the empty text
abbrev pub client_of : ConnectOptions → List ℕ → ClientSeen
client_of o nonce = record { user = o.username; password = unwrap_or o.password []; nonce = nonce }

-- the messages by which it does, one constructor each: PasswordMessage, SASLInitialResponse and SASLResponse
pub data Proof : Type 0 where
  Password : (text : List ℕ) → Proof
  SaslInitial : (text : List ℕ) → Proof
  SaslResponse : (text : List ℕ) → Proof

abbrev pub proof_frame : Proof → Frame
proof_frame (Password text) = password text
proof_frame (SaslInitial text) = sasl_first text
proof_frame (SaslResponse text) = sasl_next text

abbrev pub proof_text : Proof → List ℕ
proof_text (Password text) = text
proof_text (SaslInitial text) = text
proof_text (SaslResponse text) = text

-- the bytes of such messages
abbrev pub proofs_text : List Proof → List ℕ
proofs_text proofs = text_of (map proof_frame proofs)

-- the mechanism that is spoken here; a server that offers it with channel binding accepts it without, too
abbrev pub is_scram : List ℕ → Bool
is_scram name = bytes_eq name (codes "SCRAM-SHA-256") || bytes_eq name (codes "SCRAM-SHA-256-PLUS")

abbrev pub offers_scram : List (List ℕ) → Bool
offers_scram names = list_any is_scram names

-- ---- what is answered to a request for authentication, and what is awaited then

abbrev pub no_keys : BackendKeyData
no_keys = record { process_id = 0; secret_key = 0 }

-- the client is who it says
abbrev pub Accepts : Authentication → List Proof → Stage → Type 0
Accepts requests.Ok proofs next = (proofs ≡ []) × (next ≡ stages.Accepted no_keys)
Accepts _ proofs next = ⊥

-- the first request, which chooses the method
abbrev pub Opens : ClientSeen → Authentication → List Proof → Stage → Type 0
Opens c requests.CleartextPassword proofs next = HasNoNul c.password × (proofs ≡ Password c.password ∷ []) × (next ≡ stages.Verdict)
Opens c (requests.Md5Password salt) proofs next = (proofs ≡ Password (md5_password c.user c.password salt) ∷ []) × (next ≡ stages.Verdict)
Opens c (requests.Sasl names) proofs next = IsTrue (offers_scram names) × ArePlain c.user c.password × (proofs ≡ SaslInitial (client_first c.user c.nonce) ∷ []) × (next ≡ stages.Challenge)
Opens c request proofs next = Accepts request proofs next

-- the server's first message of SCRAM, which the proof of the password answers
abbrev pub Proves : ClientSeen → Authentication → List Proof → Stage → Type 0
Proves c (requests.SaslContinue text) proofs next = (answer : ScramAnswer) × IsAnswer c.user c.password c.nonce text answer × (proofs ≡ SaslResponse answer.client_final ∷ []) × (next ≡ stages.Signature answer)
Proves c _ proofs next = ⊥

-- its last one, which proves that it knows the password too
abbrev pub Verifies : ScramAnswer → Authentication → List Proof → Stage → Type 0
Verifies answer (requests.SaslFinal text) proofs next = (text ≡ verifier_text answer.verifier) × (proofs ≡ []) × (next ≡ stages.Verdict)
Verifies answer _ proofs next = ⊥

-- a request is awaited
abbrev pub IsAuthenticating : Stage → Type 0
IsAuthenticating (stages.Accepted keys) = ⊥
IsAuthenticating (stages.Begun session) = ⊥
IsAuthenticating _ = Unit {0}

abbrev pub Answers : ClientSeen → Stage → Authentication → List Proof → Stage → Type 0
Answers c stages.Request request proofs next = Opens c request proofs next
Answers c stages.Challenge request proofs next = Proves c request proofs next
Answers c (stages.Signature answer) request proofs next = Verifies answer request proofs next
Answers c stages.Verdict request proofs next = Accepts request proofs next
Answers c _ request proofs next = ⊥

-- ---- the exchange

-- from one stage to the next by one message of the server, and what the client answers
abbrev pub Goes : ClientSeen → Stage → BackendMessage → List Proof → Stage → Type 0
Goes c stage (backend.Authentication code bytes) proofs next = (request : Authentication) × IsAsked request (backend.Authentication code bytes) × Answers c stage request proofs next
Goes c stage (backend.BackendKeyData process secret) proofs next = (keys : BackendKeyData) × (stage ≡ stages.Accepted keys) × (proofs ≡ []) × (next ≡ stages.Accepted (record { process_id = process; secret_key = secret }))
Goes c stage (backend.ReadyForQuery status) proofs next = (keys : BackendKeyData) × (stage ≡ stages.Accepted keys) × (proofs ≡ []) × (next ≡ stages.Begun (record { keys = keys; status = status }))
Goes c stage _ proofs next = ⊥

-- by these frames, none of them asynchronous, and all that the client answers to them
abbrev pub Leads : ClientSeen → Stage → List Frame → List Proof → Stage → Type 0
Leads c stage [] proofs last = (proofs ≡ []) × (last ≡ stage)
Leads c stage (frame ∷ frames) proofs last = (m : BackendMessage) × (next : Stage) × (first : List Proof) × (others : List Proof) × Carries frame m × Goes c stage m first next × (proofs ≡ first ++ others) × Leads c next frames others last
