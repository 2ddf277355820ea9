-- An exchange goes on in one way: a message leaves one answer, and one stage behind it.
use Rattle.std.proofs.Common.{◌≡◌, ℕ, List, [], ◌∷◌, ◌++◌, refl, sym, ap, ap₂, subst, ◌∙◌, append_assoc}
use Rattle.pg_wire.specs.Frame.{Frame}
use Rattle.pg_wire.specs.Backend.{BackendMessage, backend_frame}
use Rattle.pg_wire.specs.Backend as backend
use Rattle.pg_wire.specs.Requests.{AsksFor, IsAsked}
use Rattle.pg_wire.specs.declared.message.authentication.Authentication.{Authentication}
use Rattle.pg_wire.specs.declared.message.authentication.Authentication.TheVariants as requests
use Rattle.pg_wire.specs.declared.message.backend_key_data.BackendKeyData.{BackendKeyData}
use Rattle.pg_wire.proofs.Unique.{backend_frame_unique}
use Rattle.pg_wire.proofs.RequestLaws.{one_request}
use Rattle.pg_stream.specs.Parameters.{Carries}
use Rattle.pg_auth.specs.Scram.{ServerFirst}
use Rattle.pg_auth.specs.ScramAnswers.{AnswersTo, IsAnswer}
use Rattle.pg_auth.specs.declared.scram.answer.ScramAnswer.{ScramAnswer}
use Rattle.pg_auth.proofs.ServerFirstLaws.{one_reading}
use Rattle.pg_startup.specs.declared.stage.Session.{Session}
use Rattle.pg_startup.specs.declared.stage.Stage.{Stage}
use Rattle.pg_startup.specs.declared.stage.Stage.TheVariants as stages
use Rattle.pg_startup.specs.Exchange.{ClientSeen, Proof, SaslResponse, Accepts, Opens, Proves, Verifies, Answers, Goes, Leads}

-- ---- one reading

pub one_message : (frame : Frame) (m n : BackendMessage) → Carries frame m → Carries frame n → m ≡ n
one_message frame m n p q = backend_frame_unique m n p.0 q.0 (p.1 ∙ sym q.1)

asked_by : (r s : Authentication) (c d : ℕ) (x y : List ℕ) → backend.Authentication c x ≡ backend.Authentication d y → AsksFor r c x → AsksFor s d y → r ≡ s
asked_by r s c d x y e p q =
    let code : c ≡ d = cc in
    let bytes : x ≡ y = cc in
    one_request r s d y (rw (← code, ← bytes) p) q

-- a message asks for one thing
pub one_asked : (r s : Authentication) (m : BackendMessage) → IsAsked r m → IsAsked s m → r ≡ s
one_asked r s m p q = asked_by r s p.0 q.0 p.1 q.1 (sym p.2 ∙ q.2) p.3 q.3

same_answer : (a b : ScramAnswer) → a.client_final ≡ b.client_final → a.verifier ≡ b.verifier → a ≡ b
same_answer a b p q = ap₂ (λ (x y : List ℕ). let s : ScramAnswer = record { client_final = x; verifier = y } in s) p q

-- a text is answered in one way
pub one_answer : (user password nonce text : List ℕ) (a b : ScramAnswer) → IsAnswer user password nonce text a → IsAnswer user password nonce text b → a ≡ b
one_answer user password nonce text a b p q =
    let again : AnswersTo user password nonce text p.server b = subst (λ (s : ServerFirst). AnswersTo user password nonce text s b) (one_reading text q.server p.server q.reads p.reads) q.answers in
    same_answer a b (p.answers.0 ∙ sym again.0) (p.answers.1 ∙ sym again.1)

-- ---- one step

accepts_once : (r : Authentication) (p q : List Proof) (m n : Stage) → Accepts r p m → Accepts r q n → (p ≡ q) × (m ≡ n)
accepts_once requests.Ok p q m n h k = (h.0 ∙ sym k.0, h.1 ∙ sym k.1)
accepts_once _ p q m n h k = absurd h

opens_once : (c : ClientSeen) (r : Authentication) (p q : List Proof) (m n : Stage) → Opens c r p m → Opens c r q n → (p ≡ q) × (m ≡ n)
opens_once c requests.CleartextPassword p q m n h k = (h.1 ∙ sym k.1, h.2 ∙ sym k.2)
opens_once c (requests.Md5Password salt) p q m n h k = (h.0 ∙ sym k.0, h.1 ∙ sym k.1)
opens_once c (requests.Sasl names) p q m n h k = (h.2 ∙ sym k.2, h.3 ∙ sym k.3)
opens_once c requests.Ok p q m n h k = (h.0 ∙ sym k.0, h.1 ∙ sym k.1)
opens_once c _ p q m n h k = absurd h

proves_once : (c : ClientSeen) (r : Authentication) (p q : List Proof) (m n : Stage) → Proves c r p m → Proves c r q n → (p ≡ q) × (m ≡ n)
proves_once c (requests.SaslContinue text) p q m n h k =
    let same = one_answer c.user c.password c.nonce text h.0 k.0 h.1 k.1 in (
      h.2 ∙ ap (λ (a : ScramAnswer). SaslResponse a.client_final ∷ []) same ∙ sym k.2,
      h.3 ∙ ap stages.Signature same ∙ sym k.3,
    )
proves_once c _ p q m n h k = absurd h

verifies_once : (answer : ScramAnswer) (r : Authentication) (p q : List Proof) (m n : Stage) → Verifies answer r p m → Verifies answer r q n → (p ≡ q) × (m ≡ n)
verifies_once answer (requests.SaslFinal text) p q m n h k = (h.1 ∙ sym k.1, h.2 ∙ sym k.2)
verifies_once answer _ p q m n h k = absurd h

answers_once : (c : ClientSeen) (stage : Stage) (r : Authentication) (p q : List Proof) (m n : Stage) → Answers c stage r p m → Answers c stage r q n → (p ≡ q) × (m ≡ n)
answers_once c stages.Request r p q m n h k = opens_once c r p q m n h k
answers_once c stages.Challenge r p q m n h k = proves_once c r p q m n h k
answers_once c (stages.Signature answer) r p q m n h k = verifies_once answer r p q m n h k
answers_once c stages.Verdict r p q m n h k = accepts_once r p q m n h k
answers_once c (stages.Accepted keys) r p q m n h k = absurd h
answers_once c (stages.Begun session) r p q m n h k = absurd h

same_keys : (stage : Stage) (x y : BackendKeyData) → stage ≡ stages.Accepted x → stage ≡ stages.Accepted y → x ≡ y
same_keys stage x y p q = cc

goes_once : (c : ClientSeen) (stage : Stage) (message : BackendMessage) (p q : List Proof) (m n : Stage) → Goes c stage message p m → Goes c stage message q n → (p ≡ q) × (m ≡ n)
goes_once c stage (backend.Authentication code bytes) p q m n h k =
    let same : h.0 ≡ k.0 = one_asked h.0 k.0 (backend.Authentication code bytes) h.1 k.1 in
    answers_once c stage k.0 p q m n (subst (λ (r : Authentication). Answers c stage r p m) same h.2) k.2
goes_once c stage (backend.BackendKeyData process secret) p q m n h k = (h.2 ∙ sym k.2, h.3 ∙ sym k.3)
goes_once c stage (backend.ReadyForQuery status) p q m n h k = (
  h.2 ∙ sym k.2,
  h.3 ∙ ap (λ (keys : BackendKeyData). stages.Begun (record { keys = keys; status = status })) (same_keys stage h.0 k.0 h.1 k.1) ∙ sym k.3,
)
goes_once c stage _ p q m n h k = absurd h

-- ---- step by step

-- what leads through the first of some frames leads on through the others
pub leads_on : (c : ClientSeen) (a b d : Stage) (x y : List Frame) (s t : List Proof) → Leads c a x s b → Leads c a (x ++ y) t d → (others : List Proof) × (t ≡ s ++ others) × Leads c b y others d
leads_on c a b d [] y s t p q = (t, rw p.0 refl, rw p.1 q)
leads_on c a b d (f ∷ x) y s t p q =
    let heard = one_message f p.0 q.0 p.4 q.4 in
    let once = goes_once c a q.0 p.2 q.2 p.1 q.1 (subst (λ (m : BackendMessage). Goes c a m p.2 p.1) heard p.5) q.5 in
    let further = leads_on c q.1 b d x y p.3 q.3 (subst (λ (n : Stage). Leads c n x p.3 b) once.1 p.7) q.7 in (
      further.0,
      q.6 ∙ ap₂ (λ (u v : List Proof). u ++ v) (sym once.0) further.1 ∙ sym (append_assoc p.2 p.3 further.0) ∙ ap (λ (u : List Proof). u ++ further.0) (sym p.6),
      further.2,
    )

begun_accepted : (session : Session) (keys : BackendKeyData) → stages.Begun session ≡ stages.Accepted keys → ⊥
begun_accepted session keys e = cc

goes_no_more : (c : ClientSeen) (session : Session) (message : BackendMessage) (p : List Proof) (n : Stage) → Goes c (stages.Begun session) message p n → ⊥
goes_no_more c session (backend.Authentication code bytes) p n h = h.2
goes_no_more c session (backend.BackendKeyData process secret) p n h = begun_accepted session h.0 h.1
goes_no_more c session (backend.ReadyForQuery status) p n h = begun_accepted session h.0 h.1
goes_no_more c session _ p n h = h

-- a session that has begun is not led on
pub leads_no_more : (c : ClientSeen) (session : Session) (b : Stage) (x : List Frame) (s : List Proof) → Leads c (stages.Begun session) x s b → b ≡ stages.Begun session
leads_no_more c session b [] s h = h.1
leads_no_more c session b (f ∷ x) s h = absurd (goes_no_more c session h.0 h.2 h.1 h.5)
