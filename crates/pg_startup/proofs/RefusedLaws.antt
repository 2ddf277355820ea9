-- A message that an exchange takes on is refused for want of memory alone.
use Rattle.std.proofs.Common.{◌≡◌, ℕ, List, [], ◌∷◌, length, true, false, Bool, Some, None, refl, sym, ap, subst, ◌∙◌, arith, inl, inr}
use Rattle.std.specs.Prelude.{IsTrue, IsFalse, codes, nat_eq, nat_lt, cond}
use Rattle.std.specs.List.{AllByRecursion, list_any, position_or_len}
use Rattle.std.proofs.lemmas.Bool.{ltb-true}
use Rattle.std.proofs.lemmas.List.Sums.{passes_at_first}
use Rattle.std.proofs.lemmas.List.Folds.{list_any_at}
use Rattle.pg_wire.specs.Bytes.{HasNoNul}
use Rattle.pg_wire.specs.Encoding.{Allows, Refuses}
use Rattle.pg_wire.specs.Frame.{Frame, is_known}
use Rattle.pg_wire.specs.Backend.{BackendMessage, backend_frame}
use Rattle.pg_wire.specs.Backend as backend
use Rattle.pg_wire.specs.Requests.{IsAsked}
use Rattle.pg_wire.specs.declared.error.Error.{Error}
use Rattle.pg_wire.specs.declared.error.Error.TheVariants as errors
use Rattle.pg_wire.specs.declared.error.ConfigPart.TheVariants as parts
use Rattle.pg_wire.specs.declared.error.ProtocolFault.TheVariants as protocol
use Rattle.pg_wire.specs.declared.error.CallerFault.TheVariants as callers
use Rattle.pg_wire.specs.declared.error.ServerFault.TheVariants as faults
use Rattle.pg_wire.specs.declared.message.authentication.Authentication.{Authentication}
use Rattle.pg_wire.specs.declared.message.authentication.Authentication.TheVariants as requests
use Rattle.pg_wire.specs.declared.message.backend_key_data.BackendKeyData.{BackendKeyData}
use Rattle.pg_stream.specs.Parameters.{Carries}
use Rattle.pg_auth.specs.Md5Password.{md5_password}
use Rattle.pg_auth.specs.Scram.{ServerFirst, Continues, IsPlain, first_outside, client_first}
use Rattle.pg_auth.specs.ScramAnswers.{IsAnswer, ArePlain, IsVerifier, RefusesProof, RefusesVerifier}
use Rattle.pg_auth.specs.declared.scram.answer.ScramAnswer.{ScramAnswer}
use Rattle.pg_auth.proofs.ServerFirstLaws.{one_reading}
use Rattle.pg_startup.specs.declared.stage.Stage.{Stage}
use Rattle.pg_startup.specs.declared.stage.Stage.TheVariants as stages
use Rattle.pg_startup.specs.Nuls.{first_nul}
use Rattle.pg_startup.specs.Exchange.{ClientSeen, Proof, Password, SaslInitial, SaslResponse, proof_frame, proof_text, offers_scram, Opens, Proves, Answers, Goes}
use Rattle.pg_startup.specs.Refusals.{RefusesSaying, RefusesClear, RefusesScram, RefusesFirst, RefusesChallenge, RefusesRequest, tags_at, IsStray, Reports, RefusesMessage}
use Rattle.pg_startup.specs.Lawful.{CanBeSaid}
use Rattle.pg_startup.proofs.ExchangeLaws.{one_message, one_asked, one_answer}
use Rattle.pg_auth.proofs.SignatureLaws.{one_signature}
use Rattle.pg_startup.proofs.SignatureLaws.{KnowsSignature}

abbrev pub IsMemory : Error → Type 0
IsMemory e = e ≡ errors.OutOfMemory

-- ---- what can be said

allowed : (T : Type 0) (size : ℕ) (e : Error) → Allows 0 T size → Refuses 0 T size e → IsMemory e
allowed T size (errors.Protocol (protocol.Caller (callers.TooMany n))) a r = absurd (omega (arith, r.1))
allowed T size (errors.Protocol (protocol.Caller callers.Nul)) a r = absurd (r.1 a.1)
allowed T size (errors.Protocol (protocol.Caller (callers.TooLong n))) a r = absurd (omega (arith, a.2, r.3))
allowed T size errors.OutOfMemory a r = refl
allowed T size _ a r = absurd r

said : (p : Proof) (e : Error) → CanBeSaid p → RefusesSaying p e → IsMemory e
said p e a r = allowed (HasNoNul (proof_text p)) (length (proof_frame p).body) e a r

abbrev AreSayable : List Proof → Type 0
AreSayable proofs = AllByRecursion CanBeSaid proofs

one_said : (p : Proof) (proofs : List Proof) → proofs ≡ p ∷ [] → AreSayable proofs → CanBeSaid p
one_said p proofs e s = (subst AreSayable e s).0

-- ---- texts

some_first : (b : Bool) (k place : ℕ) → cond b (Some k) None ≡ Some place → b ≡ true
some_first true k place e = refl
some_first false k place e = absurd cc

none_first : (text : List ℕ) (place : ℕ) → HasNoNul text → first_nul text ≡ Some place → ⊥
unfolding first_nul
none_first text place none e =
    let before = ltb-true (position_or_len (nat_eq 0) text) (length text) (some_first (nat_lt (position_or_len (nat_eq 0) text) (length text)) (position_or_len (nat_eq 0) text) place e) in
    let found : list_any (nat_eq 0) text ≡ true = list_any_at (nat_eq 0) text (position_or_len (nat_eq 0) text) 0 before (passes_at_first (nat_eq 0) text 0 before) in
    let not : list_any (nat_eq 0) text ≡ false = none in
    absurd cc

none_outside : (text : List ℕ) (place : ℕ) → IsPlain text → first_outside text ≡ Some place → ⊥
none_outside text place plain e = some_none place (sym e ∙ plain)
  where
    some_none : (n : ℕ) → Some n ≡ None → ⊥
    some_none n e = cc

-- ---- requests

clear : (c : ClientSeen) (e : Error) → HasNoNul c.password → CanBeSaid (Password c.password) → RefusesClear c.password e → IsMemory e
clear c (errors.Configuration parts.Nul place) n s r = absurd (none_first c.password place n r)
clear c e n s r = said (Password c.password) e s r.1

scram : (c : ClientSeen) (e : Error) → ArePlain c.user c.password → CanBeSaid (SaslInitial (client_first c.user c.nonce)) → RefusesScram c true e → IsMemory e
scram c (errors.Configuration parts.SaslUser place) p s r = absurd (none_outside c.user place p.0 r)
scram c (errors.Configuration parts.SaslPassword place) p s r = absurd (none_outside c.password place p.1 r.1)
scram c errors.OutOfMemory p s r = refl
scram c e p s r = said (SaslInitial (client_first c.user c.nonce)) e s r.1

first : (c : ClientSeen) (request : Authentication) (e : Error) (proofs : List Proof) (next : Stage) → Opens c request proofs next → AreSayable proofs → RefusesFirst c request e → IsMemory e
first c requests.Ok e proofs next o s r = absurd r
first c requests.CleartextPassword e proofs next o s r = clear c e o.0 (one_said (Password c.password) proofs o.1 s) r
first c (requests.Md5Password salt) e proofs next o s r = said (Password (md5_password c.user c.password salt)) e (one_said (Password (md5_password c.user c.password salt)) proofs o.0 s) r
first c (requests.Sasl names) e proofs next o s r =
    let offers : offers_scram names ≡ true = o.0 in
    scram c e o.1 (one_said (SaslInitial (client_first c.user c.nonce)) proofs o.2 s) (subst (λ (b : Bool). RefusesScram c b e) offers r)
first c _ e proofs next o s r = absurd o

proof : (user password nonce text : List ℕ) (answer : ScramAnswer) (e : Error) → IsAnswer user password nonce text answer → RefusesProof user password nonce text e → IsMemory e
proof user password nonce text answer errors.OutOfMemory is r = refl
proof user password nonce text answer (errors.Configuration parts.SaslUser place) is r = absurd (none_outside user place is.user_plain r)
proof user password nonce text answer (errors.Configuration parts.SaslPassword place) is r = absurd (none_outside password place is.password_plain r.1)
proof user password nonce text answer (errors.Protocol (protocol.Server (faults.Malformed tag))) is r = absurd (r.2 is.server is.reads)
proof user password nonce text answer (errors.Protocol (protocol.Server faults.Nonce)) is r =
    absurd (r.1.2 (subst (λ (m : ServerFirst). Continues nonce m.nonce) (one_reading text is.server r.1.0 is.reads r.1.1) is.continues))
proof user password nonce text answer _ is r = absurd r

challenge : (c : ClientSeen) (text : List ℕ) (e : Error) (proofs : List Proof) (next : Stage) → Proves c (requests.SaslContinue text) proofs next → AreSayable proofs → RefusesChallenge c text e → IsMemory e
challenge c text e proofs next p s (inl r) = proof c.user c.password c.nonce text p.0 e p.1 r
challenge c text e proofs next p s (inr (a, is, r)) =
    let same : p.0 ≡ a = one_answer c.user c.password c.nonce text p.0 a p.1 is in
    said (SaslResponse a.client_final) e (one_said (SaslResponse a.client_final) proofs (p.2 ∙ ap (λ (x : ScramAnswer). SaslResponse x.client_final ∷ []) same) s) r

verifier : (answer : ScramAnswer) (text : List ℕ) (e : Error) → IsVerifier text answer.verifier → RefusesVerifier answer.verifier text e → IsMemory e
verifier answer text (errors.Protocol (protocol.Server (faults.Malformed tag))) is r = absurd (r.1 answer.verifier is)
verifier answer text (errors.Protocol (protocol.Server faults.Signature)) is r = absurd (r.2 (one_signature text r.0 answer.verifier r.1 is))
verifier answer text _ is r = absurd r

request_taken : (c : ClientSeen) (stage : Stage) (request : Authentication) (e : Error) (proofs : List Proof) (next : Stage) → KnowsSignature stage → Answers c stage request proofs next → AreSayable proofs → RefusesRequest c stage request e → IsMemory e
request_taken c stages.Request request e proofs next k a s r = first c request e proofs next a s r
request_taken c stages.Challenge (requests.SaslContinue text) e proofs next k a s r = challenge c text e proofs next a s r
request_taken c stages.Challenge _ e proofs next k a s r = absurd a
request_taken c (stages.Signature answer) (requests.SaslFinal text) e proofs next k a s r = verifier answer text e (subst (λ (x : List ℕ). IsVerifier x answer.verifier) (sym a.0) k) r
request_taken c (stages.Signature answer) _ e proofs next k a s r = absurd a
request_taken c stages.Verdict requests.Ok e proofs next k a s r = absurd r
request_taken c stages.Verdict _ e proofs next k a s r = absurd a
request_taken c (stages.Accepted keys) request e proofs next k a s r = absurd a
request_taken c (stages.Begun session) request e proofs next k a s r = absurd a

-- ---- messages

-- the exchange takes this message on, and the client can say what answers it
pub record Takes (c : ClientSeen) (stage : Stage) (frame : Frame) : Type 0 where
  pub message : BackendMessage
  pub next : Stage
  pub proofs : List Proof
  pub carries : Carries frame message
  pub goes : Goes c stage message proofs next
  pub sayable : AreSayable proofs

asked : (c : ClientSeen) (stage : Stage) (message : BackendMessage) (request : Authentication) (e : Error) (proofs : List Proof) (next : Stage) → IsAsked request message → Goes c stage message proofs next → KnowsSignature stage → AreSayable proofs → RefusesRequest c stage request e → IsMemory e
asked c stage (backend.Authentication code bytes) request e proofs next is goes k s r =
    let same : goes.0 ≡ request = one_asked goes.0 request (backend.Authentication code bytes) goes.1 is in
    request_taken c stage request e proofs next k (subst (λ (x : Authentication). Answers c stage x proofs next) same goes.2) s r
asked c stage _ request e proofs next is goes k s r = let clash = is.2 in absurd cc

accepted_known : (stage : Stage) (keys : BackendKeyData) (tag : ℕ) → stage ≡ stages.Accepted keys → IsTrue (is_known (codes "KZE") tag) → IsTrue (is_known (tags_at stage) tag)
accepted_known stage keys tag e h = rw e h

asks_known : (c : ClientSeen) (stage : Stage) (request : Authentication) (proofs : List Proof) (next : Stage) → Answers c stage request proofs next → IsTrue (is_known (tags_at stage) 82)
asks_known c stages.Request request proofs next a = refl
asks_known c stages.Challenge request proofs next a = refl
asks_known c (stages.Signature answer) request proofs next a = refl
asks_known c stages.Verdict request proofs next a = refl
asks_known c (stages.Accepted keys) request proofs next a = absurd a
asks_known c (stages.Begun session) request proofs next a = absurd a

goes_known : (c : ClientSeen) (stage : Stage) (message : BackendMessage) (proofs : List Proof) (next : Stage) → Goes c stage message proofs next → IsTrue (is_known (tags_at stage) (backend_frame message).tag)
goes_known c stage (backend.Authentication code bytes) proofs next g = asks_known c stage g.0 proofs next g.2
goes_known c stage (backend.BackendKeyData process secret) proofs next g = accepted_known stage g.0 75 g.1 refl
goes_known c stage (backend.ReadyForQuery status) proofs next g = accepted_known stage g.0 90 g.1 refl
goes_known c stage _ proofs next g = absurd g

true_false : (b : Bool) → IsTrue b → IsFalse b → ⊥
true_false b t f = cc

stray : (c : ClientSeen) (stage : Stage) (frame : Frame) (e : Error) → Takes c stage frame → IsStray (tags_at stage) frame e → IsMemory e
stray c stage frame errors.OutOfMemory t r = refl
stray c stage frame (errors.Protocol (protocol.Server (faults.Malformed tag))) t r = absurd (r.1 t.message t.carries)
stray c stage frame (errors.Protocol (protocol.Server (faults.Unlawful tag))) t r =
    let known = goes_known c stage t.message t.proofs t.next t.goes in
    absurd (true_false (is_known (tags_at stage) frame.tag) (subst (λ (f : Frame). IsTrue (is_known (tags_at stage) f.tag)) t.carries.1 known) r.1)
stray c stage frame _ t r = absurd r

reported : (c : ClientSeen) (stage : Stage) (frame : Frame) (e : Error) → Takes c stage frame → Reports frame e → IsMemory e
reported c stage frame (errors.Database error) t r =
    absurd (subst (λ (m : BackendMessage). Goes c stage m t.proofs t.next) (one_message frame t.message (backend.ErrorResponse error) t.carries r) t.goes)
reported c stage frame _ t r = absurd r

pub not_refused : (c : ClientSeen) (stage : Stage) (frame : Frame) (e : Error) → KnowsSignature stage → Takes c stage frame → RefusesMessage c stage frame e → IsMemory e
not_refused c stage frame e k t r = elim r [
  | inl x ↦ stray c stage frame e t x
  | inr y ↦ elim y [
    | inl x ↦ reported c stage frame e t x
    | inr x ↦ asked c stage t.message x.request e t.proofs t.next (subst (λ (m : BackendMessage). IsAsked x.request m) (one_message frame x.message t.message x.carries t.carries) x.asks) t.goes k t.sayable x.refused
  ]
]
