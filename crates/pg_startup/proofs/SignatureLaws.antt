-- The signature that a client awaits is one that a server's last message of SCRAM can tell.
use Rattle.std.proofs.Common.{List, [], ◌∷◌}
use Rattle.pg_wire.specs.Frame.{Frame}
use Rattle.pg_wire.specs.Backend.{BackendMessage}
use Rattle.pg_wire.specs.Backend as backend
use Rattle.pg_wire.specs.declared.message.authentication.Authentication.{Authentication}
use Rattle.pg_wire.specs.declared.message.authentication.Authentication.TheVariants as requests
use Rattle.pg_auth.specs.Scram.{verifier_text}
use Rattle.pg_auth.specs.ScramAnswers.{IsVerifier}
use Rattle.pg_auth.proofs.SignatureLaws.{can_be_told}
use Rattle.pg_startup.specs.declared.stage.Stage.{Stage}
use Rattle.pg_startup.specs.declared.stage.Stage.TheVariants as stages
use Rattle.pg_startup.specs.Exchange.{ClientSeen, Proof, Accepts, Opens, Answers, Goes, Leads}

-- the signature that is awaited, if one is, can be told
abbrev pub KnowsSignature : Stage → Type 0
KnowsSignature (stages.Signature answer) = IsVerifier (verifier_text answer.verifier) answer.verifier
KnowsSignature _ = Unit {0}

accepts_knows : (r : Authentication) (proofs : List Proof) (next : Stage) → Accepts r proofs next → KnowsSignature next
accepts_knows requests.Ok proofs next h = rw h.1 tt
accepts_knows _ proofs next h = absurd h

opens_knows : (c : ClientSeen) (r : Authentication) (proofs : List Proof) (next : Stage) → Opens c r proofs next → KnowsSignature next
opens_knows c requests.CleartextPassword proofs next h = rw h.2 tt
opens_knows c (requests.Md5Password salt) proofs next h = rw h.1 tt
opens_knows c (requests.Sasl names) proofs next h = rw h.3 tt
opens_knows c requests.Ok proofs next h = rw h.1 tt
opens_knows c _ proofs next h = absurd h

answers_knows : (c : ClientSeen) (stage : Stage) (r : Authentication) (proofs : List Proof) (next : Stage) → Answers c stage r proofs next → KnowsSignature next
answers_knows c stages.Request r proofs next h = opens_knows c r proofs next h
answers_knows c stages.Challenge (requests.SaslContinue text) proofs next h = rw h.3 (can_be_told c.user c.password c.nonce text h.0 h.1)
answers_knows c stages.Challenge _ proofs next h = absurd h
answers_knows c (stages.Signature answer) (requests.SaslFinal text) proofs next h = rw h.2 tt
answers_knows c (stages.Signature answer) _ proofs next h = absurd h
answers_knows c stages.Verdict r proofs next h = accepts_knows r proofs next h
answers_knows c (stages.Accepted keys) r proofs next h = absurd h
answers_knows c (stages.Begun session) r proofs next h = absurd h

goes_knows : (c : ClientSeen) (stage : Stage) (m : BackendMessage) (proofs : List Proof) (next : Stage) → Goes c stage m proofs next → KnowsSignature next
goes_knows c stage (backend.Authentication code bytes) proofs next h = answers_knows c stage h.0 proofs next h.2
goes_knows c stage (backend.BackendKeyData process secret) proofs next h = rw h.3 tt
goes_knows c stage (backend.ReadyForQuery status) proofs next h = rw h.3 tt
goes_knows c stage _ proofs next h = absurd h

pub leads_knows : (c : ClientSeen) (a b : Stage) (frames : List Frame) (proofs : List Proof) → KnowsSignature a → Leads c a frames proofs b → KnowsSignature b
leads_knows c a b [] proofs k h = rw h.1 k
leads_knows c a b (f ∷ frames) proofs k h = leads_knows c h.1 b frames h.3 (goes_knows c a h.0 h.2 h.1 h.5) h.7
