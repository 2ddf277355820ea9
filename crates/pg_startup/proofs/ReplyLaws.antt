-- What is answered to a message.
use Rattle.std.proofs.Common.{◌≡◌, ℕ, List, [], ◌∷◌, refl, sym, ◌∙◌, append-nil, Result, Ok, Err}
use Rattle.std.specs.Prelude.{IfErr}
use Rattle.pg_wire.specs.Frame.{Frame, bytes_of}
use Rattle.pg_wire.specs.Backend.{BackendMessage}
use Rattle.pg_wire.specs.Backend as backend
use Rattle.pg_wire.specs.declared.message.backend_key_data.BackendKeyData.{BackendKeyData}
use Rattle.pg_wire.specs.declared.status.TransactionStatus.{TransactionStatus}
use Rattle.pg_stream.specs.Parameters.{Carries}
use Rattle.pg_startup.specs.declared.stage.Stage.TheVariants as stages
use Rattle.pg_startup.specs.declared.reply.Reply.{Reply}
use Rattle.pg_startup.specs.Exchange.{ClientSeen, Proof, proof_frame, proofs_text}
use Rattle.pg_startup.specs.Replies.{Hears}

pub one_proof : (p : Proof) (text : List ℕ) → text ≡ bytes_of (proof_frame p) → text ≡ proofs_text (p ∷ [])
one_proof p text e = e ∙ sym (append-nil (bytes_of (proof_frame p)))

-- keys, and what the session begins with
pub hears_keys : (frame : Frame) (keys told : BackendKeyData) (reply : Reply) → Carries frame (backend.BackendKeyData told.process_id told.secret_key) → reply ≡ record { text = []; next = stages.Accepted told } → (c : ClientSeen) → Hears c (stages.Accepted keys) frame reply
hears_keys frame keys told reply carries e c = rw e (backend.BackendKeyData told.process_id told.secret_key, carries, ([], (keys, refl, refl, refl), refl))

pub hears_ready : (frame : Frame) (keys : BackendKeyData) (status : TransactionStatus) (reply : Reply) → Carries frame (backend.ReadyForQuery status) → reply ≡ record { text = []; next = stages.Begun (record { keys = keys; status = status }) } → (c : ClientSeen) → Hears c (stages.Accepted keys) frame reply
hears_ready frame keys status reply carries e c = rw e (backend.ReadyForQuery status, carries, ([], (keys, refl, refl, refl), refl))

pub if_err : {X E : Type 0} {P Q : E → Type 0} (r : Result X E) → ((e : E) → P e → Q e) → IfErr r P → IfErr r Q
if_err (Ok x) f h = h
if_err (Err e) f h = f e h
