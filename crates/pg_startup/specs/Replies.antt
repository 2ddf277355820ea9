-- What the code answers to a message.
use Rattle.std.specs.Prelude.{◌≡◌, List}
use Rattle.pg_wire.specs.Frame.{Frame}
use Rattle.pg_wire.specs.Backend.{BackendMessage}
use Rattle.pg_stream.specs.Parameters.{Carries}
use Rattle.pg_startup.specs.declared.stage.Stage.{Stage}
use Rattle.pg_startup.specs.declared.reply.Reply.{Reply}
use Rattle.pg_startup.specs.Exchange.{ClientSeen, Proof, proofs_text, Goes}

-- the reply is the spelling of proofs that the rule allows, with what the rule awaits then
abbrev pub IsReplyBy : (List Proof → Stage → Type 0) → Reply → Type 0
IsReplyBy Allows reply = (proofs : List Proof) × Allows proofs reply.next × (reply.text ≡ proofs_text proofs)

-- a message's reply takes the exchange from one stage to the next
abbrev pub Hears : ClientSeen → Stage → Frame → Reply → Type 0
Hears c stage frame reply = (m : BackendMessage) × Carries frame m × IsReplyBy (Goes c stage m) reply
