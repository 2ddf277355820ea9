-- What is known of the call of a copy.
use Rattle.std.proofs.Common.{Ok}
use Rattle.pg_wire.specs.declared.message.copy_response.CopyResponseData.{CopyResponseData}
use Rattle.pg_call.specs.declared.answer.Turn.{Turn}
use Rattle.pg_call.specs.declared.answer.Turn.TheVariants as turns
use Rattle.pg_call.specs.declared.kind.Kind.TheVariants as kinds
use Rattle.pg_conn.specs.Connections.{ConnOf}
use Rattle.pg_conn.specs.Feeding.{IsFed}
use Rattle.pg_conn.specs.States.{StaysCalling}
use Rattle.pg_copying.specs.Copies.{BeginsAs}

-- one that was begun is open where the server has said so
pub opened_fed : {A : Type 0} (b : ConnOf A) (turn : Turn) (response : CopyResponseData) → BeginsAs turn (Ok response) → StaysCalling kinds.CopyIn b turn → IsFed b
opened_fed b (turns.Opened opened) response e s = s
opened_fed b (turns.Err error) response e s = absurd e
opened_fed b (turns.Ok answer) response e s = absurd e
opened_fed b (turns.Item item) response e s = absurd e
