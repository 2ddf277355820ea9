-- A connection may move to another thread where its link may.
use denote.RattleType.{RattleType}
use denote.Param.Send.{IsSend, sendable}
use Rattle.std.proofs.Crossing.{crosses}
use Rattle.pg_call.proofs.kind.Keeping.TheSendSync as keeping
use Rattle.pg_call.proofs.kind.Change.TheSendSync as change
use Rattle.pg_request.proofs.progress.CacheStep.TheSendSync as step
use Rattle.pg_wire.proofs.error.ServerFault.TheSendSync as fault
use Rattle.pg_stream.proofs.stream.PgStream.TheSendSync as stream
use Rattle.pg_conn.specs.contracts.connection.PgConnection as PgConnection
use Rattle.pg_call.proofs.CrossingLaws.{running_send}
use Rattle.pg_rule.proofs.CrossingLaws.{rule_send}
use Rattle.pg_learning.proofs.CrossingLaws.{learnt_send}

pub conn_send : (L : RattleType) → IsSend L → IsSend (PgConnection.the_row L)
conn_send L s = search (running_send, rule_send, learnt_send, stream.the_send, change.the_field_send, keeping.the_field_send, step.the_field_send, fault.the_field_send, sendable, crosses) depth 20
