-- A type of the database may move to another thread, and threads may share it. It is recursive: what is known of its knot serves all that holds one.
use denote.Param.Send.{IsSend, IsSync, sendable}
use Rattle.std.proofs.Crossing.{crosses}
use Rattle.pg_arguments.proofs.type_info.PgTypeInfo.TheLaws.TheKnot as knot
use Rattle.pg_arguments.specs.contracts.type_info.PgTypeInfo as PgTypeInfo
use Rattle.pg_wire.proofs.oid.Oid.TheSendSync as oid
use Rattle.pg_wire.proofs.oid.Oids.TheSendSync as oids
use Rattle.pg_wire.proofs.text.Text.TheSendSync as text
use Rattle.pg_wire.proofs.sequence.Sequence.TheSendSync as sequence
use Rattle.pg_wire.proofs.statement_id.StatementId.TheSendSync as id
use Rattle.pg_wire.proofs.blob.Blob.TheSendSync as blob

-- The types of messages that are plain data.
pub ruleset wire = (oid.the_send, oid.the_sync, text.the_send, text.the_sync, sequence.the_send, sequence.the_sync, oids.the_send, id.the_send, blob.the_send)

pub info_send : IsSend PgTypeInfo.the_row
info_send = search (knot.crosses, wire, sendable, crosses) depth 30

pub info_sync : IsSync PgTypeInfo.the_row
info_sync = search (knot.crosses, wire, sendable, crosses) depth 30
