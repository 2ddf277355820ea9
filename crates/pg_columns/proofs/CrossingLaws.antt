-- The columns of a result may move to another thread, and threads may share them.
use denote.Param.Send.{IsSend, IsSync, sendable}
use Rattle.std.proofs.Crossing.{crosses}
use Rattle.pg_wire.proofs.message.row_description.Field.TheSendSync as field
use Rattle.pg_columns.proofs.origin.ColumnOrigin.TheSendSync as origin
use Rattle.pg_columns.specs.contracts.column.PgColumn as PgColumn
use Rattle.pg_columns.specs.contracts.columns.PgColumns as PgColumns
use Rattle.pg_arguments.proofs.CrossingLaws.{wire, info_send, info_sync}

pub column_send : IsSend PgColumn.the_field.row
column_send = search (info_send, field.the_field_send, wire, origin.the_field_send, sendable, crosses) depth 20

column_sync : IsSync PgColumn.the_field.row
column_sync = search (info_sync, field.the_field_sync, wire, origin.the_field_sync, sendable, crosses) depth 20

pub columns_send : IsSend PgColumns.the_row
columns_send = search (column_send, column_sync, sendable, crosses) depth 20
