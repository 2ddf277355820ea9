-- A row may move to another thread.
use denote.Param.Send.{IsSend, sendable}
use Rattle.std.proofs.Crossing.{crosses}
use Rattle.pg_rows.specs.contracts.heading.Heading as Heading
use Rattle.pg_rows.specs.contracts.row.PgRow as PgRow
use Rattle.pg_wire.proofs.message.data_row.DataRow.TheSendSync as data_row
use Rattle.pg_arguments.proofs.CrossingLaws.{wire}
use Rattle.pg_columns.proofs.CrossingLaws.{columns_send}

pub heading_send : IsSend Heading.the_field.row
heading_send = search (columns_send, sendable, crosses) depth 20

pub row_send : IsSend PgRow.the_row
row_send = search (heading_send, data_row.the_send, wire, sendable, crosses) depth 20
