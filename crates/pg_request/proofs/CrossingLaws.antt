-- Arguments may move to another thread. The types within them are recursive, so each layer is shown by itself.
use denote.Param.Send.{IsSend, sendable}
use Rattle.std.proofs.Crossing.{crosses}
use Rattle.pg_arguments.specs.contracts.argument_buffer.PgArgumentBuffer as PgArgumentBuffer
use Rattle.pg_arguments.specs.contracts.arguments.PgArguments as PgArguments
use Rattle.pg_arguments.specs.contracts.hole.Hole as Hole
use Rattle.pg_request.specs.contracts.arguments.Arguments as Arguments
use Rattle.pg_request.specs.contracts.naming.Declared as Declared
use Rattle.pg_request.specs.contracts.query.Query as Query
use Rattle.pg_request.specs.contracts.unresolved.Open as Open
use Rattle.pg_request.specs.contracts.unresolved.Unresolved as Unresolved
use Rattle.pg_arguments.proofs.CrossingLaws.{wire, info_send}

hole_send : IsSend Hole.the_field.row
hole_send = search (info_send, sendable, crosses) depth 20

buffer_send : IsSend PgArgumentBuffer.the_row
buffer_send = search (hole_send, sendable, crosses) depth 20

given_send : IsSend PgArguments.the_row
given_send = search (info_send, buffer_send, sendable, crosses) depth 20

declared_send : IsSend Declared.the_field.row
declared_send = search (wire, sendable, crosses) depth 20

open_send : IsSend Open.the_row
open_send = search (given_send, declared_send, wire, sendable, crosses) depth 20

unresolved_send : IsSend Unresolved.the_row
unresolved_send = search (open_send, wire, sendable, crosses) depth 20

pub arguments_send : IsSend Arguments.the_row
arguments_send = search (unresolved_send, wire, sendable, crosses) depth 20

pub query_send : IsSend Query.the_row
query_send = search (arguments_send, wire, sendable, crosses) depth 20
