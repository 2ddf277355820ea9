-- A call may move to another thread. Each of its types that hold columns is shown by itself, for one search through all of them runs out of steps.
use denote.Param.Send.{IsSend, sendable}
use Rattle.std.proofs.Crossing.{crosses}
use Rattle.pg_call.specs.contracts.statement.Described as Described
use Rattle.pg_call.specs.contracts.statement.Extended as Extended
use Rattle.pg_call.specs.contracts.statement.Bound as Bound
use Rattle.pg_call.specs.contracts.statement.Prepared as Prepared
use Rattle.pg_call.specs.contracts.after.After as After
use Rattle.pg_call.specs.contracts.after.Eviction as Eviction
use Rattle.pg_call.specs.contracts.after.Filling as Filling
use Rattle.pg_call.specs.contracts.after.Lookup as Lookup
use Rattle.pg_call.specs.contracts.after.Rest as Rest
use Rattle.pg_call.specs.contracts.feed.Feed as Feed
use Rattle.pg_call.specs.contracts.request.Request as Request
use Rattle.pg_call.specs.contracts.waiting.Waiting as Waiting
use Rattle.pg_call.specs.contracts.tally.Tally as Tally
use Rattle.pg_call.specs.contracts.reply.Reply as Reply
use Rattle.pg_call.specs.contracts.calling.Call as Call
use Rattle.pg_call.specs.contracts.running.Running as Running
use Rattle.pg_call.proofs.kind.How.TheSendSync as how
use Rattle.pg_call.proofs.kind.Kind.TheSendSync as kind
use Rattle.pg_call.proofs.kind.Keeping.TheSendSync as keeping
use Rattle.pg_call.proofs.statement.Goal.TheSendSync as goal
use Rattle.pg_call.proofs.judging.Part.TheSendSync as part
use Rattle.pg_call.proofs.ledger.Ledger.TheSendSync as ledger
use Rattle.pg_arguments.proofs.CrossingLaws.{wire}
use Rattle.pg_request.proofs.CrossingLaws.{arguments_send, query_send}
use Rattle.pg_columns.proofs.CrossingLaws.{columns_send}
use Rattle.pg_rows.proofs.CrossingLaws.{heading_send, row_send}

ruleset plain = (arguments_send, query_send, how.the_field_send, kind.the_field_send, keeping.the_field_send, goal.the_field_send, part.the_field_send, ledger.the_field_send)

described_send : IsSend Described.the_field.row
described_send = search (columns_send, sendable, wire, crosses) depth 20

extended_send : IsSend Extended.the_field.row
extended_send = search (described_send, plain, wire, sendable, crosses) depth 20

bound_send : IsSend Bound.the_field.row
bound_send = search (columns_send, plain, wire, sendable, crosses) depth 20

prepared_send : IsSend Prepared.the_field.row
prepared_send = search (columns_send, plain, wire, sendable, crosses) depth 20

filling_send : IsSend Filling.the_field.row
filling_send = search (bound_send, wire, sendable, crosses) depth 20

after_send : IsSend After.the_field.row
after_send = search (bound_send, filling_send, prepared_send, sendable, crosses) depth 20

eviction_send : IsSend Eviction.the_field.row
eviction_send = search (after_send, wire, sendable, crosses) depth 20

lookup_send : IsSend Lookup.the_field.row
lookup_send = search (extended_send, wire, sendable, crosses) depth 20

rest_send : IsSend Rest.the_field.row
rest_send = search (extended_send, bound_send, after_send, prepared_send, sendable, crosses) depth 20

feed_send : IsSend Feed.the_field.row
feed_send = search (plain, wire, sendable, crosses) depth 20

pub request_send : IsSend Request.the_field.row
request_send = search (extended_send, bound_send, lookup_send, filling_send, eviction_send, prepared_send, feed_send, plain, wire, sendable, crosses) depth 30 fits 3000

waiting_send : IsSend Waiting.the_field.row
waiting_send = search (rest_send, heading_send, plain, wire, sendable, crosses) depth 20

tally_send : IsSend Tally.the_field.row
tally_send = search (row_send, wire, sendable, crosses) depth 20

reply_send : IsSend Reply.the_field.row
reply_send = search (tally_send, rest_send, heading_send, plain, wire, sendable, crosses) depth 20

call_send : IsSend Call.the_field.row
call_send = search (request_send, waiting_send, reply_send, sendable, crosses) depth 20

pub running_send : IsSend Running.the_field.row
running_send = search (call_send, plain, sendable, crosses) depth 20
