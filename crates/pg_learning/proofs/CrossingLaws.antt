-- What a connection has learnt may move to another thread.
use denote.Param.Send.{IsSend, sendable}
use Rattle.std.proofs.Crossing.{crosses}
use Rattle.std.proofs.MapsCrossing.{BTreeMap-send}
use Rattle.pg_arguments.proofs.CrossingLaws.{wire, info_send}
use Rattle.pg_resolve.specs.contracts.cache.TypeCache as TypeCache
use Rattle.pg_resolve.specs.contracts.tables.TableCache as TableCache
use Rattle.pg_resolve.specs.contracts.resolver.Resolver as Resolver
use Rattle.pg_resolve.specs.contracts.columns.ColumnResolver as ColumnResolver
use Rattle.pg_resolve.proofs.entry.Entry.TheSendSync as entry
use Rattle.pg_resolve.proofs.row.TypeResolverRow.TheSendSync as row
use Rattle.pg_learning.specs.contracts.learnt.Seeking as Seeking
use Rattle.pg_learning.specs.contracts.learnt.Learnt as Learnt

types_send : IsSend TypeCache.the_row
types_send = search (BTreeMap-send, info_send, wire, sendable, crosses) depth 20

tables_send : IsSend TableCache.the_row
tables_send = search (BTreeMap-send, wire, sendable, crosses) depth 20

resolver_send : IsSend Resolver.the_row
resolver_send = search (BTreeMap-send, entry.the_field_send, row.the_field_send, wire, sendable, crosses) depth 20

names_send : IsSend ColumnResolver.the_row
names_send = search (wire, sendable, crosses) depth 20

seeking_send : IsSend Seeking.the_field.row
seeking_send = search (resolver_send, names_send, sendable, crosses) depth 20

pub learnt_send : IsSend Learnt.the_field.row
learnt_send = search (types_send, tables_send, seeking_send, sendable, crosses) depth 20
