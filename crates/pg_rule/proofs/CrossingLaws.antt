-- What is known of a session may move to another thread.
use denote.Param.Send.{IsSend, sendable}
use Rattle.std.proofs.Crossing.{crosses}
use Rattle.pg_rule.specs.contracts.cache.Entry as Entry
use Rattle.pg_rule.specs.contracts.cache.Cache as Cache
use Rattle.pg_rule.specs.contracts.rule.Rule as Rule
use Rattle.pg_arguments.proofs.CrossingLaws.{wire}
use Rattle.pg_columns.proofs.CrossingLaws.{columns_send}

entry_send : IsSend Entry.the_field.row
entry_send = search (columns_send, wire, sendable, crosses) depth 20

cache_send : IsSend Cache.the_row
cache_send = search (entry_send, sendable, crosses) depth 20

pub rule_send : IsSend Rule.the_field.row
rule_send = search (cache_send, sendable, crosses) depth 20
