use Rattle.pg_wire.specs.declared.status.TransactionStatus.TheVariants as statuses
use Rattle.pg_wire.proofs.SkipLaws.{query_drops, sync_leaves, sync_keeps}
use Rattle.pg_wire.proofs.laws.query_and_sync_clear_the_server.Goals as goal

pub returns-clause-query : goal.returns-clause-query
returns-clause-query c = query_drops

pub returns-clause-sync_idle : goal.returns-clause-sync_idle
returns-clause-sync_idle c old new front = sync_leaves old new front statuses.Idle

pub returns-clause-sync_open : goal.returns-clause-sync_open
returns-clause-sync_open c = sync_keeps
