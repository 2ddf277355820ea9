-- Threads may share a pool where what it keeps may move between them.
use denote.RattleType.{RattleType}
use denote.Param.Send.{IsSend, IsSync, sendable}
use Rattle.std.proofs.Crossing.{crosses}
use Rattle.std.specs.declared.sync.ledger.Ledger as counting
use Rattle.pg_pool.proofs.sections.PoolCore.TheSendSync as core
use Rattle.pg_pool.specs.declared.ledger.PoolLedger as counting_most
use Rattle.pg_pool.specs.declared.pooled.Pooled as pooled
use Rattle.pg_pool.specs.contracts.pool.Pool as Pool

module _ (G C O : RattleType) (m : counting_most.Ghosts G.Denot) (g : counting.Ghosts G.Denot) (p : pooled.Ghosts C.Denot) where
  pub pool_sync : IsSend G → IsSync G → IsSend C → IsSync O → IsSync (Pool.the_row G C O m g p)
  pool_sync a b s o = search (core.the_send, sendable, crosses) depth 20
