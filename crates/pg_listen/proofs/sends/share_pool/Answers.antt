use denote.Param.Send.{sendable}
use Rattle.pg_conn.proofs.CrossingLaws.{conn_send}
use Rattle.pg_listen.proofs.sends.share_pool.Goals as goal

pub share_pool-requires-send-C : goal.share_pool-requires-send-C
share_pool-requires-send-C g c κs within = let s = c.type_bounds.send-L in search (conn_send, sendable) depth 8
