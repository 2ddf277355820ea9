use denote.Param.Send.{sendable}
use Rattle.std.proofs.Crossing.{crosses}
use Rattle.pg_stream.proofs.socket_link.SocketLink.TheSendSync as link
use Rattle.pg_options.proofs.options.PgConnectOptions.TheSendSync as options
use Rattle.pg_pool.proofs.CrossingLaws.{pool_sync}
use Rattle.pg_conn.proofs.CrossingLaws.{conn_send}
use Rattle.pool_cases.proofs.live.work_all.Goals as goal

pub map_vec-requires-sync-F : goal.map_vec-requires-sync-F
map_vec-requires-sync-F g c κs within =
    let a = c.type_bounds.send-G in
    let b = c.type_bounds.sync-G in
    let r = c.type_bounds.sync-R in
    search (pool_sync, conn_send, options.the_sync, link.the_send, sendable, crosses) depth 30
