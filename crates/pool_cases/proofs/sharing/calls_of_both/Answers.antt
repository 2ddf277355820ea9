use denote.Param.Send.{sendable}
use Rattle.std.proofs.Crossing.{crosses}
use Rattle.pg_stream.proofs.memory.MemoryLink.TheSendSync as link
use Rattle.pg_pool.proofs.seat.PoolSeat.TheSendSync as seat
use Rattle.pg_options.proofs.options.PgConnectOptions.TheSendSync as options
use Rattle.pg_pool.proofs.CrossingLaws.{pool_sync}
use Rattle.pg_conn.proofs.CrossingLaws.{conn_send}
use Rattle.pool_cases.proofs.sharing.calls_of_both.Goals as goal

pub join-one-requires-send-F : goal.join-one-requires-send-F
join-one-requires-send-F g c κs within =
    let a = c.type_bounds.send-G in
    let b = c.type_bounds.sync-G in
    let r = c.type_bounds.sync-R in
    search (pool_sync, conn_send, options.the_sync, link.the_send, seat.the_send, sendable, crosses) depth 30
