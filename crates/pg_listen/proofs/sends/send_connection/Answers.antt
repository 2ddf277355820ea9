use denote.Param.Send.{sendable}
use Rattle.pg_conn.proofs.CrossingLaws.{conn_send}
use Rattle.pg_listen.proofs.sends.send_connection.Goals as goal

pub send_connection-requires-send-C : goal.send_connection-requires-send-C
send_connection-requires-send-C g c κs within = let s = c.type_bounds.send-L in search (conn_send, sendable) depth 8
