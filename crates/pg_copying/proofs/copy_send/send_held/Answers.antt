use Rattle.std.proofs.Common.{subst, sym}
use Rattle.pg_conn.specs.Connections.{ConnOf}
use Rattle.pg_conn.specs.Feeding.{IsFed}
use Rattle.pg_copying.proofs.FeedLaws.{sending_open, sending_within}
use Rattle.pg_copying.proofs.copy_send.send_held.Goals as goal

pub returns-clause-within : goal.returns-clause-within
returns-clause-within g c = sending_within g.C.L.Link.seen c.conn_mut.result.now c.poll_send.new.conn c.args.bytes.now c.args.queued c.poll_send.result.0 c.poll_send.result.1 c.requires.within c.poll_send.ensures

pub returns-clause-open : goal.returns-clause-open
returns-clause-open g c =
    let fed = sending_open g.C.L.Link.seen c.conn_mut.result.now c.poll_send.new.conn c.args.bytes.now c.args.queued c.poll_send.result.0 c.poll_send.result.1 c.poll_send.ensures (subst (λ (conn : ConnOf _). IsFed conn) (sym c.conn_mut.ensures.value) c.requires.open) in
    subst (λ (conn : ConnOf _). IsFed conn) (sym (g.met.C.PgExecutor.written c.args.holder.now c.poll_send.new.conn)) fed
