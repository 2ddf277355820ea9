use Rattle.std.proofs.Common.{subst, sym}
use Rattle.pg_conn.specs.Connections.{ConnOf, begun, seen_by}
use Rattle.pg_conn.specs.Feeding.{IsFed}
use Rattle.pg_copying.specs.Feeds.{ReadsOn}
use Rattle.pg_copying.proofs.FeedLaws.{reading_open}
use Rattle.pg_copying.proofs.copy_read.read_held.Goals as goal

pub returns-clause-polls : goal.returns-clause-polls
returns-clause-polls g c =
    let seen = g.C.L.Link.seen in
    subst (λ (b : ConnOf _). ReadsOn (begun (seen_by seen (g.C.PgExecutor.conn c.args.holder.now))) (seen_by seen b) (g.S.Source.seen c.args.source.now) (g.S.Source.seen c.poll_read.new.source) c.poll_read.result) (sym (g.met.C.PgExecutor.written c.args.holder.now c.poll_read.new.conn))
    (subst (λ (a : ConnOf _). ReadsOn (begun (seen_by seen a)) (seen_by seen c.poll_read.new.conn) (g.S.Source.seen c.args.source.now) (g.S.Source.seen c.poll_read.new.source) c.poll_read.result) c.conn_mut.ensures.value c.poll_read.ensures)

pub returns-clause-open : goal.returns-clause-open
returns-clause-open g c =
    let fed = reading_open g.C.L.Link.seen c.conn_mut.result.now c.poll_read.new.conn (g.S.Source.seen c.args.source.now) (g.S.Source.seen c.poll_read.new.source) c.poll_read.result c.poll_read.ensures (subst (λ (conn : ConnOf _). IsFed conn) (sym c.conn_mut.ensures.value) c.requires.open) in
    subst (λ (conn : ConnOf _). IsFed conn) (sym (g.met.C.PgExecutor.written c.args.holder.now c.poll_read.new.conn)) fed
