use Rattle.std.proofs.Common.{subst, sym}
use Rattle.pg_conn.specs.Connections.{ConnOf}
use Rattle.pg_locking.specs.Flags.{IsAsking, PollsFlag, StaysAsking}
use Rattle.pg_locking.proofs.HeldLaws.{told_of}
use Rattle.pg_locking.proofs.held_calls.poll_flag.Goals as goal

pub poll-requires : goal.poll-requires
poll-requires g c = subst (λ (conn : ConnOf _). IsAsking c.args.call.now.asking conn) (sym c.conn_mut.ensures.value) c.requires

pub returns-clause-polls : goal.returns-clause-polls
returns-clause-polls g c =
    told_of (λ (a b : ConnOf _). PollsFlag g.C.L.Link.seen c.args.call.now.key c.args.call.now.holds c.args.call.now.asking a b c.poll.new.self.asking c.poll.result) _ _ _ _ c.conn_mut.ensures.value (g.met.C.PgExecutor.written c.args.holder.now c.poll.new.conn) c.poll.ensures.polls

pub returns-clause-stays : goal.returns-clause-stays
returns-clause-stays g c = subst (λ (conn : ConnOf _). StaysAsking c.poll.new.self.asking conn c.poll.result) (sym (g.met.C.PgExecutor.written c.args.holder.now c.poll.new.conn)) c.poll.ensures.stays
