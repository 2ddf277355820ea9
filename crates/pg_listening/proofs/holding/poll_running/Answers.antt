use Rattle.std.proofs.Common.{ap, subst, sym}
use Rattle.pg_conn.specs.Connections.{ConnOf, seen_by}
use Rattle.pg_conn.specs.States.{IsCalling}
use Rattle.pg_conn.specs.Turns.{PollsWithin}
use Rattle.pg_conn.proofs.NewsLaws.{reads_within}
use Rattle.pg_conn.proofs.StateLaws.{calling_runs}
use Rattle.pg_listening.proofs.HeldLaws.{at_held}
use Rattle.pg_listening.proofs.OpenLaws.{turns_open}
use Rattle.pg_listening.proofs.holding.poll_running.Goals as goal

pub poll_call_within-requires-clause-runs : goal.poll_call_within-requires-clause-runs
poll_call_within-requires-clause-runs g c = calling_runs c.requires.calling.0 c.conn_mut.result.now (subst (λ (conn : ConnOf _). IsCalling c.requires.calling.0 conn) (sym c.conn_mut.ensures.value) c.requires.calling.1)

pub returns : goal.returns
returns g c =
    let conn = g.C.PgExecutor.conn in
    let seen = g.C.L.Link.seen in
    let l = c.args.left.now in
    let a = conn c.args.holder.now in
    let poll = c.poll_call_within in
    let written = g.met.C.PgExecutor.written c.args.holder.now poll.new.self in
    let b = conn (g.C.PgExecutor.with_conn c.args.holder.now poll.new.self) in
    let polls = at_held (λ (d e : ConnOf _). PollsWithin l (seen_by seen d) (seen_by seen e) poll.result) a c.conn_mut.result.now b poll.new.self c.conn_mut.ensures.value written poll.ensures.polls in
    record {
      holder = ap (λ x. g.C.PgExecutor.with_conn c.args.holder.now x) (sym written);
      polls = polls;
      left = poll.ensures.left;
      news = reads_within l (seen_by seen a) (seen_by seen b) poll.result polls c.requires.keeping;
      apart = turns_open seen l a b c.requires.calling.0 poll.result c.requires.calling.1 polls;
    }
