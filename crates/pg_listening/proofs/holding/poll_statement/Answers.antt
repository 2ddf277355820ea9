use Rattle.std.proofs.Common.{ap, subst, sym}
use Rattle.futures.specs.declared.task.Poll.TheVariants.{Pending, Ready}
use Rattle.pg_call.specs.Answers.{total_turn}
use Rattle.pg_call.specs.declared.kind.How.TheVariants as hows
use Rattle.pg_call.specs.declared.kind.Kind.TheVariants as kinds
use Rattle.pg_conn.specs.Connections.{ConnOf, seen_by}
use Rattle.pg_conn.specs.States.{IsCalling, turn_of}
use Rattle.pg_conn.specs.Turns.{PollsWithin}
use Rattle.pg_conn.proofs.NewsLaws.{reads_within}
use Rattle.pg_conn.proofs.StateLaws.{calling_runs, poll_fits_within}
use Rattle.pg_listening.proofs.HeldLaws.{at_held}
use Rattle.pg_listening.proofs.OpenLaws.{statement_open}
use Rattle.pg_listening.proofs.holding.poll_statement.Goals as goal

pub poll_call_within-requires-clause-runs : goal.poll_call_within-requires-clause-runs
poll_call_within-requires-clause-runs g c = calling_runs (kinds.Run hows.Execute) c.conn_mut.result.now (subst (λ (conn : ConnOf _). IsCalling (kinds.Run hows.Execute) conn) (sym c.conn_mut.ensures.value) c.requires.calling)

pub into_total-requires : goal.into_total-requires
into_total-requires g c = (poll_fits_within g.C.L.Link.seen c.args.left.now c.conn_mut.result.now c.poll_call_within.new.self (kinds.Run hows.Execute) (Ready c.in-Ready.turn) c.in-Ready.ensures.polls (subst (λ (conn : ConnOf _). IsCalling (kinds.Run hows.Execute) conn) (sym c.conn_mut.ensures.value) c.requires.calling)).0

pub returns-in-Pending : goal.returns-in-Pending
returns-in-Pending g c =
    let conn = g.C.PgExecutor.conn in
    let seen = g.C.L.Link.seen in
    let kind = kinds.Run hows.Execute in
    let l = c.args.left.now in
    let a = conn c.args.holder.now in
    let new = c.poll_call_within.new.self in
    let written = g.met.C.PgExecutor.written c.args.holder.now new in
    let b = conn (g.C.PgExecutor.with_conn c.args.holder.now new) in
    let polls = at_held (λ (d e : ConnOf _). PollsWithin l (seen_by seen d) (seen_by seen e) Pending) a c.conn_mut.result.now b new c.conn_mut.ensures.value written c.in-Pending.ensures.polls in
    record {
      holder = ap (λ x. g.C.PgExecutor.with_conn c.args.holder.now x) (sym written);
      polls = polls;
      left = c.in-Pending.ensures.left;
      calling = poll_fits_within seen l a b kind Pending polls c.requires.calling;
      news = reads_within l (seen_by seen a) (seen_by seen b) Pending polls c.requires.keeping;
      apart = tt;
    }

pub returns-in-Ready : goal.returns-in-Ready
returns-in-Ready g c =
    let conn = g.C.PgExecutor.conn in
    let seen = g.C.L.Link.seen in
    let kind = kinds.Run hows.Execute in
    let l = c.args.left.now in
    let a = conn c.args.holder.now in
    let new = c.poll_call_within.new.self in
    let written = g.met.C.PgExecutor.written c.args.holder.now new in
    let b = conn (g.C.PgExecutor.with_conn c.args.holder.now new) in
    let told = Ready c.into_total.result in
    let first = rw c.into_total.ensures at c.in-Ready.ensures.polls in
    let polls = at_held (λ (d e : ConnOf _). PollsWithin l (seen_by seen d) (seen_by seen e) (turn_of total_turn told)) a c.conn_mut.result.now b new c.conn_mut.ensures.value written first in
    record {
      holder = ap (λ x. g.C.PgExecutor.with_conn c.args.holder.now x) (sym written);
      polls = polls;
      left = c.in-Ready.ensures.left;
      calling = poll_fits_within seen l a b kind (turn_of total_turn told) polls c.requires.calling;
      news = reads_within l (seen_by seen a) (seen_by seen b) (turn_of total_turn told) polls c.requires.keeping;
      apart = statement_open seen l a b kind told c.requires.calling polls;
    }
