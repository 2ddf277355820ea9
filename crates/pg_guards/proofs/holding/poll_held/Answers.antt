use Rattle.std.proofs.Common.{◌≡◌, subst, sym}
use Rattle.pg_call.specs.Answers.{unit_turn}
use Rattle.pg_conn.specs.Connections.{ConnOf, begun_by, is_over}
use Rattle.pg_conn.specs.States.{IsCallingPlainly, KeepsCallingPlainly, PollFitsPlainly, ends_call, turn_of}
use Rattle.pg_guards.proofs.HolderLaws.{polled_within}
use Rattle.pg_guards.proofs.holding.poll_held.Goals as goal

pub poll_unit-requires-clause-calling : goal.poll_unit-requires-clause-calling
poll_unit-requires-clause-calling g c = subst (λ (conn : ConnOf _). KeepsCallingPlainly c.args.request.now conn) (sym c.conn_mut.ensures.value) c.requires.calling

pub returns-clause-polls : goal.returns-clause-polls
returns-clause-polls g c =
    polled_within g.C.L.Link.seen c.args.request.now c.conn_mut.result.now c.poll_unit.new.conn (g.C.PgExecutor.conn c.args.holder.now) (g.C.PgExecutor.conn (g.C.PgExecutor.with_conn c.args.holder.now c.poll_unit.new.conn))
    (turn_of unit_turn c.poll_unit.result) c.conn_mut.ensures.value (g.met.C.PgExecutor.written c.args.holder.now c.poll_unit.new.conn) c.poll_unit.ensures.polls

pub returns-clause-over : goal.returns-clause-over
returns-clause-over g c =
    subst (λ (conn : ConnOf _). is_over c.poll_unit.new.request conn.call ≡ ends_call (turn_of unit_turn c.poll_unit.result)) (sym (g.met.C.PgExecutor.written c.args.holder.now c.poll_unit.new.conn)) c.poll_unit.ensures.over

pub returns-clause-keeps : goal.returns-clause-keeps
returns-clause-keeps g c =
    subst (λ (conn : ConnOf _). KeepsCallingPlainly c.poll_unit.new.request conn) (sym (g.met.C.PgExecutor.written c.args.holder.now c.poll_unit.new.conn)) c.poll_unit.ensures.keeps

pub returns-clause-calling : goal.returns-clause-calling
returns-clause-calling g c calling =
    subst (λ (conn : ConnOf _). PollFitsPlainly conn (turn_of unit_turn c.poll_unit.result)) (sym (g.met.C.PgExecutor.written c.args.holder.now c.poll_unit.new.conn))
    (c.poll_unit.ensures.calling (subst (λ (conn : ConnOf _). IsCallingPlainly (begun_by c.args.request.now conn)) (sym c.conn_mut.ensures.value) calling))
