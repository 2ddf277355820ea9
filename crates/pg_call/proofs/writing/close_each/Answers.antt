use Rattle.pg_call.proofs.WritingLaws.{closed_none, closed_next, closed_all}
use Rattle.pg_call.proofs.writing.close_each.Goals as goal

pub loop-statement-init : goal.loop-statement-init
loop-statement-init c = closed_none c.args.statements.now c.args.out.now

pub loop-statement-preserved : goal.loop-statement-preserved
loop-statement-preserved c = closed_next c.args.statements.now c.loop-statement.statement-index c.statement-item.result c.args.out.now c.loop-statement.out c.encode_close_statement.new.out c.loop-statement-test.true c.statement-item.is c.loop-statement.invariant c.in_ok-encode_close_statement.ensures.ok c.in_ok-encode_close_statement.ensures.whole.0

pub returns-clause-ok : goal.returns-clause-ok
returns-clause-ok c = (closed_all c.args.statements.now c.loop-statement.statement-index c.args.out.now c.loop-statement.out c.loop-statement-test.false c.loop-statement.invariant).out

pub returns-clause-said : goal.returns-clause-said
returns-clause-said c = (closed_all c.args.statements.now c.loop-statement.statement-index c.args.out.now c.loop-statement.out c.loop-statement-test.false c.loop-statement.invariant).said
