use Rattle.pg_call.proofs.WritingLaws.{closes_out, closes_said}
use Rattle.pg_call.proofs.writing.encode_closing.Goals as goal

pub returns-clause-ok : goal.returns-clause-ok
returns-clause-ok c = closes_out c.encode_sync.result c.args.statements.now c.args.out.now c.close_each.new.out c.encode_sync.new.out c.in_ok-close_each.ensures.ok c.encode_sync.ensures.ok

pub returns-clause-said : goal.returns-clause-said
returns-clause-said c = closes_said c.encode_sync.result c.args.statements.now c.in_ok-close_each.ensures.said
