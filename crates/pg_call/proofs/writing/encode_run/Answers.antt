use Rattle.pg_exchanges.specs.Answering.{running}
use Rattle.pg_call.specs.Requests.{name_of, parsing_again}
use Rattle.pg_call.proofs.WritingLaws.{both_out, both_said}
use Rattle.pg_call.proofs.writing.encode_run.Goals as goal

pub returns-clause-ok : goal.returns-clause-ok
returns-clause-ok c =
    let bound = c.args.bound.now in
    both_out c.encode_bound.result (parsing_again bound) (running (name_of bound.statement) bound.arguments.values 0) c.args.out.now c.encode_again.new.out c.encode_bound.new.out c.in_ok-encode_again.ensures.ok c.encode_bound.ensures.ok

pub returns-clause-said : goal.returns-clause-said
returns-clause-said c =
    let bound = c.args.bound.now in
    both_said c.encode_bound.result (parsing_again bound) (running (name_of bound.statement) bound.arguments.values 0) c.in_ok-encode_again.ensures.said c.encode_bound.ensures.said
