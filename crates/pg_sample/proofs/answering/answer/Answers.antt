use Rattle.pg_sample.proofs.AnswerLaws.{answer_is}
use Rattle.pg_sample.proofs.answering.answer.Goals as goal

pub returns : goal.returns
returns c = answer_is c.args.value.now _ (rw c.row_head-head.ensures at c.joined.ensures)
