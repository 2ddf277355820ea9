use Rattle.pg_wire.proofs.GroupLaws.{parts_answer}
use Rattle.pg_wire.proofs.ReplyLaws.{frames_answer}
use Rattle.pg_wire.proofs.laws.response_answers_its_group.Goals as goal

pub returns-clause-run : goal.returns-clause-run
returns-clause-run c = parts_answer

pub returns-clause-frames : goal.returns-clause-frames
returns-clause-frames c = frames_answer
