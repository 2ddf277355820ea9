use Rattle.pg_stream.proofs.ParameterLaws.{sets_unless}
use Rattle.pg_stream.proofs.parameters.Parameters.note.Goals as goal

pub returns-in-Err-clause-sets : goal.returns-in-Err-clause-sets
returns-in-Err-clause-sets c = sets_unless c.memory_alone.result c.in-Err.error c.args.tag c.args.body.now c.args.self.now c.take.new.self c.memory_alone.ensures c.in-Err.ensures.refused c.in-Err.ensures.err c.if-tag-ne83.false
