use Rattle.pg_wire.specs.Backend.{ParameterStatus}
use Rattle.pg_stream.specs.Streams.{framed}
use Rattle.pg_stream.proofs.ParameterLaws.{sets_told}
use Rattle.pg_stream.proofs.parameters.Parameters.take.Goals as goal

pub returns-clause-said : goal.returns-clause-said
returns-clause-said c = (ParameterStatus c.in_ok-status.status.name c.in_ok-status.status.value, c.in_ok-status.ensures)

pub returns-clause-sets : goal.returns-clause-sets
returns-clause-sets c = sets_told (framed 83 c.args.body.now) c.in_ok-status.status.name c.in_ok-status.status.value c.args.self.now c.set.new.self c.in_ok-status.ensures c.in_ok-set.ensures.ok
