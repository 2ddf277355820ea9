use Rattle.pg_migrating.proofs.EndLaws.{tells_by}
use Rattle.pg_migrating.proofs.database_statement.DatabaseCall.poll.Goals as goal

pub returns-in-Ready-clause-tells : goal.returns-in-Ready-clause-tells
returns-in-Ready-clause-tells g c asked first s = tells_by g.R.Reading.reads g.R.Reading.misreads g.D.L.Link.seen g.D.Sessions.opens asked first c.poll.new.session c.close.new.self c.poll.new.dial c.in-Ready.turn c.read.result c.read.ensures (c.in-Ready.ensures.tells asked first s)
