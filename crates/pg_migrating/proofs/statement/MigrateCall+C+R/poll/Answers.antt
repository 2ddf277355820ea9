use Rattle.pg_migrating.proofs.AnswerLaws.{ends_told, tells_by}
use Rattle.pg_migrating.proofs.statement.MigrateCall+C+R.poll.Goals as goal

pub returns-in-Ready-clause-tells : goal.returns-in-Ready-clause-tells
returns-in-Ready-clause-tells g c asked first s =
    let end = ends_told g.R.Reading.reads g.R.Reading.misreads c.in-Ready.turn c.read.result c.told.result c.read.ensures c.told.ensures in
    tells_by g.R.Reading.reads g.R.Reading.misreads g.C.L.Link.seen asked first (g.C.PgExecutor.conn c.poll.new.self.conn) c.in-Ready.turn c.told.result end (c.in-Ready.ensures.tells asked first s)
