use Rattle.std.proofs.Common.{refl, Ok, Err}
use Rattle.pg_migrating.proofs.AskingLaws.{ends_as}
use Rattle.pg_migrating.proofs.asking.Asking+C+Question.poll_end.Goals as goal

pub returns-in-Pending-clause-quiet : goal.returns-in-Pending-clause-quiet
returns-in-Pending-clause-quiet g c =
    let k = c.requires.quiet in
    (k.0, k.1, c.in-Pending.ensures.fits k.0 k.2)

pub returns-in-Ok-clause-tells : goal.returns-in-Ok-clause-tells
returns-in-Ok-clause-tells g c asked first s = ends_as g.C.L.Link.seen asked first (g.C.PgExecutor.conn c.poll.new.self.conn) c.in-Ready.turn (Ok tt) (rw c.in-Ok.is tt) (c.in-Ready.ensures.tells asked first s)

pub returns-in-Err-clause-tells : goal.returns-in-Err-clause-tells
returns-in-Err-clause-tells g c asked first s = ends_as g.C.L.Link.seen asked first (g.C.PgExecutor.conn c.poll.new.self.conn) c.in-Ready.turn (Err c.in-Err.e) (rw c.in-Err.is refl) (c.in-Ready.ensures.tells asked first s)
