use Rattle.std.proofs.Common.{Ok}
use Rattle.pg_migrating.proofs.ForceLaws.{removed_on}
use Rattle.pg_migrating.proofs.forcing.ForceDropDatabase.poll_remove.Goals as goal

pub returns-in-Pending-clause-tells : goal.returns-in-Pending-clause-tells
returns-in-Pending-clause-tells g c asked first (f, same, (m, done, k)) = rw c.requires.step (f, same, (m, done, c.in-Pending.ensures.tells (Ok f.last) m k))

pub returns-in-Ready-clause-tells : goal.returns-in-Ready-clause-tells
returns-in-Ready-clause-tells g c asked first (f, same, (m, done, k)) =
    let new = c.finish.new.self in
    removed_on g.D.L.Link.seen g.D.Sessions.opens asked first m c.poll.new.dial new.dial.now f c.in-Ready.turn new.step new.database new.session c.poll.new.session new.last c.read-end.result c.finish.result c.finish.ensures.dial c.finish.ensures.answer same done c.read-end.ensures (c.in-Ready.ensures.tells (Ok f.last) m k)
