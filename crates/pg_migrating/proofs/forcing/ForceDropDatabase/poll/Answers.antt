use Rattle.pg_migrating.proofs.forcing.ForceDropDatabase.poll.Goals as goal

pub returns-in-None-clause-tells : goal.returns-in-None-clause-tells
returns-in-None-clause-tells g c asked first k = c.poll_others.ensures.tells asked first (rw c.in-None.ensures.goes.0 at (c.in-None.ensures.tells asked first (rw c.in-Version.is at k)))

pub returns-in-Terminate-clause-tells : goal.returns-in-Terminate-clause-tells
returns-in-Terminate-clause-tells g c asked first k = c.poll_others-in-Terminate.ensures.tells asked first (rw c.in-Terminate.is at k)

pub returns-in-Remove-clause-tells : goal.returns-in-Remove-clause-tells
returns-in-Remove-clause-tells g c asked first k = c.poll_remove.ensures.tells asked first (rw c.in-Remove.is at k)
