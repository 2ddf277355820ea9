use Rattle.std.proofs.Common.{refl}
use Rattle.pg_migrating.proofs.session.Session.poll_call.Goals as goal

pub returns-clause-polls : goal.returns-clause-polls
returns-clause-polls g c = rw (← c.self.view_is, c.in-Some.is) (g.C.PgExecutor.conn c.poll_within.new.holder, refl, c.poll_within.ensures.polls)
