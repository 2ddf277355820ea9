use Rattle.pg_startup.proofs.stage.Stage.hear.Goals as goal
use Rattle.pg_wire.proofs.Tests.{if_ok}

pub returns-in-Accepted-clause-ok : goal.returns-in-Accepted-clause-ok
returns-in-Accepted-clause-ok c = rw c.in-Accepted.is (if_ok c.begin_session.result (λ reply h. h c.args.client.now) c.begin_session.ensures.ok)
