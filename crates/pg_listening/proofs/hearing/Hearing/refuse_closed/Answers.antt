use Rattle.pg_listening.proofs.FailingLaws.{refused_by}
use Rattle.pg_listening.proofs.hearing.Hearing.refuse_closed.Goals as goal

pub returns-clause-refuses : goal.returns-clause-refuses
returns-clause-refuses g c = refused_by _ _ _ _ c.refuse_closed.result c.refuse_closed.ensures.closed
