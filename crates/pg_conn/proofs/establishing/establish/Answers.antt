use Rattle.pg_conn.proofs.establishing.establish.Goals as goal

pub returns-in-Ok-clause-ok : goal.returns-in-Ok-clause-ok
returns-in-Ok-clause-ok g c = rw c.over.ensures.startup c.in-Ok.ensures.ok
