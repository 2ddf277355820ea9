use Rattle.pg_conn.proofs.connection.PgConnection.look_up.Goals as goal

pub returns-in-Ok-clause-err : goal.returns-in-Ok-clause-err
returns-in-Ok-clause-err g c = rw c.in-Ok.ensures.ok c.look_for.ensures.err
