use Rattle.pg_guards.proofs.drops.a_commit_that_is_never_polled.Goals as goal

pub returns : goal.returns
returns g c = rw (c.commit.ensures.conn, c.commit.ensures.due) at c.into_conn.ensures
