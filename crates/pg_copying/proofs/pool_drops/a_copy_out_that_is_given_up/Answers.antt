use Rattle.pg_copying.proofs.pool_drops.a_copy_out_that_is_given_up.Goals as goal

pub returns-clause-releases : goal.returns-clause-releases
returns-clause-releases g c = rw c.into_conn.ensures at c.release.ensures.releases
