use Rattle.pg_copying.proofs.OwingLaws.{never_kept}
use Rattle.pg_copying.proofs.pool_drops.an_open_copy_that_is_given_up.Goals as goal

pub returns-clause-releases : goal.returns-clause-releases
returns-clause-releases g c = rw c.into_conn.ensures at c.release.ensures.releases

pub returns-clause-handed : goal.returns-clause-handed
returns-clause-handed g c = never_kept g.G.PoolLedger.most c.args.seat.now c.release.new.seat c.args.copy.conn c.release.result c.requires.open (rw c.into_conn.ensures at c.release.ensures.releases)
