use Rattle.pg_copying.specs.PoolCopies.{left_held}
use Rattle.pg_copying.proofs.LeavingLaws.{released_if_held}
use Rattle.pg_copying.proofs.pool_drops.a_copy_in_that_is_given_up.Goals as goal

pub returns-in-Some-clause-releases : goal.returns-in-Some-clause-releases
returns-in-Some-clause-releases g c = released_if_held g.C.Pooled.clean g.G.PoolLedger.most c.args.seat.now c.release.new.seat (left_held g.C.PgExecutor.conn g.C.PgExecutor.with_conn c.args.copy.request) c.args.copy.conn _ c.release.result c.in-Some.ensures c.release.ensures.releases
