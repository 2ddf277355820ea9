use Rattle.std.proofs.Common.{refl}
use Rattle.pg_listening.proofs.AloneLaws.{begins_alone}
use Rattle.pg_listening.proofs.alone.connect.Goals as goal

pub returns-in-Ok-pool_of_one-clause-ok : goal.returns-in-Ok-pool_of_one-clause-ok
returns-in-Ok-pool_of_one-clause-ok g c =
    rw (c.ignore_close.ensures, c.connect_with-state.ensures.listener, c.connect_with-state.ensures.over) (begins_alone g.D.Dial.seen g.G.PoolLedger.most c.args.name _ c.in-Ok.options c.args.dial c.in-Ok-pool_of_one.pool c.in-Ok-pool_of_one.seat _ c.in-Ok.ensures c.in-Ok-pool_of_one.ensures.pool c.in-Ok-pool_of_one.ensures.seat refl refl)
