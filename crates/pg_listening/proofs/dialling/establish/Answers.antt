use Rattle.pg_listening.proofs.ClosedLaws.{established}
use Rattle.pg_listening.proofs.dialling.establish.Goals as goal

pub returns-in-Ok-clause-ok : goal.returns-in-Ok-clause-ok
returns-in-Ok-clause-ok g c = established g.L.Link.seen _ _ _ (g.L.Link.seen c.args.link).plan _ _ c.establish.result c.requires.mine c.requires.uncalled c.establish.ensures.ok
