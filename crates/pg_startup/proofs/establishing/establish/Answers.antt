use Rattle.pg_startup.proofs.EstablishLaws.{begins_by}
use Rattle.pg_startup.proofs.establishing.establish.Goals as goal

pub returns-in-Ok-clause-ok : goal.returns-in-Ok-clause-ok
returns-in-Ok-clause-ok g c = begins_by c.args.options.now c.args.nonce.now (g.L.Link.seen c.args.link).plan c.can_upgrade.result c.is_local.result c.wants-wants.result c.args.link c.in-Ok.prepared c.over.result c.can_upgrade.ensures c.is_local.ensures c.wants-wants.ensures c.in-Ok.ensures.ok c.over.ensures.ok
