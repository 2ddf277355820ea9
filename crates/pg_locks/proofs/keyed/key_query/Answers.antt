use Rattle.pg_locks.proofs.KeyLaws.{query_is}
use Rattle.pg_locks.proofs.keyed.key_query.Goals as goal

pub returns-in-Ok-with-clause-ok : goal.returns-in-Ok-with-clause-ok
returns-in-Ok-with-clause-ok c = query_is c.args.key c.args.sql.now c.in-Ok.arguments c.in-Ok-with.query c.in-Ok.ensures.ok c.in-Ok-with.ensures.values c.in-Ok-with.ensures.query
