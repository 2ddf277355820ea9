use Rattle.pg_rule.proofs.CacheLaws.{last_at}
use Rattle.pg_rule.proofs.cache.Cache.last.Goals as goal

pub returns : goal.returns
returns c = rw (← c.self.view_is, c.last.ensures.value, c.deref.ensures.value) (last_at c.self.inside.entries.items)
