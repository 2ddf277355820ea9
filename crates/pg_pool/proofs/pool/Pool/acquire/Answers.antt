use Rattle.std.proofs.Common.{rules}
use Rattle.pg_pool.proofs.pool.Pool.acquire.Goals as goal

pub returns-clause-acquires : goal.returns-clause-acquires
returns-clause-acquires g c = (c.deref_mut.result.now, c.acquire-acquired.new.self, search rules, search rules, c.acquire-acquired.ensures)
