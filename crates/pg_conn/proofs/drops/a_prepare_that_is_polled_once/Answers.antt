use Rattle.std.proofs.Common.{rules}
use Rattle.pg_conn.proofs.drops.a_prepare_that_is_polled_once.Goals as goal

pub returns : goal.returns
returns g c = (
  c.poll.new.self.conn.now,
  rw (c.prepare_with-call.ensures.request, c.prepare_with-call.ensures.conn) at c.poll.ensures.polls,
  search rules,
)
