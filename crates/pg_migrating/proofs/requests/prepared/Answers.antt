use Rattle.std.proofs.Common.{ap}
use Rattle.pg_call.specs.Requests.{raw}
use Rattle.pg_migrating.proofs.BoundLaws.{query_is, refuses_query}
use Rattle.pg_migrating.proofs.requests.prepared.Goals as goal

pub returns-in-Ok-with : goal.returns-in-Ok-with
returns-in-Ok-with c bounds h = ap (raw c.args.how) (query_is bounds c.args.sql.now c.in-Ok.arguments c.in-Ok-with.query (rw c.in-Ok.is at h) c.in-Ok-with.ensures.values c.in-Ok-with.ensures.query)

pub returns : goal.returns
returns c bounds h = refuses_query c.args.sql.now bounds c.in-Err-with.e c.in-Err-with.ensures.memory
