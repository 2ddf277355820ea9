use Rattle.pg_call.specs.declared.request.Request.TheVariants as requests
use Rattle.pg_conn.proofs.StateLaws.{clear_calls, started_plainly}
use Rattle.pg_conn.proofs.connection.PgConnection.clear_cached_statements.Goals as goal

pub returns-clause-calling : goal.returns-clause-calling
returns-clause-calling g c = rw c.new-statements.ensures (clear_calls c.args.self.now)

pub invariant_of-result : goal.invariant_of-result
invariant_of-result g c = record { calling = started_plainly (requests.Clear c.new-statements.result) c.args.self.now (rw c.new-statements.ensures (clear_calls c.args.self.now)) }
