use Rattle.pg_conn.proofs.StateLaws.{commit_calls, started_plainly}
use Rattle.pg_conn.proofs.connection.PgConnection.commit.Goals as goal

pub returns-clause-calling : goal.returns-clause-calling
returns-clause-calling g c = rw c.commit_request-request.ensures (commit_calls c.transaction_depth.result c.args.self.now)

pub invariant_of-result : goal.invariant_of-result
invariant_of-result g c = record { calling = started_plainly c.commit_request-request.result c.args.self.now (rw c.commit_request-request.ensures (commit_calls c.transaction_depth.result c.args.self.now)) }
