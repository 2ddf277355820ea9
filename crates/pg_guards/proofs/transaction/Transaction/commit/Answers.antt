use Rattle.pg_conn.proofs.StateLaws.{commit_calls, started_plainly}
use Rattle.pg_guards.proofs.transaction.Transaction.commit.Goals as goal

pub returns-clause-calling : goal.returns-clause-calling
returns-clause-calling g c = rw c.commit_request-request.ensures (commit_calls c.transaction_depth.result (g.C.PgExecutor.conn c.args.self.conn))

pub invariant_of-result : goal.invariant_of-result
invariant_of-result g c =
    let conn = g.C.PgExecutor.conn c.args.self.conn in
    record { calling = started_plainly c.commit_request-request.result conn (rw c.commit_request-request.ensures (commit_calls c.transaction_depth.result conn)) }
