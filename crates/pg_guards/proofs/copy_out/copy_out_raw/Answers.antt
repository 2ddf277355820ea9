use Rattle.std.proofs.Common.{refl}
use Rattle.pg_request.specs.Queries.{plain_text}
use Rattle.pg_call.specs.declared.request.Request.TheVariants as requests
use Rattle.pg_conn.proofs.StateLaws.{started_calling, started_keeps}
use Rattle.pg_guards.proofs.copy_out.copy_out_raw.Goals as goal

pub returns-clause-calling : goal.returns-clause-calling
returns-clause-calling g c = rw c.from_text.ensures (started_calling (requests.CopyOut (plain_text c.args.statement)) (g.C.PgExecutor.conn c.args.conn) refl)

pub invariant_of-result : goal.invariant_of-result
invariant_of-result g c = record { calling = started_keeps (requests.CopyOut c.from_text.result) (g.C.PgExecutor.conn c.args.conn) refl }
