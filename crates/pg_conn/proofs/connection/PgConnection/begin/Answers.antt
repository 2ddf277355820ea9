use Rattle.std.proofs.Common.{refl}
use Rattle.pg_call.specs.declared.kind.Kind.TheVariants as kinds
use Rattle.pg_call.specs.declared.request.Request.TheVariants as requests
use Rattle.pg_conn.proofs.StateLaws.{started_calling, started_plainly}
use Rattle.pg_conn.proofs.connection.PgConnection.begin.Goals as goal

pub returns-clause-calling : goal.returns-clause-calling
returns-clause-calling g c = (kinds.Begin, tt, started_calling (requests.Begin c.transaction_depth.result) c.args.self.now refl)

pub invariant_of-result : goal.invariant_of-result
invariant_of-result g c = record { calling = started_plainly (requests.Begin c.transaction_depth.result) c.args.self.now (kinds.Begin, tt, started_calling (requests.Begin c.transaction_depth.result) c.args.self.now refl) }
