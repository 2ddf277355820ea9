use Rattle.std.proofs.Common.{Some, refl}
use Rattle.pg_request.specs.Queries.{plain_text}
use Rattle.pg_call.specs.declared.kind.Kind.TheVariants as kinds
use Rattle.pg_call.specs.declared.request.Request.TheVariants as requests
use Rattle.pg_conn.proofs.StateLaws.{started_calling, started_plainly}
use Rattle.pg_guards.proofs.HolderLaws.{keeps_held}
use Rattle.pg_guards.proofs.transaction.Transaction.begin_with.Goals as goal

pub returns-clause-calling : goal.returns-clause-calling
returns-clause-calling g c = rw c.from_text.ensures (kinds.Begin, tt, started_calling (requests.BeginWith (plain_text c.args.sql)) (g.C.PgExecutor.conn c.args.conn) refl)

pub invariant_of-result : goal.invariant_of-result
invariant_of-result g c =
    let conn = g.C.PgExecutor.conn c.args.conn in
    let r = requests.BeginWith c.from_text.result in
    record { calling = keeps_held g.C.PgExecutor.conn (Some r) (Some c.args.conn) c.args.conn refl (started_plainly r conn (kinds.Begin, tt, started_calling r conn refl)) }
