use Rattle.std.proofs.Common.{refl}
use Rattle.pg_call.specs.declared.request.Request.TheVariants as requests
use Rattle.pg_conn.proofs.StateLaws.{started_calling}
use Rattle.pg_copying.specs.Copies.{unfed_copy}
use Rattle.pg_copying.proofs.copy_in.copy_in_raw.Goals as goal

pub returns-clause-calling : goal.returns-clause-calling
returns-clause-calling g c = rw (c.new-feed.ensures, c.from_text.ensures) (started_calling (requests.CopyIn (unfed_copy c.args.statement)) (g.C.PgExecutor.conn c.args.conn) refl)
