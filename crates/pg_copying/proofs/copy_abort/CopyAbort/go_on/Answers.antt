use Rattle.std.proofs.Common.{refl}
use Rattle.pg_call.specs.declared.kind.Kind.TheVariants as kinds
use Rattle.pg_call.specs.declared.request.Request.TheVariants as requests
use Rattle.pg_conn.proofs.StateLaws.{next_calling}
use Rattle.pg_copying.proofs.copy_abort.CopyAbort.go_on.Goals as goal

pub into_unit-requires-clause-fits : goal.into_unit-requires-clause-fits
into_unit-requires-clause-fits g c = (c.in-Ready.ensures.fits kinds.Flush (next_calling requests.Flush (g.C.PgExecutor.conn c.args.self.now.conn) refl)).0
