use Rattle.std.proofs.Common.{None}
use Rattle.pg_call.specs.declared.kind.Kind.TheVariants as kinds
use Rattle.pg_conn.proofs.StateLaws.{not_over}
use Rattle.pg_copying.proofs.copy_abort.CopyAbort.poll_failed.Goals as goal

pub poll_turn-requires : goal.poll_turn-requires
poll_turn-requires g c = not_over kinds.Flush None (g.C.PgExecutor.conn c.args.self.now.conn) c.requires.calling

pub into_unit-requires-clause-fits : goal.into_unit-requires-clause-fits
into_unit-requires-clause-fits g c = (c.in-Ready.ensures.fits kinds.Flush c.requires.calling).0
