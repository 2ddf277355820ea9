use Rattle.std.proofs.Common.{None}
use Rattle.pg_call.specs.declared.kind.Kind.TheVariants as kinds
use Rattle.pg_conn.proofs.StateLaws.{not_over}
use Rattle.pg_copying.proofs.copy_abort.CopyAbort.poll_failing.Goals as goal

pub poll_turn-answer-requires : goal.poll_turn-answer-requires
poll_turn-answer-requires g c = not_over kinds.Flush None (g.C.PgExecutor.conn c.args.self.now.conn) c.requires.calling

pub hear-requires-clause-fits : goal.hear-requires-clause-fits
hear-requires-clause-fits g c = c.poll_turn-answer.ensures.fits kinds.Flush c.requires.calling
