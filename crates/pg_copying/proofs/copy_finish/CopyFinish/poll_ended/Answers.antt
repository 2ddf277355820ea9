use Rattle.std.proofs.Common.{None}
use Rattle.pg_call.specs.declared.kind.Kind.TheVariants as kinds
use Rattle.pg_conn.proofs.StateLaws.{not_over}
use Rattle.pg_copying.proofs.copy_finish.CopyFinish.poll_ended.Goals as goal

pub poll_turn-requires : goal.poll_turn-requires
poll_turn-requires g c = not_over kinds.CopyIn None (g.C.PgExecutor.conn c.args.self.now.conn) c.requires

pub counted-requires : goal.counted-requires
counted-requires g c = (c.in-Ready.ensures.fits kinds.CopyIn c.requires).0
