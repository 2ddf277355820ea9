use Rattle.pg_call.specs.declared.kind.Kind.TheVariants as kinds
use Rattle.pg_conn.proofs.StateLaws.{poll_fits}
use Rattle.pg_locking.proofs.lock_call.LockCall.poll_prepare.Goals as goal

pub hear_prepared-requires-clause-fits : goal.hear_prepared-requires-clause-fits
hear_prepared-requires-clause-fits g c = poll_fits g.L.Link.seen c.args.conn.now c.poll_call-answer.new.self kinds.Prepare c.poll_call-answer.result c.poll_call-answer.ensures c.requires.calling
