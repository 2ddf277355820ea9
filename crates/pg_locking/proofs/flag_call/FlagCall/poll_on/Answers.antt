use Rattle.pg_call.specs.declared.kind.How.TheVariants as hows
use Rattle.pg_call.specs.declared.kind.Kind.TheVariants as kinds
use Rattle.pg_conn.proofs.StateLaws.{poll_fits}
use Rattle.pg_locking.proofs.flag_call.FlagCall.poll_on.Goals as goal

pub hear-requires-clause-fits : goal.hear-requires-clause-fits
hear-requires-clause-fits g c = poll_fits g.L.Link.seen c.args.conn.now c.poll_call-answer.new.self (kinds.Run hows.FetchOne) c.poll_call-answer.result c.poll_call-answer.ensures c.requires.calling
