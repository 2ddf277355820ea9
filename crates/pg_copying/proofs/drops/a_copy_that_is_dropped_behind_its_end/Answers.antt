use Rattle.pg_call.specs.declared.kind.Kind.TheVariants as kinds
use Rattle.pg_conn.proofs.StateLaws.{calling_runs}
use Rattle.pg_copying.proofs.DropLaws.{fails_no_more}
use Rattle.pg_copying.proofs.drops.a_copy_that_is_dropped_behind_its_end.Goals as goal

pub returns : goal.returns
returns g c = rw (c.into_conn.ensures, g.met.C.PgExecutor.written c.args.state.conn _) (fails_no_more (g.C.PgExecutor.conn c.args.state.conn) (calling_runs kinds.CopyIn (g.C.PgExecutor.conn c.args.state.conn) c.requires.calling) c.requires.fed)
