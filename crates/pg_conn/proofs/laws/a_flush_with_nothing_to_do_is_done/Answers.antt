use Rattle.pg_conn.proofs.RefusalLaws.{flushes_at_once}
use Rattle.pg_conn.proofs.laws.a_flush_with_nothing_to_do_is_done.Goals as goal

pub returns : goal.returns
returns c = flushes_at_once
