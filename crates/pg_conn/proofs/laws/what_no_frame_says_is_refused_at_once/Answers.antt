use Rattle.pg_conn.proofs.RefusalLaws.{refuses_at_once}
use Rattle.pg_conn.proofs.laws.what_no_frame_says_is_refused_at_once.Goals as goal

pub returns : goal.returns
returns c = refuses_at_once
