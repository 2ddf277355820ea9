use Rattle.pg_conn.proofs.HoldingLaws.{takes_none}
use Rattle.pg_conn.proofs.laws.where_no_lock_is_held_none_is_released.Goals as goal

pub returns : goal.returns
returns c a unlock e = takes_none unlock a e
