use Rattle.pg_rule.proofs.RowLaws.{asks_ping}
use Rattle.pg_rule.proofs.laws.a_ping_is_one_sync.Goals as goal

pub returns : goal.returns
returns c = asks_ping
