use Rattle.pg_rule.proofs.RowLaws.{asks_clear}
use Rattle.pg_rule.proofs.laws.a_clear_is_one_group_of_closes.Goals as goal

pub returns : goal.returns
returns c = asks_clear
