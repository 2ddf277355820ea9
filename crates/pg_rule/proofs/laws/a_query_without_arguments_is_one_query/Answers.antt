use Rattle.pg_rule.proofs.RowLaws.{asks_run}
use Rattle.pg_rule.proofs.laws.a_query_without_arguments_is_one_query.Goals as goal

pub returns : goal.returns
returns c = asks_run
