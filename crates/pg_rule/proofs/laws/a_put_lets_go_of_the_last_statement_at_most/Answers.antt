use Rattle.pg_rule.proofs.OrderLaws.{put_full, put_found}
use Rattle.pg_rule.proofs.laws.a_put_lets_go_of_the_last_statement_at_most.Goals as goal

pub returns-clause-full : goal.returns-clause-full
returns-clause-full c = put_full

pub returns-clause-found : goal.returns-clause-found
returns-clause-found c = put_found
