use Rattle.pg_rule.proofs.OrderLaws.{hit_moves, hit_nothing}
use Rattle.pg_rule.proofs.laws.a_hit_moves_its_statement_to_the_front.Goals as goal

pub returns-clause-moved : goal.returns-clause-moved
returns-clause-moved c = hit_moves

pub returns-clause-unmoved : goal.returns-clause-unmoved
returns-clause-unmoved c = hit_nothing
