use Rattle.std.proofs.Common.{◌-◌, arith}
use Rattle.pg_request.proofs.TextLaws.{rollback_said}
use Rattle.pg_rule.proofs.OrderLaws.{rolls_open, rolls_nothing, begin_rolls}
use Rattle.pg_rule.proofs.laws.a_rollback_without_a_call_is_one_query_at_most.Goals as goal

pub returns-clause-open : goal.returns-clause-open
returns-clause-open c = rolls_open

pub returns-clause-said : goal.returns-clause-said
returns-clause-said c rule lt = rollback_said (rule.depth - 1) (omega (arith, lt))

pub returns-clause-nothing : goal.returns-clause-nothing
returns-clause-nothing c = rolls_nothing

pub returns-clause-of_a_begin : goal.returns-clause-of_a_begin
returns-clause-of_a_begin c = begin_rolls
