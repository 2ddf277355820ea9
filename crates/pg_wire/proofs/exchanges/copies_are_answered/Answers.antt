use Rattle.pg_wire.proofs.ExchangeLaws.{copy_to_the_client_is_answered, broken_copy_is_answered, finished_copy_is_answered}
use Rattle.pg_wire.proofs.exchanges.copies_are_answered.Goals as goal

pub returns-clause-out : goal.returns-clause-out
returns-clause-out c = copy_to_the_client_is_answered

pub returns-clause-broken : goal.returns-clause-broken
returns-clause-broken c = broken_copy_is_answered

pub returns-clause-finished : goal.returns-clause-finished
returns-clause-finished c = finished_copy_is_answered
