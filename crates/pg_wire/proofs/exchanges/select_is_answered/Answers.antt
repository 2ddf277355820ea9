use Rattle.pg_wire.proofs.ExchangeLaws.{select_is_answered}
use Rattle.pg_wire.proofs.exchanges.select_is_answered.Goals as goal

pub returns-clause-replies : goal.returns-clause-replies
returns-clause-replies c = select_is_answered
