use Rattle.pg_wire.proofs.ExchangeLaws.{bare_ready_is_refused, wide_row_is_refused, segment_behind_error_is_refused}
use Rattle.pg_wire.proofs.exchanges.these_are_no_replies.Goals as goal

pub returns-clause-ready : goal.returns-clause-ready
returns-clause-ready c = bare_ready_is_refused

pub returns-clause-wide : goal.returns-clause-wide
returns-clause-wide c = wide_row_is_refused

pub returns-clause-behind_error : goal.returns-clause-behind_error
returns-clause-behind_error c = segment_behind_error_is_refused
