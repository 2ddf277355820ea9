use Rattle.pg_wire.proofs.ExchangeLaws.{empty_query_is_answered, two_segments_are_answered, failed_query_is_answered, late_error_is_answered}
use Rattle.pg_wire.proofs.exchanges.query_texts_are_answered.Goals as goal

pub returns-clause-empty : goal.returns-clause-empty
returns-clause-empty c = empty_query_is_answered

pub returns-clause-two : goal.returns-clause-two
returns-clause-two c = two_segments_are_answered

pub returns-clause-error : goal.returns-clause-error
returns-clause-error c = failed_query_is_answered

pub returns-clause-late : goal.returns-clause-late
returns-clause-late c = late_error_is_answered
