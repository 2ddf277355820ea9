use Rattle.pg_wire.proofs.ExchangeLaws.{no_columns_are_described, column_is_described_and_executed, failed_parse_is_answered, failed_end_is_answered}
use Rattle.pg_wire.proofs.exchanges.extended_groups_are_answered.Goals as goal

pub returns-clause-no_columns : goal.returns-clause-no_columns
returns-clause-no_columns c = no_columns_are_described

pub returns-clause-executed : goal.returns-clause-executed
returns-clause-executed c = column_is_described_and_executed

pub returns-clause-parse_fails : goal.returns-clause-parse_fails
returns-clause-parse_fails c = failed_parse_is_answered

pub returns-clause-end_fails : goal.returns-clause-end_fails
returns-clause-end_fails c = failed_end_is_answered
