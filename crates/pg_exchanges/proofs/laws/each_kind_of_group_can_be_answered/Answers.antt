use Rattle.pg_exchanges.proofs.KindLaws.{able_to_describe, able_to_run, able_to_parse_and_run, able_to_close}
use Rattle.pg_exchanges.proofs.laws.each_kind_of_group_can_be_answered.Goals as goal

pub returns-clause-described : goal.returns-clause-described
returns-clause-described c = able_to_describe

pub returns-clause-run : goal.returns-clause-run
returns-clause-run c = able_to_run

pub returns-clause-parsed_and_run : goal.returns-clause-parsed_and_run
returns-clause-parsed_and_run c = able_to_parse_and_run

pub returns-clause-closed : goal.returns-clause-closed
returns-clause-closed c = able_to_close
