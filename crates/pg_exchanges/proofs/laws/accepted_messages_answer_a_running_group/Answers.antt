use Rattle.pg_exchanges.proofs.KindLaws.{running_begins, parsed_running_begins}
use Rattle.pg_exchanges.proofs.laws.accepted_messages_answer_a_running_group.Goals as goal

pub returns-clause-prepared : goal.returns-clause-prepared
returns-clause-prepared c = running_begins

pub returns-clause-parsed : goal.returns-clause-parsed
returns-clause-parsed c = parsed_running_begins
