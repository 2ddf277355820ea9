use Rattle.pg_wire.proofs.StepLaws.{statement_is_parsed, taken_name_fails}
use Rattle.pg_wire.proofs.laws.parse_complete_adds_the_statement.Goals as goal

pub returns-clause-added : goal.returns-clause-added
returns-clause-added c = statement_is_parsed

pub returns-clause-taken : goal.returns-clause-taken
returns-clause-taken c = taken_name_fails
