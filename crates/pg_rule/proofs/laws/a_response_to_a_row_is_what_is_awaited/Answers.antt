use Rattle.pg_rule.proofs.RowLaws.{refused_by_row, accepted_by_row}
use Rattle.pg_rule.proofs.laws.a_response_to_a_row_is_what_is_awaited.Goals as goal

pub returns-clause-refused : goal.returns-clause-refused
returns-clause-refused c = refused_by_row

pub returns-clause-accepted : goal.returns-clause-accepted
returns-clause-accepted c = accepted_by_row
