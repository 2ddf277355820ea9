use Rattle.pg_learning.proofs.CauseLaws.{type_row_cause, column_row_cause}
use Rattle.pg_learning.proofs.laws.a_row_is_refused_for_cause.Goals as goal

pub returns-clause-types : goal.returns-clause-types
returns-clause-types c = type_row_cause

pub returns-clause-columns : goal.returns-clause-columns
returns-clause-columns c = column_row_cause
