use Rattle.pg_learning.proofs.UniqueLaws.{type_row_unique, column_row_unique}
use Rattle.pg_learning.proofs.laws.a_row_is_read_in_one_way.Goals as goal

pub returns-clause-types : goal.returns-clause-types
returns-clause-types c = type_row_unique

pub returns-clause-columns : goal.returns-clause-columns
returns-clause-columns c = column_row_unique
