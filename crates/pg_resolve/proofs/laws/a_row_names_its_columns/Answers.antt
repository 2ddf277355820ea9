use Rattle.pg_resolve.proofs.TableLaws.{same_column, row_tells, other_tables_stay, other_columns_stay}
use Rattle.pg_resolve.proofs.laws.a_row_names_its_columns.Goals as goal

pub returns-clause-keys : goal.returns-clause-keys
returns-clause-keys c = same_column

pub returns-clause-named : goal.returns-clause-named
returns-clause-named c = row_tells

pub returns-clause-tables : goal.returns-clause-tables
returns-clause-tables c = other_tables_stay

pub returns-clause-columns : goal.returns-clause-columns
returns-clause-columns c = other_columns_stay
