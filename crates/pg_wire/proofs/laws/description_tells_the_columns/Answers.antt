use Rattle.pg_wire.proofs.StepLaws.{columns_are_told, no_columns_are_told}
use Rattle.pg_wire.proofs.laws.description_tells_the_columns.Goals as goal

pub returns-clause-columns : goal.returns-clause-columns
returns-clause-columns c = columns_are_told

pub returns-clause-no_data : goal.returns-clause-no_data
returns-clause-no_data c = no_columns_are_told
