use Rattle.pg_learning.specs.Texts.{GivenOrNull}
use Rattle.pg_learning.proofs.ReadLaws.{no_column}
use Rattle.pg_learning.proofs.column.column_or_null.Goals as goal

pub returns-in-Err-clause-cause : goal.returns-in-Err-clause-cause
returns-in-Err-clause-cause g c = no_column (GivenOrNull g.T.FromText.means) c.args.values.now c.args.place _ c.in-Err.error _ c.in-Some.ensures c.in-Err.ensures.cause c.column_error.ensures
