use Rattle.pg_learning.specs.Texts.{Given}
use Rattle.pg_learning.proofs.ReadLaws.{no_column}
use Rattle.pg_learning.proofs.column.column.Goals as goal

pub returns-in-Err-clause-cause : goal.returns-in-Err-clause-cause
returns-in-Err-clause-cause g c = no_column (Given g.T.FromText.means) c.args.values.now c.args.place _ c.in-Err.error _ c.in-Some.ensures c.in-Err.ensures.cause c.column_error.ensures
