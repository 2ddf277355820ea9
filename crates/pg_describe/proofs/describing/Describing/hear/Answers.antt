use Rattle.pg_describe.proofs.DescribingLaws.{fits_nulls, hears_stays}
use Rattle.pg_describe.proofs.describing.Describing.hear.Goals as goal

pub hear-answer-requires : goal.hear-answer-requires
hear-answer-requires g c = fits_nulls (g.C.PgExecutor.conn c.args.self.now.conn) c.args.answer c.requires.fits

pub returns-clause-stays : goal.returns-clause-stays
returns-clause-stays g c = hears_stays (g.C.PgExecutor.conn c.args.self.now.conn) c.args.statement c.args.answer _ _ c.requires.fits c.hear-answer.ensures
