use Rattle.pg_call.specs.declared.kind.How.TheVariants as hows
use Rattle.pg_call.specs.declared.kind.Kind.TheVariants as kinds
use Rattle.pg_describe.proofs.describing.Describing.poll_nulls.Goals as goal

pub hear-requires-clause-fits : goal.hear-requires-clause-fits
hear-requires-clause-fits g c = c.poll_turn-answer.ensures.fits (kinds.Run hows.FetchAll) c.requires.calling
