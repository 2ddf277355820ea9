use Rattle.std.proofs.Common.{inl, refl, sym, ◌∙◌}
use Rattle.pg_call.specs.declared.kind.How.TheVariants as hows
use Rattle.pg_call.specs.declared.kind.Kind.TheVariants as kinds
use Rattle.pg_call.specs.declared.request.Request.TheVariants as requests
use Rattle.pg_conn.proofs.StateLaws.{next_calling}
use Rattle.pg_describe.proofs.describing.Describing.go_on.Goals as goal

pub hear-requires-clause-fits : goal.hear-requires-clause-fits
hear-requires-clause-fits g c = c.poll_next-answer.ensures.fits (kinds.Run hows.FetchAll) (next_calling (requests.FetchAll c.in-Ok-Some.query) (g.C.PgExecutor.conn c.args.self.now.conn) refl)

pub returns-in-Ok-None-clause-goes : goal.returns-in-Ok-None-clause-goes
returns-in-Ok-None-clause-goes g c =
    inl (refl, (sym c.columns.ensures ∙ (rw c.in-Ok-None.field-0-is at c.in-Ok-None.ensures.ok), c.requires.told, (c.new-in-Ok-None.result, refl, c.new-in-Ok-None.ensures.statement, c.new-in-Ok-None.ensures.nullable ∙ c.new.ensures.items)))
