use Rattle.std.proofs.Common.{[]}
use Rattle.pg_call.specs.declared.kind.How.TheVariants as hows
use Rattle.pg_migrate.specs.Texts.{list_text}
use Rattle.pg_migrating.proofs.AskingLaws.{calls_prepared}
use Rattle.pg_migrating.proofs.migrate.Migrate.list_applied_migrations.Goals as goal

pub returns-clause-asks : goal.returns-clause-asks
returns-clause-asks g c = c.named-question.ensures [] c.none.ensures

pub returns-clause-calling : goal.returns-clause-calling
returns-clause-calling g c = calls_prepared hows.FetchAll (list_text c.args.table.now) [] c.named-question.result (g.C.PgExecutor.conn c.args.conn) (c.named-question.ensures [] c.none.ensures)
