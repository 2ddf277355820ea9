use Rattle.pg_call.specs.declared.kind.How.TheVariants as hows
use Rattle.pg_migrate.specs.Texts.{create_schema_text}
use Rattle.pg_migrating.proofs.AskingLaws.{calls_script}
use Rattle.pg_migrating.proofs.migrate.Migrate.create_schema_if_not_exists.Goals as goal

pub returns-clause-calling : goal.returns-clause-calling
returns-clause-calling g c = calls_script hows.Execute (create_schema_text c.args.schema.now) c.named_script.result (g.C.PgExecutor.conn c.args.conn) c.named_script.ensures
