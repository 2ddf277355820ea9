use Rattle.std.proofs.Common.{◌∷◌, []}
use Rattle.pg_call.specs.declared.kind.How.TheVariants as hows
use Rattle.pg_migrate.specs.Orders.{Int8, Words, Bytes}
use Rattle.pg_migrate.specs.Texts.{insert_row_text}
use Rattle.pg_migrating.proofs.AskingLaws.{calls_prepared}
use Rattle.pg_migrating.proofs.migrate.Migrate.skip.Goals as goal

pub returns-clause-calling : goal.returns-clause-calling
returns-clause-calling g c =
    let m = c.args.migration.now in
    calls_prepared hows.Execute (insert_row_text c.args.table.now) (Int8 m.version ∷ Words m.description ∷ Bytes m.checksum ∷ []) c.insert_row.result (g.C.PgExecutor.conn c.args.conn) c.insert_row.ensures
