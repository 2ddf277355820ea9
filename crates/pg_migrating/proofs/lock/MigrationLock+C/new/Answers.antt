use Rattle.std.proofs.Common.{[], refl}
use Rattle.pg_call.specs.declared.kind.How.TheVariants as hows
use Rattle.pg_migrate.specs.Texts.{current_database_text}
use Rattle.pg_migrating.proofs.AskingLaws.{calls_prepared}
use Rattle.pg_migrating.proofs.BoundLaws.{asks_text}
use Rattle.pg_migrating.proofs.lock.MigrationLock+C.new.Goals as goal

pub returns-clause-stands : goal.returns-clause-stands
returns-clause-stands g c =
    let asks = asks_text hows.FetchOne current_database_text c.current_database_text.result.now [] c.prepared-name.result c.current_database_text.ensures (c.prepared-name.ensures [] c.none.ensures) in
    (c.prepared-name.result, asks, (refl, refl))

pub returns-clause-calling : goal.returns-clause-calling
returns-clause-calling g c =
    let asks = c.prepared-name.ensures [] c.none.ensures in
    calls_prepared hows.FetchOne c.current_database_text.result.now [] c.prepared-name.result (g.C.PgExecutor.conn c.args.conn) asks
