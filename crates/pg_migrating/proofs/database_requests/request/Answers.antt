use Rattle.std.proofs.Common.{[], ◌∷◌, refl, sym}
use Rattle.pg_call.specs.declared.kind.How.TheVariants as hows
use Rattle.pg_migrate.specs.Orders.{Words}
use Rattle.pg_migrate.specs.Texts.{database_exists_text, version_text}
use Rattle.pg_migrating.proofs.BoundLaws.{asks_text}
use Rattle.pg_migrating.proofs.database_requests.request.Goals as goal

pub returns-in-Exists : goal.returns-in-Exists
returns-in-Exists c =
    let bounds = Words c.args.database.now ∷ [] in
    rw c.in-Exists.is (asks_text hows.FetchOne database_exists_text c.database_exists_text.result.now bounds c.prepared.result c.database_exists_text.ensures (c.prepared.ensures bounds (c.bind-name.ensures [] (Words c.args.database.now) refl (sym c.as_bytes.ensures.value) c.none.ensures)))

pub returns-in-Version : goal.returns-in-Version
returns-in-Version c = rw c.in-Version.is (asks_text hows.FetchOne version_text c.version_text.result.now [] c.prepared-in-Version.result c.version_text.ensures (c.prepared-in-Version.ensures [] c.none-in-Version.ensures))
