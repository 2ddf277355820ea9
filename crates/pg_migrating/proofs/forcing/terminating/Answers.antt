use Rattle.pg_migrating.proofs.ForceLaws.{hides_version, terminates}
use Rattle.pg_migrating.proofs.forcing.terminating.Goals as goal

pub returns-in-Ok-version : goal.returns-in-Ok-version
returns-in-Ok-version c = terminates c.args.turn c.in-Ok.row c.args.database.now c.in-Ok-version.version c.terminate.result (rw c.in-Ok.is at c.into_one.ensures) (rw c.in-Ok-version.is at c.version_in-version.ensures.ok) c.terminate.ensures

pub returns-in-Err-version : goal.returns-in-Err-version
returns-in-Err-version c = hides_version c.args.turn c.in-Ok.row c.args.database.now c.in-Err-version.e (rw c.in-Ok.is at c.into_one.ensures) (rw c.in-Err-version.is at c.version_in-version.ensures.err)
