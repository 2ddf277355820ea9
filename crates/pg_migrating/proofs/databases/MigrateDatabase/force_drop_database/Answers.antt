use Rattle.std.proofs.Common.{Err, Ok, refl}
use Rattle.pg_migrating.proofs.ForceLaws.{force_goes}
use Rattle.pg_migrating.proofs.databases.MigrateDatabase.force_drop_database.Goals as goal

pub returns-in-Ok-clause-asks : goal.returns-in-Ok-clause-asks
returns-in-Ok-clause-asks g c = (Ok c.in-Ok.field-0, c.session_for.ensures, (refl, c.session_for-in-Ok.ensures), c.in-Ok.ensures)

pub returns-in-Ok-clause-goes : goal.returns-in-Ok-clause-goes
returns-in-Ok-clause-goes g c =
    let f = c.in-Ok.field-0 in
    force_goes g.D.L.Link.seen g.D.Sessions.opens c.args.env.now c.args.url.now f.database c.session_for.result c.session_for-in-Ok.result (Ok f, c.session_for.ensures, (refl, c.session_for-in-Ok.ensures), c.in-Ok.ensures)

pub returns-in-Err-clause-asks : goal.returns-in-Err-clause-asks
returns-in-Err-clause-asks g c = (Err c.in-Err.e, c.session_for-in-Err.ensures, c.session_for-in-Err-2.ensures, c.in-Err.ensures)

pub returns-in-Err-clause-goes : goal.returns-in-Err-clause-goes
returns-in-Err-clause-goes g c = force_goes g.D.L.Link.seen g.D.Sessions.opens c.args.env.now c.args.url.now c.new.result c.session_for-in-Err.result c.session_for-in-Err-2.result (Err c.in-Err.e, c.session_for-in-Err.ensures, c.session_for-in-Err-2.ensures, c.in-Err.ensures)
