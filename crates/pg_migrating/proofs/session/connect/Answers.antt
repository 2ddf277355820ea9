use Rattle.std.proofs.Common.{refl, sym, ◌∙◌}
use Rattle.pg_migrating.proofs.session.connect.Goals as goal

pub returns-in-Opens-clause-connects : goal.returns-in-Opens-clause-connects
returns-in-Opens-clause-connects g c = rw (← c.session.view_is, sym c.take.ensures.value ∙ c.in-Some.is) (g.D.Conn.PgExecutor.conn c.in-Opens.conn, rw c.take.ensures.after refl, c.in-Opens.ensures.connects)
