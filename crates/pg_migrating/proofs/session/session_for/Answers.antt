use Rattle.std.proofs.Common.{refl}
use Rattle.pg_migrating.proofs.session.session_for.Goals as goal

pub returns : goal.returns
returns g c = (c.new_session.result, refl, c.new_session.ensures)
