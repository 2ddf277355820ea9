use Rattle.std.proofs.Common.{refl}
use Rattle.pg_migrating.proofs.opening.AnySessions.new_session.Goals as goal

pub returns : goal.returns
returns g c = record { stands = λ d. (refl, refl); goes = λ kind k. k }
