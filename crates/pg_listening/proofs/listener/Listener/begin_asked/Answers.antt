use Rattle.std.proofs.Common.{refl}
use Rattle.pg_listening.proofs.HearingLaws.{hears_nothing}
use Rattle.pg_listening.proofs.listener.Listener.begin_asked.Goals as goal

pub returns-in-None-clause-hears : goal.returns-in-None-clause-hears
returns-in-None-clause-hears g c = hears_nothing g.B.L.Link.seen _ _ refl
