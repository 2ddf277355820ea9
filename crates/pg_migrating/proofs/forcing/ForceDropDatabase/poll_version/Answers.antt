use Rattle.std.proofs.Common.{refl}
use Rattle.pg_call.specs.declared.kind.How.TheVariants as hows
use Rattle.pg_call.specs.declared.kind.Kind.TheVariants as kinds
use Rattle.pg_migrating.specs.Forcing.{version_in}
use Rattle.pg_migrating.proofs.ForceLaws.{version_fails, version_goes, version_tells}
use Rattle.pg_migrating.proofs.forcing.ForceDropDatabase.poll_version.Goals as goal

pub returns-in-Ok-clause-goes : goal.returns-in-Ok-clause-goes
returns-in-Ok-clause-goes g c =
    let old = c.args.self.now in
    (refl, version_goes g.D.L.Link.seen g.D.Sessions.opens c.in-Ready.turn old.database c.in-Ok.demand c.poll.new.session c.ask.new.self old.last (rw c.as_str.ensures at c.in-Ok.ensures) c.ask.ensures (c.in-Ready.ensures.goes (kinds.Run hows.FetchOne) c.requires.goes.0) c.requires.goes.1)

pub returns-in-Ok-clause-tells : goal.returns-in-Ok-clause-tells
returns-in-Ok-clause-tells g c asked first k =
    let old = c.args.self.now in
    version_tells g.D.L.Link.seen g.D.Sessions.opens asked first c.poll.new.dial c.in-Ready.turn old.database c.in-Ok.demand c.poll.new.session c.ask.new.self old.last (rw c.as_str.ensures at c.in-Ok.ensures) c.ask.ensures (c.in-Ready.ensures.tells (version_in asked) first k.0) k.1

pub returns-in-Err-clause-goes : goal.returns-in-Err-clause-goes
returns-in-Err-clause-goes g c = rw c.finish.ensures.answer c.finish.ensures.step

pub returns-in-Err-clause-tells : goal.returns-in-Err-clause-tells
returns-in-Err-clause-tells g c asked first k =
    let new = c.finish.new.self in
    rw (c.finish.ensures.answer, c.finish.ensures.dial) (version_fails g.D.L.Link.seen g.D.Sessions.opens asked first c.poll.new.dial c.in-Ready.turn c.args.self.now.database new.database c.poll.new.session new.session new.last new.step c.in-Err.e (rw c.as_str.ensures at c.in-Err.ensures) (c.in-Ready.ensures.tells (version_in asked) first k.0))
