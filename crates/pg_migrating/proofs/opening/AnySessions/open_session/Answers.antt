use Rattle.std.proofs.Common.{refl}
use Rattle.pg_conn.specs.Dials.{HandsOut}
use Rattle.pg_migrating.specs.Starts.{at_stage}
use Rattle.pg_migrating.specs.declared.opening.Connected.TheVariants as connected
use Rattle.pg_migrating.specs.declared.opening.Stage.TheVariants as stages
use Rattle.pg_migrating.proofs.OpeningLaws.{fails_behind, opens_behind}
use Rattle.pg_migrating.proofs.opening.AnySessions.open_session.Goals as goal

pub begin-requires : goal.begin-requires
begin-requires g c = rw c.into_stage.ensures c.requires.goes

pub returns-in-Err-clause-connects : goal.returns-in-Err-clause-connects
returns-in-Err-clause-connects g c = fails_behind g.D.L.Link.seen (HandsOut g.D.Dial.gives g.D.Dial.draws) g.D.Dial.seen c.args.self.now c.begin.new.dial c.args.start c.into_stage.result c.in-Err.e c.into_stage.ensures c.in-Err.ensures

pub returns-in-Pending-clause-connects : goal.returns-in-Pending-clause-connects
returns-in-Pending-clause-connects g c = opens_behind g.D.L.Link.seen (HandsOut g.D.Dial.gives g.D.Dial.draws) g.D.Dial.seen c.args.self.now c.begin.new.dial c.args.start c.into_stage.result c.in-Ok.begun.demand c.in-Ok.begun.start (connected.Waits (at_stage (stages.Begun c.in-Ok.begun.demand c.poll_within.new.self))) c.into_stage.ensures c.in-Ok.ensures.1 (c.poll_within.new.self, refl, c.in-Pending.ensures.left.0, record { left = c.args.left.now; now = c.poll_within.new.left; few = c.requires.left; polls = c.in-Pending.ensures.polls })

pub returns-in-Ready-Ok-clause-connects : goal.returns-in-Ready-Ok-clause-connects
returns-in-Ready-Ok-clause-connects g c = opens_behind g.D.L.Link.seen (HandsOut g.D.Dial.gives g.D.Dial.draws) g.D.Dial.seen c.args.self.now c.begin.new.dial c.args.start c.into_stage.result c.in-Ok.begun.demand c.in-Ok.begun.start (connected.Opens c.start.new.self) c.into_stage.ensures c.in-Ok.ensures.1 (c.poll_within.new.self, c.in-Ready-Ok.conn, rw c.into_request.ensures at c.start.ensures, record { left = c.args.left.now; now = c.poll_within.new.left; few = c.requires.left; polls = rw c.in-Ready-Ok.field-0-is at c.in-Ready-Ok.ensures.polls })

pub returns-in-Ready-Err-clause-connects : goal.returns-in-Ready-Err-clause-connects
returns-in-Ready-Err-clause-connects g c = opens_behind g.D.L.Link.seen (HandsOut g.D.Dial.gives g.D.Dial.draws) g.D.Dial.seen c.args.self.now c.begin.new.dial c.args.start c.into_stage.result c.in-Ok.begun.demand c.in-Ok.begun.start (connected.Fails c.in-Ready-Err.e) c.into_stage.ensures c.in-Ok.ensures.1 (c.poll_within.new.self, record { left = c.args.left.now; now = c.poll_within.new.left; few = c.requires.left; polls = rw c.in-Ready-Err.field-0-is at c.in-Ready-Err.ensures.polls })
