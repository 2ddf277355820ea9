use Rattle.pg_migrating.specs.Forcing.{GoesForce}
use Rattle.cases.proofs.migrating.asking.forcing.Given as goal

abbrev pub invariant-loop : goal.invariant-loop
invariant-loop g l = GoesForce g.D.Sessions.opens l.state.step l.state.session l.state.last
