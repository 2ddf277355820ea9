use Rattle.pg_call.specs.declared.kind.Kind.TheVariants as kinds
use Rattle.pg_migrating.specs.Sessions.{Goes}
use Rattle.cases.proofs.migrating.asking.statement.Given as goal

abbrev pub invariant-loop : goal.invariant-loop
invariant-loop g l = Goes g.D.Sessions.opens (kinds.Run g.R.Reading.how) l.state.session
