use Rattle.pg_arguments.proofs.arguments.PgArguments.encoded.Goals as goal

pub returns-clause-values : goal.returns-clause-values
returns-clause-values c = rw (← c.self.view_is) c.self.invariant
