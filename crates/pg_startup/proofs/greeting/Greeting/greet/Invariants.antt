use Rattle.pg_stream.specs.Streams.{fuel_of}
use Rattle.pg_startup.specs.Greeting.{greeting_by}
use Rattle.pg_startup.proofs.GreetLaws.{GreetsFrom}
use Rattle.pg_startup.proofs.greeting.Greeting.greet.Given as goal

abbrev pub invariant-loop-answer : goal.invariant-loop-answer
invariant-loop-answer g l = GreetsFrom l.client (greeting_by g.L.Link.seen l.initial.self) (greeting_by g.L.Link.seen l.self)

abbrev pub decreases-loop-answer : goal.decreases-loop-answer
decreases-loop-answer g l = fuel_of (greeting_by g.L.Link.seen l.self).stream
