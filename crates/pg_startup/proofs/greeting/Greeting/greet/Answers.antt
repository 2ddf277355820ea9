use Rattle.pg_startup.specs.Greeting.{greeting_by}
use Rattle.pg_startup.proofs.GreetLaws.{from_none, from_more, from_last}
use Rattle.pg_startup.proofs.greeting.Greeting.greet.Goals as goal

pub loop-answer-init : goal.loop-answer-init
loop-answer-init g c = from_none _ _

pub returns-in-Some : goal.returns-in-Some
returns-in-Some g c = from_last _ _ _ (greeting_by g.L.Link.seen c.greet_once.new.self) c.in-Some.answer c.loop-answer.invariant c.in-Some.ensures

pub loop-answer-preserved : goal.loop-answer-preserved
loop-answer-preserved g c = from_more _ _ _ (greeting_by g.L.Link.seen c.greet_once.new.self) c.loop-answer.invariant c.in_default.ensures
