use Rattle.std.proofs.Common.{arith}
use Rattle.pg_startup.specs.Asking.{asking_by}
use Rattle.pg_startup.proofs.AskingLaws.{asks_last, asks_more}
use Rattle.pg_startup.proofs.asking.Asking.poll.Goals as goal

pub returns-in-Some : goal.returns-in-Some
returns-in-Some g c = asks_last _ c.loop-left.left _ _ _ (asking_by g.L.Link.seen c.ask_once.new.self) c.in-Some.answer c.loop-left.invariant (omega (arith, c.loop-left-test.true)) c.in-Some.ensures

pub loop-left-preserved : goal.loop-left-preserved
loop-left-preserved g c = asks_more _ c.loop-left.left _ _ _ (asking_by g.L.Link.seen c.ask_once.new.self) c.loop-left.invariant (omega (arith, c.loop-left-test.true)) c.in_default.ensures
