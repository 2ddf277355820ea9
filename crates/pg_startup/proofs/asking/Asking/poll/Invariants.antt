use Rattle.pg_startup.specs.Asking.{asking_by}
use Rattle.pg_startup.proofs.AskingLaws.{AsksFrom}
use Rattle.pg_startup.proofs.asking.Asking.poll.Given as goal

abbrev pub invariant-loop-left : goal.invariant-loop-left
invariant-loop-left g l = AsksFrom l.initial.left l.left (asking_by g.L.Link.seen l.initial.self) (asking_by g.L.Link.seen l.self)

abbrev pub decreases-loop-left : goal.decreases-loop-left
decreases-loop-left g l = l.left
