use Rattle.pg_call.proofs.WritingLaws.{Closed}
use Rattle.pg_call.proofs.writing.close_each.Given as goal

abbrev pub invariant-loop-statement : goal.invariant-loop-statement
invariant-loop-statement l = Closed l.statements l.statement-index l.initial.out l.out
