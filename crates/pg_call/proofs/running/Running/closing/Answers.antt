use Rattle.std.proofs.lemmas.Option.{IfSome_then}
use Rattle.pg_call.proofs.running.Running.closing.Goals as goal

pub returns-in-Own : goal.returns-in-Own
returns-in-Own c = IfSome_then c.closing.result c.closing.ensures (λ status hears. rw c.in-Own.is hears)
