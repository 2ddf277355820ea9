use Rattle.pg_arguments.proofs.IteratedLaws.{Reached}
use Rattle.pg_arguments.proofs.bind_iter.push_items.Given as goal

abbrev pub invariant-loop-length : goal.invariant-loop-length
invariant-loop-length g l = Reached 2147483647 g.I.Item.Encode.encoding (g.I.PgBindIterExt.answers l.fn.items) l.length (g.I.PgBindIterExt.answers l.items) l.initial.out l.out
