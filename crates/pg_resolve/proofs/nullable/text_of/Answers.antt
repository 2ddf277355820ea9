use Rattle.pg_resolve.proofs.NullableLaws.{columns_next}
use Rattle.pg_resolve.proofs.nullable.text_of.Goals as goal

pub loop-place-preserved : goal.loop-place-preserved
loop-place-preserved c = columns_next c.args.start.now _ _ c.loop-place.place c.loop-place.auto.place c.loop-place.invariant c.in_ok-push_column.ensures
