use Rattle.std.proofs.Common.{◌≡◌, map}
use Rattle.pg_report.specs.declared.outcome.Item.TheVariants as items
use Rattle.pg_play.proofs.showing.rows_of.Given as goal

abbrev pub invariant-loop-row : goal.invariant-loop-row
invariant-loop-row l = l.items.items ≡ map (λ row. items.Row row.values) l.yielded
