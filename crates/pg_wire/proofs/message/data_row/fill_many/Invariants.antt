use Rattle.pg_wire.proofs.PlaceLaws.{IsFinding}
use Rattle.pg_wire.proofs.message.data_row.fill_many.Given as goal

abbrev pub invariant-loop : goal.invariant-loop
invariant-loop l = IsFinding l.body l.count l.counter l.places.items l.place
