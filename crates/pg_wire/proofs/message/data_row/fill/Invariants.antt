use Rattle.std.proofs.Common.{◌≡◌, length, take}
use Rattle.pg_wire.proofs.PlaceLaws.{IsFinding}
use Rattle.pg_wire.proofs.message.data_row.fill.Given as goal

abbrev pub invariant-loop-index : goal.invariant-loop-index
invariant-loop-index l = record {
  found : IsFinding l.body l.count l.index (take l.index l.places) l.place;
  long : length l.places ≡ 8;
}
