use Rattle.std.proofs.Common.{◌≡◌, ◌++◌, take, flat_map}
use Rattle.std.specs.List.{AllByRecursion}
use Rattle.pg_wire.specs.Bytes.{number32}
use Rattle.pg_wire.specs.Frontend.{IsNumber32}
use Rattle.pg_wire.proofs.message.parse.append_types.Given as goal

abbrev pub invariant-loop-oid : goal.invariant-loop-oid
invariant-loop-oid l = record {
  out : l.out ≡ l.initial.out ++ flat_map number32 (take l.oid-index l.types);
  numbers : AllByRecursion IsNumber32 (take l.oid-index l.types);
}
