use Rattle.std.proofs.Common.{◌≡◌, ◌++◌, take, string_bytes}
use Rattle.pg_resolve.specs.Listed.{listed}
use Rattle.pg_resolve.proofs.ListLaws.{comma_behind}
use Rattle.pg_resolve.proofs.listing.lookup_of.Given as goal

abbrev pub invariant-loop-item : goal.invariant-loop-item
invariant-loop-item g l = record {
  comma : l.comma ≡ comma_behind (take l.item-index l.items);
  text : string_bytes l.out ≡ l.start ++ listed g.T.Listed.text (take l.item-index l.items);
}
