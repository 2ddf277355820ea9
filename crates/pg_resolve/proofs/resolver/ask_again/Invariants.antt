use Rattle.std.proofs.Common.{◌≡◌, ◌++◌, [], map, drop}
use Rattle.pg_resolve.specs.Resolving.{again, by_oid}
use Rattle.pg_resolve.proofs.resolver.ask_again.Given as goal

abbrev pub invariant-loop-oid : goal.invariant-loop-oid
invariant-loop-oid l = record {
  rest : again l.waiting.entries [] l.began ≡ l.seen.items ++ again l.waiting.entries l.seen.items (drop l.oid-index l.began);
  asked : l.pushed ≡ l.initial.pushed ++ map by_oid l.seen.items;
}
