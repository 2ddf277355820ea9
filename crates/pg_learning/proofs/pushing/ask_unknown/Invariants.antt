use Rattle.std.proofs.Common.{◌≡◌, ◌++◌, drop, map}
use Rattle.pg_resolve.specs.Resolving.{by_oid}
use Rattle.pg_learning.specs.Learning.{unknown}
use Rattle.pg_learning.proofs.pushing.ask_unknown.Given as goal

abbrev pub invariant-loop-oid : goal.invariant-loop-oid
invariant-loop-oid l = record {
  pushed : l.resolver.pushed ++ map by_oid (unknown l.types (drop l.oid-index l.parameters)) ≡ l.initial.resolver.pushed ++ map by_oid (unknown l.types l.parameters);
  rest : l.resolver ≡ record l.initial.resolver { pushed = l.resolver.pushed };
}

abbrev pub invariant-loop-column : goal.invariant-loop-column
invariant-loop-column l = record {
  pushed : l.resolver.pushed ++ map by_oid (unknown l.types (map (λ column. column.field.type_id) (drop l.column-index l.columns))) ≡ l.initial.resolver.pushed ++ map by_oid (unknown l.types (map (λ column. column.field.type_id) l.columns));
  rest : l.resolver ≡ record l.initial.resolver { pushed = l.resolver.pushed };
}
