use Rattle.std.proofs.Common.{◌≡◌, ◌++◌}
use Rattle.pg_resolve.specs.Tables.{put_columns}
use Rattle.pg_resolve.proofs.tables.TableCache.put_columns.Given as goal

abbrev pub invariant-loop-column : goal.invariant-loop-column
invariant-loop-column l = record {
  put : l.self ≡ put_columns l.table l.yielded l.initial.self;
  rest : l.yielded ++ l.column-iterator.rest.items ≡ l.fn.columns.items;
}
