use Rattle.std.proofs.Common.{◌≡◌, ◌∙◌, ◌++◌, ℕ, List, [], drop, map, ap}
use Rattle.std.proofs.lemmas.List.{drop_all}
use Rattle.pg_columns.specs.declared.column.PgColumn.{PgColumn}
use Rattle.pg_resolve.specs.Resolving.{ResolverSeen, by_oid}
use Rattle.pg_learning.specs.Learning.{unknown}
use Rattle.pg_learning.proofs.PushLaws.{all_asked, types_asked}
use Rattle.pg_learning.proofs.pushing.ask_unknown.Goals as goal

abbrev ids : List PgColumn → List ℕ
ids columns = map (λ column. column.field.type_id) columns

pub returns : goal.returns
returns c =
    let types = c.args.types.now in
    let parameters = c.args.parameters.now in
    let columns = c.args.columns.now in
    let no_parameter : drop c.loop-oid.oid-index parameters ≡ [] = drop_all c.loop-oid.oid-index parameters c.loop-oid-test.false in
    let no_column : ids (drop c.loop-column.column-index columns) ≡ [] = ap ids (drop_all c.loop-column.column-index columns c.loop-column-test.false) in
    let first = all_asked types parameters _ _ c.loop-oid.resolver no_parameter c.loop-oid.invariant.pushed c.loop-oid.invariant.rest ∙ ap (λ (x : ResolverSeen). record x { pushed = x.pushed ++ map by_oid (unknown types parameters) }) c.new-resolver.ensures in
    types_asked types parameters (ids columns) c.loop-oid.resolver c.loop-column.resolver first (all_asked types (ids columns) _ c.loop-oid.resolver c.loop-column.resolver no_column c.loop-column.invariant.pushed c.loop-column.invariant.rest)
