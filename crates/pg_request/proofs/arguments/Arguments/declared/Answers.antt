use Rattle.std.proofs.Common.{◌∙◌}
use Rattle.pg_wire.proofs.Tests.{if_ok}
use Rattle.pg_request.proofs.ValueLaws.{none_are_values, no_values_but}
use Rattle.pg_request.proofs.arguments.Arguments.declared.Goals as goal

pub of_parts-requires : goal.of_parts-requires
of_parts-requires c = none_are_values c.new-2.result c.new-2.ensures

pub returns-clause-declared : goal.returns-clause-declared
returns-clause-declared c = if_ok c.of_parts.result (λ a e. e ∙ no_values_but c.args.declared.now c.in_ok-types.types c.new-2.result c.in_ok-names.names c.new.result c.in_ok-unresolved.unresolved c.in_ok-types.ensures.oids (c.in_ok-names.ensures.ok ∙ c.declared_names.ensures) c.new.ensures c.in_ok-unresolved.ensures.ok) c.of_parts.ensures.made
