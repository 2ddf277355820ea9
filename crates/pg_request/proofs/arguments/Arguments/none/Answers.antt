use Rattle.std.proofs.Common.{◌∙◌, ap}
use Rattle.pg_wire.proofs.Tests.{if_ok}
use Rattle.pg_request.specs.Asked.{typed_arguments}
use Rattle.pg_request.proofs.ValueLaws.{no_values, none_are_values}
use Rattle.pg_request.proofs.arguments.Arguments.none.Goals as goal

pub of_parts-requires : goal.of_parts-requires
of_parts-requires c = none_are_values c.new-2.result c.new-2.ensures

pub returns-clause-none : goal.returns-clause-none
returns-clause-none c = if_ok c.of_parts.result (λ a e. e ∙ no_values c.new.result c.new-2.result c.none.result c.none.ensures ∙ ap typed_arguments c.new.ensures) c.of_parts.ensures.made
