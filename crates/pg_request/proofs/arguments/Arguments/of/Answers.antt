use Rattle.std.proofs.Common.{◌∙◌, ap}
use Rattle.pg_wire.proofs.Tests.{if_ok}
use Rattle.pg_request.specs.Queries.{ArgumentsSeen}
use Rattle.pg_request.proofs.ValueLaws.{are_values_as, values_sent_as}
use Rattle.pg_request.proofs.arguments.Arguments.of.Goals as goal

pub of_parts-requires : goal.of_parts-requires
of_parts-requires c = are_values_as c.args.arguments.now c.len.result c.in_ok-encoded.encoded c.len.ensures (c.in_ok-encoded.ensures ∙ c.encoded.ensures.bytes) c.encoded.ensures.values

pub returns-clause-values : goal.returns-clause-values
returns-clause-values c = if_ok c.of_parts.result (λ a e values h. ap (λ (x : ArgumentsSeen). x.values) e ∙ values_sent_as c.args.arguments.now c.len.result c.in_ok-encoded.encoded c.len.ensures (c.in_ok-encoded.ensures ∙ c.encoded.ensures.bytes) values h) c.of_parts.ensures.made
