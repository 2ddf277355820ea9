use Rattle.std.proofs.Common.{◌≡◌, ◌∙◌, None, ap, sym}
use Rattle.pg_wire.proofs.Tests.{if_ok}
use Rattle.pg_request.specs.declared.arguments.Parts.{Parts}
use Rattle.pg_request.specs.declared.unresolved.Open.{Open}
use Rattle.pg_request.specs.Asked.{filled}
use Rattle.pg_request.specs.Queries.{ArgumentsSeen, made_of}
use Rattle.pg_request.proofs.ValueLaws.{are_values_as, filled_is}
use Rattle.pg_request.proofs.arguments.Arguments.filled.Goals as goal

pub of_parts-requires-2 : goal.of_parts-requires-2
of_parts-requires-2 c = are_values_as c.patch_all.new.arguments c.len.result c.in_ok-encoded.encoded c.len.ensures (c.in_ok-encoded.ensures ∙ c.encoded.ensures.bytes) c.encoded.ensures.values

pub returns-clause-filled : goal.returns-clause-filled
returns-clause-filled c =
    let was = c.into_inner-types.result in
    let seen : ArgumentsSeen = made_of was.types was.count was.encoded was.unresolved in
    let left = c.in_ok-unresolved.ensures.ok ∙ ap (λ (x : Open). record { names = x.names; holes = c.new.result; given = None }) c.into_open-names.ensures in
    let same : seen ≡ c.args.self = ap (λ (p : Parts). made_of p.types p.count p.encoded p.unresolved) c.into_inner-types.ensures ∙ c.self.view_is in
    let told = filled_is c.args.oids.now seen c.in-Some.arguments c.patch_all.new.arguments c.len.result c.in_ok-encoded.encoded c.new.result c.in_ok-unresolved.unresolved (ap (λ (x : Open). x.given) (sym c.into_open-names.ensures) ∙ c.in-Some.is) c.patch_all.ensures c.len.ensures (c.in_ok-encoded.ensures ∙ c.encoded.ensures.bytes) c.new.ensures left in
    if_ok c.of_parts-2.result (λ a e. e ∙ told ∙ ap (filled c.args.oids.now) same) c.of_parts-2.ensures.made
