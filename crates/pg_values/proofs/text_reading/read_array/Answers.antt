use Rattle.std.proofs.Common.{sym, ◌∙◌}
use Rattle.pg_values.proofs.ReadLaws.{none_of, on_ok, on_err}
use Rattle.pg_values.proofs.TextLaws.{array_rest, rest_array, no_array, not_braces}
use Rattle.pg_values.proofs.text_reading.read_array.Goals as goal

pub returns-in-Some-clause-value : goal.returns-in-Some-clause-value
returns-in-Some-clause-value c =
    let e = sym c.as_bytes-bytes.ensures.value ∙ c.in-Some.ensures in
    on_ok c.read_items.result _ _ (λ v. rest_array c.args.text.now c.in-Some.rest.now v.items e) c.read_items.ensures.value

pub returns-in-Some-clause-cause : goal.returns-in-Some-clause-cause
returns-in-Some-clause-cause c =
    let e = sym c.as_bytes-bytes.ensures.value ∙ c.in-Some.ensures in
    let full = not_braces c.as_bytes-bytes.result.now c.args.text.now c.is_empty_array.result c.as_bytes-bytes.ensures.value c.is_empty_array.ensures c.if-is_empty_array.false in
    on_err c.read_items.result _ _ (λ x. none_of _ _ x (λ bad xs r. bad xs (array_rest c.args.text.now c.in-Some.rest.now xs e full r))) c.read_items.ensures.cause

pub returns-in-None-clause-cause : goal.returns-in-None-clause-cause
returns-in-None-clause-cause c =
    let full = not_braces c.as_bytes-bytes.result.now c.args.text.now c.is_empty_array.result c.as_bytes-bytes.ensures.value c.is_empty_array.ensures c.if-is_empty_array.false in
    λ xs r. no_array c.args.text.now xs full (λ rest e. c.in-None.ensures rest (c.as_bytes-bytes.ensures.value ∙ e)) r
