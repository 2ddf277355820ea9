use Rattle.std.proofs.Common.{sym, ◌∙◌}
use Rattle.pg_values.proofs.ReadLaws.{none_of, on_ok, on_err}
use Rattle.pg_values.proofs.TextLaws.{record_rest, rest_record}
use Rattle.pg_values.proofs.text_reading.read_composite.Goals as goal

pub returns-in-Some-clause-value : goal.returns-in-Some-clause-value
returns-in-Some-clause-value c =
    let e = sym c.as_bytes.ensures.value ∙ c.in-Some.ensures in
    on_ok c.read_items.result _ _ (λ v. rest_record c.args.text.now c.in-Some.rest.now v.items e) c.read_items.ensures.value

pub returns-in-Some-clause-cause : goal.returns-in-Some-clause-cause
returns-in-Some-clause-cause c =
    let e = sym c.as_bytes.ensures.value ∙ c.in-Some.ensures in
    on_err c.read_items.result _ _ (λ x. none_of _ _ x (λ bad xs r. bad xs (record_rest c.args.text.now c.in-Some.rest.now xs e r))) c.read_items.ensures.cause
