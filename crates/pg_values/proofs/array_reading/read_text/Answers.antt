use Rattle.pg_values.specs.declared.format.PgValueFormat.TheVariants as formats
use Rattle.pg_values.specs.Arrays.{element_type}
use Rattle.pg_values.proofs.ReadLaws.{on_ok, on_err, bad_text}
use Rattle.pg_values.proofs.array_reading.read_text.Goals as goal

pub returns-clause-value : goal.returns-clause-value
returns-clause-value g c =
    let utf8 = c.in-Ok.ensures.cases in
    let array = rw utf8.0 at c.in_ok-elements.ensures.value in
    let each = rw (c.deref.ensures.value, c.element_of.ensures) at c.read_each.ensures.value in
    on_ok c.read_each.result _ _ (λ v r. (c.in_ok-elements.elements.items, utf8.1, array, r)) each

pub returns-clause-cause : goal.returns-clause-cause
returns-clause-cause g c =
    let array = rw c.in-Ok.ensures.cases.0 at c.in_ok-elements.ensures.value in
    let bad = rw (c.deref.ensures.value, c.element_of.ensures) at c.read_each.ensures.cause in
    on_err c.read_each.result _ _ (λ e. bad_text (g.T.Decode.reads (element_type c.args.type_info.now) formats.Text) c.args.bytes.now c.in_ok-elements.elements.items e array) bad
