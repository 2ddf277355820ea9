use Rattle.std.proofs.lemmas.Result.{err_from_is_err_and}
use Rattle.pg_values.specs.declared.format.PgValueFormat.TheVariants as formats
use Rattle.pg_values.proofs.ReadLaws.{reads_next, bad_element}
use Rattle.pg_values.proofs.array_reading.read_each.Goals as goal

pub returns-in_err-decode-clause-cause : goal.returns-in_err-decode-clause-cause
returns-in_err-decode-clause-cause g c =
    let p = err_from_is_err_and c.from_residual.result c.from_residual.ensures.1 in
    let bad = rw c.bytes_of.ensures at c.in_err-decode.ensures.cause in
    rw (p.1, p.2) (bad_element (g.T.Decode.reads c.args.type_info.now formats.Text) c.args.elements.now c.loop-element.element-index c.element-item.result _ c.loop-element-test.true c.element-item.is bad)

pub loop-element-preserved : goal.loop-element-preserved
loop-element-preserved g c =
    let good = rw c.bytes_of.ensures at c.in_ok-decode.ensures.value in
    rw c.in_ok-push.ensures.items (reads_next (g.T.Decode.reads c.args.type_info.now formats.Text) c.args.elements.now c.loop-element.element-index c.loop-element.items.items c.element-item.result c.in_ok-decode.field-0 c.loop-element-test.true c.element-item.is c.loop-element.invariant good)
