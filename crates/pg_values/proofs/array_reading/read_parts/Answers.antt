use Rattle.std.proofs.Common.{sym}
use Rattle.pg_values.specs.declared.format.PgValueFormat.TheVariants as formats
use Rattle.pg_values.proofs.ReadLaws.{no_elements_no_array, on_err}
use Rattle.pg_values.proofs.array_reading.read_parts.Goals as goal

pub returns-in-Some-clause-cause : goal.returns-in-Some-clause-cause
returns-in-Some-clause-cause g c =
    on_err c.read_elements.result _ _ (λ e. no_elements_no_array (g.T.Decode.reads c.args.type_info.now formats.Binary) c.in-Some.count c.in-Some.rest.now c.args.bytes.now e (sym c.in-Some.ensures)) c.read_elements.ensures.cause
